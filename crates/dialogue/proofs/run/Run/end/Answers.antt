-- `dialogue::run::Run::end` meets its contract. Assumes nothing.
use mathlib.Core.Path.{ap}
use Rattle.text.proofs.Texts.{texts_as, ◌then◌}
use Rattle.transcript.specs.Lines.{sender_end_texts, area_end_texts}
use Rattle.dialogue.proofs.run.Run.end.Goals as goal

pub returns : goal.returns
returns c =
    record {
      all = c.area_end.new.output;
      tells =
          c.cleared.ensures.tells
          then
          (texts_as (ap sender_end_texts c.is_done.ensures) c.sender_end.ensures
          then
          (c.controller_end.ensures then texts_as (ap area_end_texts c.begins.ensures) c.area_end.ensures));
      flushes = c.flush.ensures;
    }
