-- `dialogue::run::Run::start` meets its contract. Assumes nothing.
use mathlib.Core.Path.{refl}
use Rattle.dialogue.proofs.run.Run.start.Goals as goal

pub returns : goal.returns
returns c =
    record {
      controller = c.open_on-record.ensures;
      sender = c.open_sender-sender.ensures;
      carrier = c.empty.ensures;
      going = refl;
    }
