-- `transcript::controller_end` meets its contract. Assumes nothing.
use Rattle.text.specs.Outputs.{more}
use Rattle.text.proofs.Texts.{one, added_as, ◌then◌}
use Rattle.transcript.proofs.controller_end.Goals as goal

pub returns : goal.returns
returns c =
    more c.text.ensures
    (more (added_as c.phase_word.ensures c.text-2.ensures) (more c.text-3.ensures (c.stored_of.ensures then one c.text-4.ensures)))
