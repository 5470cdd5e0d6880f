-- `transcript::at_controller` meets its contract. Assumes nothing.
use Rattle.text.specs.Outputs.{more}
use Rattle.text.proofs.Texts.{one, ◌then◌}
use Rattle.transcript.proofs.at_controller.Goals as goal

pub returns : goal.returns
returns c = c.copy.ensures then more c.text.ensures (more c.decimal.ensures (one c.text-2.ensures))
