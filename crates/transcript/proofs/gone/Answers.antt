-- `transcript::gone` meets its contract. Assumes nothing.
use Rattle.text.specs.Outputs.{more}
use Rattle.text.proofs.Texts.{one, ◌then◌}
use Rattle.transcript.proofs.gone.Goals as goal

pub returns : goal.returns
returns c = c.copy.ensures then more c.text.ensures (one c.text-2.ensures)
