-- `transcript::stored_of` meets its contract. Assumes nothing.
use Rattle.text.specs.Outputs.{more}
use Rattle.text.proofs.Texts.{one}
use Rattle.transcript.proofs.stored_of.Goals as goal

pub returns : goal.returns
returns c = more c.text.ensures (more c.decimal.ensures (more c.text-2.ensures (one c.decimal-2.ensures)))
