-- `phrases::trouble::number` meets its contract. Assumes nothing.
use Rattle.text.specs.Outputs.{more}
use Rattle.text.proofs.Texts.{one}
use Rattle.phrases.proofs.trouble.number.Goals as goal

pub returns : goal.returns
returns c = more c.text.ensures (one c.decimal.ensures)
