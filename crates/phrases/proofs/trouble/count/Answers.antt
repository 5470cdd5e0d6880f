-- `phrases::trouble::count` meets its contract. Assumes nothing.
use Rattle.text.specs.Outputs.{more}
use Rattle.text.proofs.Texts.{one}
use Rattle.phrases.proofs.trouble.count.Goals as goal

pub returns : goal.returns
returns c = more c.decimal.ensures (one c.text.ensures)
