-- `transcript::heard` meets its contract. Assumes nothing.
use Rattle.text.specs.Outputs.{more}
use Rattle.text.proofs.Texts.{one_as}
use Rattle.transcript.proofs.heard.Goals as goal

pub returns : goal.returns
returns c = more c.text.ensures (more c.decimal.ensures (one_as c.decision_word.ensures c.text-2.ensures))
