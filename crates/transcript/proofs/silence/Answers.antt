-- `transcript::silence` meets its contract. Assumes nothing.
use Rattle.text.specs.Outputs.{more}
use Rattle.transcript.proofs.silence.Goals as goal

pub returns : goal.returns
returns c = more c.text.ensures c.heard.ensures
