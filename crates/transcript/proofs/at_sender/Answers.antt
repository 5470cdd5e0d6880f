-- `transcript::at_sender` meets its contract. Assumes nothing.
use Rattle.text.proofs.Texts.{◌then◌}
use Rattle.transcript.proofs.at_sender.Goals as goal

pub returns : goal.returns
returns c = c.copy.ensures then c.heard.ensures
