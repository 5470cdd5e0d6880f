-- `transcript::sender_end` meets its contract. Assumes nothing.
use Rattle.text.proofs.Texts.{one_as}
use Rattle.transcript.proofs.sender_end.Goals as goal

pub returns : goal.returns
returns c = one_as c.sender_word.ensures c.text.ensures
