-- `transcript::area_end` meets its contract. Assumes nothing.
use Rattle.text.proofs.Texts.{one_as}
use Rattle.transcript.proofs.area_end.Goals as goal

pub returns : goal.returns
returns c = one_as c.area_word.ensures c.text.ensures
