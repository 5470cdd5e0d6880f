-- `answers::ended` meets its contract. Assumes nothing.
use Rattle.text.proofs.Texts.{one}
use Rattle.answers.proofs.ended.Goals as goal

pub returns : goal.returns
returns c =
    one c.text.ensures
