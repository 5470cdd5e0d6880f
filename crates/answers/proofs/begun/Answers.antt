-- `answers::begun` meets its contract. Assumes nothing.
use Rattle.text.proofs.Texts.{one, ◌then◌}
use Rattle.answers.proofs.begun.Goals as goal

pub returns : goal.returns
returns c =
    one c.decimal.ensures then one c.text.ensures
