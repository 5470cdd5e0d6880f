-- `answers::count` meets its contract. Assumes nothing.
use Rattle.text.proofs.Texts.{one, ◌then◌}
use Rattle.answers.proofs.count.Goals as goal

pub returns : goal.returns
returns c =
    one c.text.ensures then one c.decimal.ensures
