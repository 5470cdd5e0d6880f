-- `answers::framed` meets its contract. Assumes nothing.
use Rattle.text.proofs.Texts.{one, ◌then◌}
use Rattle.answers.proofs.framed.Goals as goal

pub returns : goal.returns
returns c =
    one c.decimal.ensures then c.in_room.ensures then c.ended.ensures
