-- `answers::called` meets its contract. Assumes nothing.
use Rattle.text.proofs.Texts.{one, ◌then◌}
use Rattle.answers.proofs.called.Goals as goal

pub returns : goal.returns
returns c =
    c.reading.ensures then c.in_room.ensures then one c.text.ensures then c.span.ensures
