-- `answers::changed` meets its contract. Assumes nothing.
use Rattle.text.proofs.Texts.{one, ◌then◌}
use Rattle.answers.proofs.changed.Goals as goal

pub returns : goal.returns
returns c =
    one c.text.ensures then c.record.ensures then c.ended.ensures
