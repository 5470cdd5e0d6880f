-- `answers::sender_changed` meets its contract. Assumes nothing.
use Rattle.text.proofs.Texts.{one, ◌then◌}
use Rattle.answers.proofs.sender_changed.Goals as goal

pub returns : goal.returns
returns c =
    one c.text.ensures then c.sender.ensures then c.ended.ensures
