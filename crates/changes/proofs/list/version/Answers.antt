-- `changes::list::version` meets its contract. Assumes nothing.
use Rattle.text.proofs.Texts.{one, ◌then◌}
use Rattle.changes.proofs.list.version.Goals as goal

pub returns : goal.returns
returns c = c.digits.ensures then one c.text.ensures
