-- `changes::senders::sender` meets its contract. Assumes nothing.
use Rattle.text.proofs.Texts.{one, ◌then◌}
use Rattle.changes.proofs.senders.sender.Goals as goal

pub returns : goal.returns
returns c = one c.text.ensures then c.offer.ensures then c.position.ensures then c.tries.ensures
