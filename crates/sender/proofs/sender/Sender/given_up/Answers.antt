-- `sender::sender::Sender::given_up` meets its contract. Assumes nothing.
use Rattle.sender.proofs.sender.Sender.given_up.Goals as goal

pub returns : goal.returns
returns c = simp (c.moved_to.ensures, c.to.ensures)
