-- `sender::sender::Sender::onward` meets its contract. Assumes nothing.
use borrow.Author.Tests.{le-ltb, lt-ltb}
use Rattle.sender.specs.Replies.{onward}
use Rattle.sender.proofs.sender.Sender.onward.Goals as goal

pub returns-then-place-self : goal.returns-then-place-self
unfolding onward
returns-then-place-self c = simp (lt-ltb _ _ c.if-place-self.true, c.moved_to.ensures)

pub returns : goal.returns
unfolding onward
returns c = simp (le-ltb _ _ c.if-place-self.false, c.moved_to-2.ensures)
