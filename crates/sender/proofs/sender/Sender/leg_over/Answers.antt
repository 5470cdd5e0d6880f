-- `sender::sender::Sender::leg_over` meets its contract. Assumes nothing.
use borrow.Author.Tests.{le-ltb, lt-ltb}
use Rattle.sender.specs.Decisions.{leg_over}
use Rattle.sender.proofs.sender.Sender.leg_over.Goals as goal

pub returns-then-self-lt-MAX_LEGS : goal.returns-then-self-lt-MAX_LEGS
unfolding leg_over
returns-then-self-lt-MAX_LEGS c =
    simp
    (lt-ltb _ _ c.if-self-lt-MAX_LEGS.true, c.begun-next.ensures, c.to.ensures)

pub returns : goal.returns
unfolding leg_over
returns c = simp (le-ltb _ _ c.if-self-lt-MAX_LEGS.false, c.given_up.ensures)
