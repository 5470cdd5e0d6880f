-- `sender::sender::Sender::unheard` meets its contract. Assumes nothing.
use borrow.Author.Tests.{le-ltb, lt-ltb}
use Rattle.sender.specs.Silences.{unheard}
use Rattle.sender.proofs.sender.Sender.unheard.Goals as goal

pub returns-then-self-lt-MAX_SILENCES : goal.returns-then-self-lt-MAX_SILENCES
unfolding unheard
returns-then-self-lt-MAX_SILENCES c = simp (lt-ltb _ _ c.if-self-lt-MAX_SILENCES.true, c.again.ensures, c.to.ensures)

pub returns : goal.returns
unfolding unheard
returns c = simp (le-ltb _ _ c.if-self-lt-MAX_SILENCES.false, c.leg_over.ensures)
