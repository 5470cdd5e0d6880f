-- `sender::sender::Sender::open` meets its contract. Assumes nothing.
use Rattle.sender.specs.Opening.{opened_sender}
use Rattle.sender.proofs.sender.Sender.open.Goals as goal

pub returns-then-bad_offer : goal.returns-then-bad_offer
unfolding opened_sender
returns-then-bad_offer c = simp (← c.bad_offer.ensures, c.if-bad_offer.true, c.none.ensures)

pub returns : goal.returns
unfolding opened_sender
returns c = simp (← c.bad_offer.ensures, c.if-bad_offer.false, c.begun.ensures)
