-- `sender::sender::Sender::refusal` meets its contract. Assumes nothing.
use mathlib.Core.Path.{refl}
use borrow.Author.Tests.{eq-eqb, ne_eqb}
use Rattle.sender.specs.Requests.{sender_refusal}
use Rattle.sender.proofs.sender.Sender.refusal.Goals as goal

pub returns-then-breaks_rules : goal.returns-then-breaks_rules
unfolding sender_refusal
returns-then-breaks_rules c = (simp (← c.breaks_rules.ensures, c.if-breaks_rules.true), refl)

pub returns-then-n-self : goal.returns-then-n-self
unfolding sender_refusal
returns-then-n-self c =
    (simp (← c.breaks_rules.ensures, c.if-breaks_rules.false, ne_eqb _ _ c.if-n-self.true), refl)

pub returns-else-n-self : goal.returns-else-n-self
unfolding sender_refusal
returns-else-n-self c = simp (← c.breaks_rules.ensures, c.if-breaks_rules.false, eq-eqb _ _ c.if-n-self.false)
