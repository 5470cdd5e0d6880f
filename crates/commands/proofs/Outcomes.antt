-- Outcomes are the same exactly when their numbers are, and what follows for the test on them. Assumes nothing.
use mathlib.Core.Path.{◌≡◌, refl, sym, ap, ◌∙◌}
use mathlib.Core.Bool.{true, false, cond}
use Prim.Native.Nat.{ℕ}
use borrow.Author.Tests.{eqb-true, eqb-false, eq-eqb, ne_eqb}
use lib.Dec.{eqb}
use Rattle.commands.specs.declared.outcome.Outcome.{Outcome}
use Rattle.commands.specs.declared.outcome.Outcome.TheVariants.{Accepted, NoFrameYet, UnlistedCommand, WrongHeader, UnlistedChannel, ShortRoom, OtherArea, BadArea, BadList, RulesBroken, WrongPhase, ShortReportRoom, CheckRuns, NoCheckRuns, Unfinished, WrongImage, WrongReply}
use Rattle.commands.specs.Outcomes.{outcome_number, same_outcome, OutcomesDiffer}

-- the outcome of a number
named : ℕ → Outcome
named n =
    cond (eqb n 1) NoFrameYet
    (cond (eqb n 2) UnlistedCommand
    (cond (eqb n 3) WrongHeader
    (cond (eqb n 4) UnlistedChannel
    (cond (eqb n 5) ShortRoom
    (cond (eqb n 6) OtherArea
    (cond (eqb n 7) BadArea
    (cond (eqb n 8) BadList
    (cond (eqb n 9) RulesBroken
    (cond (eqb n 10) WrongPhase
    (cond (eqb n 11) ShortReportRoom
    (cond (eqb n 12) CheckRuns
    (cond (eqb n 18) NoCheckRuns
    (cond (eqb n 19) Unfinished
    (cond (eqb n 20) WrongImage
    (cond (eqb n 21) WrongReply Accepted)))))))))))))))

named-back : (a : Outcome) → named (outcome_number a) ≡ a
unfolding named
named-back Accepted = refl
named-back NoFrameYet = refl
named-back UnlistedCommand = refl
named-back WrongHeader = refl
named-back UnlistedChannel = refl
named-back ShortRoom = refl
named-back OtherArea = refl
named-back BadArea = refl
named-back BadList = refl
named-back RulesBroken = refl
named-back WrongPhase = refl
named-back ShortReportRoom = refl
named-back CheckRuns = refl
named-back NoCheckRuns = refl
named-back Unfinished = refl
named-back WrongImage = refl
named-back WrongReply = refl

by-number : (a b : Outcome) → outcome_number a ≡ outcome_number b → a ≡ b
by-number a b e = sym (named-back a) ∙ ap named e ∙ named-back b

pub same-true : (a b : Outcome) → same_outcome a b ≡ true → a ≡ b
same-true a b e = by-number a b (eqb-true _ _ e)

pub is-same : (a b : Outcome) → a ≡ b → same_outcome a b ≡ true
is-same a b e = eq-eqb _ _ (ap outcome_number e)

pub not-same : (a b : Outcome) → (a ≡ b → ⊥) → same_outcome a b ≡ false
not-same a b n = ne_eqb _ _ (λ e. n (by-number a b e))

pub outcomes-differ : OutcomesDiffer
outcomes-differ a b = (same-true a b, is-same a b)

pub same-false : (a b : Outcome) → same_outcome a b ≡ false → a ≡ b → ⊥
same-false a b e is = eqb-false _ _ e (ap outcome_number is)
