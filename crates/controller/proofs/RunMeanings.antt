-- What demand 3's definitions mean: a refused call, and the plain run on a lawful record. Assumes nothing.
use mathlib.Core.Path.{◌≡◌, refl, sym, ap, ap₂, ◌∙◌, subst}
use mathlib.Core.Bool.{Bool, true, false, not, ◌||◌}
use mathlib.Core.List.{List, [], ◌∷◌}
use Prim.Native.Nat.{ℕ}
use native.Mathlib.Omega.{arith}
use borrow.Author.Tests.{eqb-true, eqb-false, ltb-true, ltb-false}
use lib.Dec.{eqb, ltb}
use lib.ListN.{length}
use Rattle.fronts.specs.Frame.{Frame}
use Rattle.frames.specs.PlainRun.{plain}
use Rattle.commands.specs.declared.outcome.Outcome.{Outcome}
use Rattle.commands.specs.Outcomes.{accepted, short_room, other_area, rules_broken}
use Rattle.session.proofs.Checks.{finished-by}
use Rattle.ending.specs.Portions.{unread, will_say}
use Rattle.controller.specs.declared.record.Record.{Record}
use Rattle.commands.specs.Outcomes.{same_outcome}
use Rattle.controller.specs.Records.{unlawful_record}
use Rattle.controller.specs.Calls.{min_room, refusal_of, CallLeaves}
use Rattle.controller.specs.Portions.{CallKind, line_call, portion}
use Rattle.controller.specs.Leaving.{Refuses}
use Rattle.controller.specs.Demand3.{State, step_to, reply_to, lent, outcome_in, is_refusal, is_accepted, RefusedMeans}
use Rattle.controller.specs.Demand3.{StaysLawful, PlainRunLawful}
use Rattle.controller.proofs.Refusals.{lawful_record, accepted-of, accepts}
use Rattle.controller.proofs.Steps.{given_state, leaves_by}
use Rattle.controller.proofs.Settling.{Good, settled_state, ended-still, settled_step}
use Rattle.controller.proofs.Keeping.{given-good, running_settled, still_settled}
use Rattle.controller.proofs.Leavings.{leaving}
use Rattle.controller.proofs.PortionLeavings.{portion-leaving}
use Rattle.commands.proofs.Outcomes.{same-true, is-same, not-same}

-- ---- a refused call

true_false : {A : Type 0} → true ≡ false → A
true_false e = let z : ◌≡◌ {A = ℕ} 0 1 = cc in absurd (omega arith)

or_true : (a : Bool) → (a || true) ≡ true
or_true true = refl
or_true false = refl

module _ (r : Record) (room area : List ℕ) (n : Outcome) (x : Refuses r room area n) where
  told : (a : Bool) → same_outcome (refusal_of r (length room) (length area)) accepted ≡ a → a ≡ not (is_refusal n)
  told true e =
      let a = accepted-of r (length room) (length area) (same-true _ _ e) in
      let not-nine = not-same n rules_broken (λ z. true_false (sym (x.nine.0 z) ∙ a.lawful)) in
      let not-six = not-same n other_area (λ z. (x.six a.lawful).0 z a.size) in
      let not_five = not-same n short_room (λ z. let short = (x.five a.lawful a.size).0 z in omega (arith, a.wide)) in
      sym (ap not (ap₂ ◌||◌ not-nine (ap₂ ◌||◌ not-six not_five)))
  told false e = go (unlawful_record r) (eqb (length area) r.session.opened) (ltb (length room) min_room) refl refl refl
    where
      go : (a b c : Bool) → unlawful_record r ≡ a → eqb (length area) r.session.opened ≡ b → ltb (length room) min_room ≡ c
          → false ≡ not (is_refusal n)
      go true b c ea eb ec =
          sym (ap (λ (y : Bool). not (y || (same_outcome n other_area || same_outcome n short_room))) (is-same n rules_broken (x.nine.1 ea)))
      go false false c ea eb ec =
          let six = is-same n other_area ((x.six ea).1 (eqb-false _ _ eb)) in
          sym (ap (λ (y : Bool). not (same_outcome n rules_broken || (y || same_outcome n short_room))) six
          ∙ ap not (or_true (same_outcome n rules_broken)))
      go false true true ea eb ec =
          let five = is-same n short_room ((x.five ea (eqb-true _ _ eb)).1 (ltb-true _ _ ec)) in
          sym (ap (λ (y : Bool). not (same_outcome n rules_broken || (same_outcome n other_area || y))) five
          ∙ ap (λ (y : Bool). not (same_outcome n rules_broken || y)) (or_true (same_outcome n other_area))
          ∙ ap not (or_true (same_outcome n rules_broken)))
      go false true false ea eb ec =
          let ok = accepts r (length room) (length area) (record { lawful = ea; size = eqb-true _ _ eb; wide = ltb-false _ _ ec }) in
          true_false (sym (is-same _ accepted ok) ∙ e)

pub refused-means : RefusedMeans
refused-means c p = go c.kind refl
  where
    memory : List ℕ
    memory = lent c.lends p.area

    go : (k : CallKind) → c.kind ≡ k → is_accepted c p ≡ not (is_refusal (outcome_in k c p))
    go (line_call k) e =
        let x = subst (λ (y : CallLeaves). Refuses p.at c.room memory y.called.outcome) (sym (leaves_by k c p))
        (leaving k p.untaken p.at c.room memory).refuses in
        told p.at c.room memory _ x (is_accepted c p) refl
    go (portion most) e =
        told p.at c.room memory _ (portion-leaving most p.at c.room memory).refuses (is_accepted c p) refl

-- ---- the plain run

-- what is due of a running check is done
settled_lawful : (s : State) → Good s → StaysLawful (settled_state s)
settled_lawful s g = go s.session.transfer.check.running refl
  where
    go : (b : Bool) → s.session.transfer.check.running ≡ b → StaysLawful (settled_state s)
    go false e = subst StaysLawful (sym (still_settled s e)) (record { lawful = g.lawful; size = g.size; no-check = e })
    go true e =
        let most = unread s.session.transfer in
        subst StaysLawful (sym (running_settled s e))
        (record {
          lawful = (finished-by s.session most s.area g.lawful g.size e (omega arith)).lawful-after;
          size = g.size;
          no-check = ended-still s.session.transfer (will_say s.session.transfer s.area);
        })

plain-lawful : (s : State) → StaysLawful s → (fs : List Frame) → StaysLawful (plain step_to reply_to s fs).state
unfolding plain
plain-lawful s l [] = l
plain-lawful s l (f ∷ fs) =
    let g : Good s = record { lawful = l.lawful; size = l.size } in
    plain-lawful (step_to s f) (subst StaysLawful (settled_step s f g l.no-check) (settled_lawful (given_state s f) (given-good s f g))) fs

pub plain-run-lawful : PlainRunLawful
plain-run-lawful r area o fs =
    plain-lawful (record { session = r.session; area = area })
    (record { lawful = (lawful_record r o.lawful).session; size = o.size; no-check = o.no-check }) fs
