-- A lawful record, and a call that is not refused. Assumes nothing.
use mathlib.Core.Path.{◌≡◌, refl, sym, ap₂, ◌∙◌}
use mathlib.Core.Bool.{Bool, true, false, cond, not, ◌||◌}
use mathlib.Core.Logic.{◌↔◌, inl, inr}
use Prim.Native.Nat.{ℕ, ◌<◌, ◌≤◌}
use native.Mathlib.Omega.{arith}
use borrow.Author.Tests.{ltb-true, ltb-false, le-ltb, eqb-true, eqb-false, eq-eqb, not-false}
use lib.Dec.{ltb, eqb}
use Rattle.fronts.specs.Frame.{max_frame}
use Rattle.sequences.proofs.Conditionals.{neither}
use Rattle.session.specs.Lawful.{unlawful}
use Rattle.commands.specs.declared.outcome.Outcome.{Outcome}
use Rattle.commands.specs.Outcomes.{accepted, short_room, other_area, rules_broken}
use Rattle.controller.specs.declared.record.Record.{Record}
use Rattle.controller.specs.Records.{unlawful_record}
use Rattle.controller.specs.Calls.{min_room, refusal_of}
use mathlib.Core.List.{List}
use lib.ListN.{length}
use Rattle.session.proofs.Unanswered.{NoRefusal}
use Rattle.controller.specs.Leaving.{IsRefusal, Refuses}
use Rattle.commands.proofs.Outcomes.{same-false}

pub record LawfulRecord (r : Record) : Type 0 where
  pub count : r.reader.count ≤ max_frame
  pub session : unlawful r.session ≡ false

pub lawful_record : (r : Record) → unlawful_record r ≡ false → LawfulRecord r
unfolding unlawful_record
lawful_record r e =
    let n = neither (ltb max_frame r.reader.count) _ e in
    record { count = ltb-false max_frame r.reader.count n.0; session = n.1 }

pub record_accepted : (r : Record) → LawfulRecord r → unlawful_record r ≡ false
unfolding unlawful_record
record_accepted r l = ap₂ ◌||◌ (le-ltb max_frame r.reader.count l.count) l.session

-- where a test does not refuse, what comes after it does not
passed : (b : Bool) (k n : Outcome) → (k ≡ accepted → ⊥) → cond b k n ≡ accepted → (b ≡ false) × (n ≡ accepted)
passed true k n other e = absurd (other e)
passed false k n other e = (refl, e)

-- a call that is not refused, and the other way round
pub record Accepted (r : Record) (room area : ℕ) : Type 0 where
  pub lawful : unlawful_record r ≡ false
  pub size : area ≡ r.session.opened
  pub wide : min_room ≤ room

pub accepted-of : (r : Record) (room area : ℕ) → refusal_of r room area ≡ accepted → Accepted r room area
unfolding refusal_of
accepted-of r room area e =
    let e1 = passed (unlawful_record r) rules_broken _ (same-false _ _ refl) e in
    let e2 = passed (not (eqb area r.session.opened)) other_area _ (same-false _ _ refl) e1.1 in
    let e3 = passed (ltb room min_room) short_room accepted (same-false _ _ refl) e2.1 in
    record { lawful = e1.0; size = eqb-true area r.session.opened (not-false _ e2.0); wide = ltb-false room min_room e3.0 }

pub accepts : (r : Record) (room area : ℕ) → Accepted r room area → refusal_of r room area ≡ accepted
unfolding refusal_of
accepts r room area a = simp (a.lawful, eq-eqb area r.session.opened a.size, le-ltb room min_room a.wide)

-- 6 and 5, each where what is judged before it does not refuse
pub six-given : (r : Record) (room area : ℕ) → unlawful_record r ≡ false → (refusal_of r room area ≡ other_area) ↔ (area ≡ r.session.opened → ⊥)
unfolding refusal_of
six-given r room area ok = go (eqb area r.session.opened) (ltb room min_room) refl refl
  where
    go : (b c : Bool) → eqb area r.session.opened ≡ b → ltb room min_room ≡ c
        → (refusal_of r room area ≡ other_area) ↔ (area ≡ r.session.opened → ⊥)
    go true true eb ec = rw (ok, eb, ec) (λ z. absurd (same-false _ _ refl z), λ n. absurd (n (eqb-true _ _ eb)))
    go true false eb ec = rw (ok, eb, ec) (λ z. absurd (same-false _ _ refl z), λ n. absurd (n (eqb-true _ _ eb)))
    go false c eb ec = rw (ok, eb) (λ _. eqb-false _ _ eb, λ _. refl)

pub five-given : (r : Record) (room area : ℕ) → unlawful_record r ≡ false → area ≡ r.session.opened
    → (refusal_of r room area ≡ short_room) ↔ (room < min_room)
unfolding refusal_of
five-given r room area ok size = go (ltb room min_room) refl
  where
    go : (c : Bool) → ltb room min_room ≡ c → (refusal_of r room area ≡ short_room) ↔ (room < min_room)
    go true ec = rw (ok, eq-eqb area r.session.opened size, ec) (λ _. ltb-true _ _ ec, λ _. refl)
    go false ec =
        rw (ok, eq-eqb area r.session.opened size, ec) (
          λ z. absurd (same-false _ _ refl z),
          λ h. absurd (let n = ltb-false room min_room ec in omega arith),
        )

pub refusal_is : (r : Record) (room area : ℕ) → (refusal_of r room area ≡ accepted → ⊥) → IsRefusal (refusal_of r room area)
unfolding refusal_of
refusal_is r room area n = go (unlawful_record r) (not (eqb area r.session.opened)) (ltb room min_room) refl refl refl
  where
    go : (a b c : Bool) → unlawful_record r ≡ a → not (eqb area r.session.opened) ≡ b → ltb room min_room ≡ c
        → IsRefusal (refusal_of r room area)
    go true b c ea eb ec = inr (inr (simp ea))
    go false true c ea eb ec = inr (inl (simp (ea, eb)))
    go false false true ea eb ec = inl (simp (ea, eb, ec))
    go false false false ea eb ec = absurd (n (simp (ea, eb, ec)))

pub nine-given : (r : Record) (room area : ℕ) → unlawful_record r ≡ true → refusal_of r room area ≡ rules_broken
unfolding refusal_of
nine-given r room area e = rw e

pub nine_only : (r : Record) (room area : ℕ) → refusal_of r room area ≡ rules_broken → unlawful_record r ≡ true
unfolding refusal_of
nine_only r room area e = go (unlawful_record r) (not (eqb area r.session.opened)) (ltb room min_room) refl refl refl
  where
    go : (a b c : Bool) → unlawful_record r ≡ a → not (eqb area r.session.opened) ≡ b → ltb room min_room ≡ c → unlawful_record r ≡ true
    go true b c ea eb ec = ea
    go false true c ea eb ec = absurd (same-false _ _ refl (simp (ea, eb) at e))
    go false false true ea eb ec = absurd (same-false _ _ refl (simp (ea, eb, ec) at e))
    go false false false ea eb ec = absurd (same-false _ _ refl (simp (ea, eb, ec) at e))

-- ---- 9, 6 and 5 as a call's outcome

module _ (r : Record) (room area : List ℕ) where
  pub code-refuses : Refuses r room area (refusal_of r (length room) (length area))
  code-refuses =
      record {
        nine = (nine_only r (length room) (length area), nine-given r (length room) (length area));
        six = six-given r (length room) (length area);
        five = five-given r (length room) (length area);
      }

  -- of a call that is not refused, whose outcome is another
  pub none-refuses : (n : Outcome) → Accepted r (length room) (length area) → NoRefusal n → Refuses r room area n
  none-refuses n a other =
      record {
        nine = (λ z. absurd (other.1.1 z), λ z. let w = sym z ∙ a.lawful in let y : ◌≡◌ {A = ℕ} 0 1 = cc in absurd (omega arith));
        six = λ _. (λ z. absurd (other.1.0 z), λ z. absurd (z a.size));
        five = λ _ _. (λ z. absurd (other.0 z), λ z. absurd (omega (arith, a.wide, z)));
      }
