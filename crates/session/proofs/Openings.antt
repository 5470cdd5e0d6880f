-- Opening gives a lawful session, and the all-zero session is not lawful. Assumes nothing.
use mathlib.Core.Path.{◌≡◌, refl, sym, ap, ap₂, ◌∙◌, subst}
use mathlib.Core.Bool.{Bool, true, false, cond, ◌||◌}
use mathlib.Core.List.{List}
use Prim.Native.Nat.{ℕ}
use native.Mathlib.Omega.{arith}
use borrow.Author.Tests.{ltb-false, le-ltb}
use lib.Dec.{ltb}
use lib.ListN.{length}
use Rattle.sequences.specs.Search.{find}
use Rattle.boards.specs.declared.board.Board.{Board}
use Rattle.sequences.proofs.Conditionals.{neither}
use Rattle.commands.specs.declared.outcome.Outcome.{Outcome}
use Rattle.commands.specs.Outcomes.{accepted, bad_area_length, bad_boards}
use Rattle.boards.specs.Boards.{max_boards, bad_list, GoodList}
use Rattle.commands.specs.Limits.{max_area}
use Rattle.session.specs.Opening.{bad_area, no_session, fresh_session, opened}
use Rattle.session.specs.Lawful.{unlawful, Lawful}
use Rattle.session.specs.Openings.{Usable, GoodArea, SessionOpens}
use Rattle.boards.proofs.Places.{list-fits, list_same}
use Rattle.session.proofs.Lawfuls.{lawful-accepted}
use mathlib.Core.Logic.{◌↔◌}
use Rattle.boards.proofs.ListRules.{list_rule}
use Rattle.commands.proofs.Outcomes.{same-false}

fresh-lawful : (bs : List Board) (n area : ℕ) → length bs ≡ max_boards → bad_list bs n ≡ false → bad_area area ≡ false
    → Lawful (fresh_session bs n area)
unfolding fresh_session
fresh-lawful bs n area size good fits =
    let a = neither (ltb area 1) _ fits in
    record {
      list = list_same bs n size (list-fits bs n good) ∙ good;
      some-area = ltb-false area 1 a.0;
      small-area = ltb-false max_area area a.1;
      stored = omega arith;
      announced = omega arith;
      number = omega arith;
      most-last = omega arith;
      last_stored = omega arith;
      check-unread = λ e. let z : ◌≡◌ {A = ℕ} 0 1 = cc in absurd (omega arith);
      check-stored = λ e. let z : ◌≡◌ {A = ℕ} 0 1 = cc in absurd (omega arith);
      check_phase = λ e. let z : ◌≡◌ {A = ℕ} 0 1 = cc in absurd (omega arith);
      listed = λ e. let z : ◌≡◌ {A = ℕ} 0 1 = cc in absurd (omega arith);
      least_size = λ e. let z : ◌≡◌ {A = ℕ} 0 1 = cc in absurd (omega arith);
      most-size = λ e. let z : ◌≡◌ {A = ℕ} 0 1 = cc in absurd (omega arith);
      some-image = λ e. let z : ◌≡◌ {A = ℕ} 0 1 = cc in absurd (omega arith);
    }

pub open_usable : (bs : List Board) (n area : ℕ) → length bs ≡ max_boards → (opened bs n area).outcome ≡ accepted → Usable bs n area
unfolding opened
open_usable bs n area size z = go (bad_list bs n) (bad_area area) refl refl
  where
    go : (a b : Bool) → bad_list bs n ≡ a → bad_area area ≡ b → Usable bs n area
    go true b ea eb = absurd (same-false _ _ refl (simp ea at z))
    go false true ea eb = absurd (same-false _ _ refl (simp (ea, eb) at z))
    go false false ea eb =
        let is : (opened bs n area).session ≡ fresh_session bs n area = simp (ea, eb) in
        record { fresh = is; lawful = ap unlawful is ∙ lawful-accepted (fresh_session bs n area) (fresh-lawful bs n area size ea eb) }

-- a refused opening hands back the all-zero session,
pub open_refused : (bs : List Board) (n area : ℕ) → ((opened bs n area).outcome ≡ accepted → ⊥) → (opened bs n area).session ≡ no_session
unfolding opened
open_refused bs n area z = go (bad_list bs n) (bad_area area) refl refl
  where
    go : (a b : Bool) → bad_list bs n ≡ a → bad_area area ≡ b → (opened bs n area).session ≡ no_session
    go true b ea eb = simp ea
    go false true ea eb = simp (ea, eb)
    go false false ea eb = absurd (z (simp (ea, eb)))

-- which meets outcome 9
pub none-unlawful : unlawful no_session ≡ true
unfolding unlawful bad_list find
none-unlawful = refl

-- ---- exactly when each outcome is given

good-area : (area : ℕ) → bad_area area ≡ false → GoodArea area
good-area area e = let a = neither (ltb area 1) _ e in (ltb-false area 1 a.0, ltb-false max_area area a.1)

area-good : (area : ℕ) → GoodArea area → bad_area area ≡ false
area-good area g = ap₂ ◌||◌ (le-ltb area 1 g.0) (le-ltb max_area area g.1)

-- the outcome, by the two tests
abbrev by_tests : Bool → Bool → Outcome
by_tests a b = cond a bad_boards (cond b bad_area_length accepted)

opened-by : (bs : List Board) (n area : ℕ) → (opened bs n area).outcome ≡ by_tests (bad_list bs n) (bad_area area)
unfolding opened
opened-by bs n area = go (bad_list bs n) (bad_area area) refl refl
  where
    go : (a b : Bool) → bad_list bs n ≡ a → bad_area area ≡ b → (opened bs n area).outcome ≡ by_tests (bad_list bs n) (bad_area area)
    go true b ea eb = simp ea
    go false true ea eb = simp (ea, eb)
    go false false ea eb = simp (ea, eb)

module _ (bs : List Board) (n area : ℕ) where
  good : bad_list bs n ≡ false → GoodList bs n
  good = (list_rule bs n).0

  not_good : bad_list bs n ≡ true → GoodList bs n → ⊥
  not_good e g = let z = sym e ∙ (list_rule bs n).1 g in let y : ◌≡◌ {A = ℕ} 0 1 = cc in omega arith

  not_area : bad_area area ≡ true → GoodArea area → ⊥
  not_area e g = let z = sym e ∙ area-good area g in let y : ◌≡◌ {A = ℕ} 0 1 = cc in omega arith

  -- what holds of each outcome by the two tests
  by-outcome : (P : Outcome → Type 0) → (bad_list bs n ≡ true → P bad_boards) → (bad_list bs n ≡ false → bad_area area ≡ true → P bad_area_length)
      → (bad_list bs n ≡ false → bad_area area ≡ false → P accepted) → P (opened bs n area).outcome
  by-outcome P x y z = subst P (sym (opened-by bs n area)) (go (bad_list bs n) (bad_area area) refl refl)
    where
      go : (a b : Bool) → bad_list bs n ≡ a → bad_area area ≡ b → P (by_tests a b)
      go true b ea eb = x ea
      go false true ea eb = y ea eb
      go false false ea eb = z ea eb

  opens_8 : ((opened bs n area).outcome ≡ bad_boards) ↔ (GoodList bs n → ⊥)
  opens_8 =
      by-outcome (λ k. (k ≡ bad_boards) ↔ (GoodList bs n → ⊥))
      (λ e. (λ _. not_good e, λ _. refl))
      (λ e f. (λ z. absurd (same-false _ _ refl z), λ bad. absurd (bad (good e))))
      (λ e f. (λ z. absurd (same-false _ _ refl z), λ bad. absurd (bad (good e))))

  opens_7 : ((opened bs n area).outcome ≡ bad_area_length) ↔ (GoodList bs n × (GoodArea area → ⊥))
  opens_7 =
      by-outcome (λ k. (k ≡ bad_area_length) ↔ (GoodList bs n × (GoodArea area → ⊥)))
      (λ e. (λ z. absurd (same-false _ _ refl z), λ w. absurd (not_good e w.0)))
      (λ e f. (λ _. (good e, not_area f), λ _. refl))
      (λ e f. (λ z. absurd (same-false _ _ refl z), λ w. absurd (w.1 (good-area area f))))

  opens_0 : ((opened bs n area).outcome ≡ accepted) ↔ (GoodList bs n × GoodArea area)
  opens_0 =
      by-outcome (λ k. (k ≡ accepted) ↔ (GoodList bs n × GoodArea area))
      (λ e. (λ z. absurd (same-false _ _ refl z), λ w. absurd (not_good e w.0)))
      (λ e f. (λ z. absurd (same-false _ _ refl z), λ w. absurd (not_area f w.1)))
      (λ e f. (λ _. (good e, good-area area f), λ _. refl))

pub session-opens : SessionOpens
session-opens =
    record {
      eight = opens_8;
      seven = opens_7;
      none = opens_0;
      usable = open_usable;
      refused = open_refused;
      none-unlawful = none-unlawful;
    }
