-- What is known by the phase. Assumes nothing.
use mathlib.Core.Path.{◌≡◌, refl}
use mathlib.Core.Bool.{true, false}
use Prim.Native.Nat.{ℕ}
use native.Mathlib.Omega.{arith}
use Rattle.sender.specs.declared.phase.Phase.{Phase}
use Rattle.sender.specs.declared.phase.Phase.TheVariants.{Asking, Telling, Placing, Sending, Ending, Done, GivenUp}
use Rattle.sender.specs.Phases.{by_phase, is_final}

-- what holds of each phase's choice holds of the choice
pub of_phase : {A : Type 0} (P : A → Type 0) (p : Phase) (a b c d e f g : A) → (p ≡ Asking → P a) → (p ≡ Telling → P b)
    → (p ≡ Placing → P c) → (p ≡ Sending → P d) → (p ≡ Ending → P e) → (p ≡ Done → P f) → (p ≡ GivenUp → P g) → P (by_phase p a b c d e f g)
of_phase P Asking a b c d e f g pa pb pc pd pe pf pg = pa refl
of_phase P Telling a b c d e f g pa pb pc pd pe pf pg = pb refl
of_phase P Placing a b c d e f g pa pb pc pd pe pf pg = pc refl
of_phase P Sending a b c d e f g pa pb pc pd pe pf pg = pd refl
of_phase P Ending a b c d e f g pa pb pc pd pe pf pg = pe refl
of_phase P Done a b c d e f g pa pb pc pd pe pf pg = pf refl
of_phase P GivenUp a b c d e f g pa pb pc pd pe pf pg = pg refl

-- done and given up have one choice
pub final_choice : {A : Type 0} (p : Phase) (a b c d e f : A) → is_final p ≡ true → by_phase p a b c d e f f ≡ f
final_choice Asking a b c d e f is = let z : ◌≡◌ {A = ℕ} 0 1 = cc in absurd (omega arith)
final_choice Telling a b c d e f is = let z : ◌≡◌ {A = ℕ} 0 1 = cc in absurd (omega arith)
final_choice Placing a b c d e f is = let z : ◌≡◌ {A = ℕ} 0 1 = cc in absurd (omega arith)
final_choice Sending a b c d e f is = let z : ◌≡◌ {A = ℕ} 0 1 = cc in absurd (omega arith)
final_choice Ending a b c d e f is = let z : ◌≡◌ {A = ℕ} 0 1 = cc in absurd (omega arith)
final_choice Done a b c d e f is = refl
final_choice GivenUp a b c d e f is = refl

-- and so have the others
pub open_choice : {A : Type 0} (p : Phase) (a f g : A) → is_final p ≡ false → by_phase p a a a a a f g ≡ a
open_choice Asking a f g is = refl
open_choice Telling a f g is = refl
open_choice Placing a f g is = refl
open_choice Sending a f g is = refl
open_choice Ending a f g is = refl
open_choice Done a f g is = let z : ◌≡◌ {A = ℕ} 0 1 = cc in absurd (omega arith)
open_choice GivenUp a f g is = let z : ◌≡◌ {A = ℕ} 0 1 = cc in absurd (omega arith)

-- ---- the phases that the last arm of a match, `_`, is left for: those that no arm before it took

-- all but done and given up
pub left_open : (p : Phase) → (p ≡ Done → ⊥) → (p ≡ GivenUp → ⊥) → is_final p ≡ false
left_open Asking done given_up = refl
left_open Telling done given_up = refl
left_open Placing done given_up = refl
left_open Sending done given_up = refl
left_open Ending done given_up = refl
left_open Done done given_up = absurd (done refl)
left_open GivenUp done given_up = absurd (given_up refl)

-- these two
pub left_final : (p : Phase) → (p ≡ Asking → ⊥) → (p ≡ Telling → ⊥) → (p ≡ Placing → ⊥) → (p ≡ Sending → ⊥) → (p ≡ Ending → ⊥)
    → is_final p ≡ true
left_final Asking a t p s e = absurd (a refl)
left_final Telling a t p s e = absurd (t refl)
left_final Placing a t p s e = absurd (p refl)
left_final Sending a t p s e = absurd (s refl)
left_final Ending a t p s e = absurd (e refl)
left_final Done a t p s e = refl
left_final GivenUp a t p s e = refl

-- all but placing and sending
pub left-free : {A : Type 0} (p : Phase) (a c d : A) → (p ≡ Placing → ⊥) → (p ≡ Sending → ⊥) → by_phase p a a c d a a a ≡ a
left-free Asking a c d placing sending = refl
left-free Telling a c d placing sending = refl
left-free Placing a c d placing sending = absurd (placing refl)
left-free Sending a c d placing sending = absurd (sending refl)
left-free Ending a c d placing sending = refl
left-free Done a c d placing sending = refl
left-free GivenUp a c d placing sending = refl
