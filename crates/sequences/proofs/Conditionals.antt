-- What a choice between refusals leaves. Assumes nothing.
use mathlib.Core.Path.{◌≡◌, refl}
use mathlib.Core.Bool.{Bool, true, false, cond, ◌||◌}
use Prim.Native.Nat.{ℕ, ◌<◌}
use native.Mathlib.Omega.{arith}

-- no refusal was given: its test failed, and so did those after it
pub no-refusal : (a : Bool) (k rest : ℕ) → 0 < k → cond a k rest ≡ 0 → (a ≡ false) × (rest ≡ 0)
no-refusal true k rest h e = absurd (omega arith)
no-refusal false k rest h e = (refl, e)

pub neither : (a b : Bool) → (a || b) ≡ false → (a ≡ false) × (b ≡ false)
neither true b e = let z : ◌≡◌ {A = ℕ} 0 1 = cc in absurd (omega arith)
neither false b e = (refl, e)

-- what holds of both choices holds of the choice
pub of-both : {A : Type 0} (P : A → Type 0) (t : Bool) (a b : A) → P a → P b → P (cond t a b)
of-both P true a b p q = p
of-both P false a b p q = q

-- the same, with the test's outcome at hand
pub of_each : {A : Type 0} (P : A → Type 0) (t : Bool) (a b : A) → (t ≡ true → P a) → (t ≡ false → P b) → P (cond t a b)
of_each P true a b p q = p refl
of_each P false a b p q = q refl
