-- Which sets of phases lie within which. Assumes nothing.
use mathlib.Core.Path.{◌≡◌, refl}
use mathlib.Core.Bool.{true, false}
use Prim.Native.Nat.{ℕ}
use native.Mathlib.Omega.{arith}
use Rattle.transfer.specs.declared.phase.Phase.{Phase}
use Rattle.transfer.specs.declared.phase.Phase.TheVariants.{Idle, Asked, Told, Receiving, Done}
use Rattle.transfer.specs.Phases.{idle, has_image, told_or_receiving, receiving, receiving_or_done}

-- a phase with an image is not idle
pub image_busy : (p : Phase) → has_image p ≡ true → idle p ≡ false
image_busy Idle e = let z : ◌≡◌ {A = ℕ} 0 1 = cc in absurd (omega arith)
image_busy Asked e = refl
image_busy Told e = refl
image_busy Receiving e = refl
image_busy Done e = refl

pub receiving_busy : (p : Phase) → receiving p ≡ true → idle p ≡ false
receiving_busy Idle e = let z : ◌≡◌ {A = ℕ} 0 1 = cc in absurd (omega arith)
receiving_busy Asked e = refl
receiving_busy Told e = refl
receiving_busy Receiving e = refl
receiving_busy Done e = refl

pub started-image : (p : Phase) → told_or_receiving p ≡ true → has_image p ≡ true
started-image Idle e = e
started-image Asked e = e
started-image Told e = refl
started-image Receiving e = refl
started-image Done e = refl

pub ending-image : (p : Phase) → receiving_or_done p ≡ true → has_image p ≡ true
ending-image Idle e = e
ending-image Asked e = e
ending-image Told e = refl
ending-image Receiving e = refl
ending-image Done e = refl
