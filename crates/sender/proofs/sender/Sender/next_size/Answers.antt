-- `sender::sender::Sender::next_size` meets its contract. Assumes nothing.
use mathlib.Core.Path.{◌≡◌, refl, ap₂, ◌∙◌}
use mathlib.Core.Bool.{Bool, true, false, cond}
use Prim.Native.Nat.{ℕ, min}
use native.Mathlib.Omega.{arith}
use borrow.Author.Tests.{ltb-true, ltb-false}
use lib.Dec.{ltb}
use Rattle.sender.specs.Senders.{next_size}
use Rattle.sender.proofs.sender.Sender.next_size.Goals as goal

smaller : (a b : ℕ) → min a b ≡ cond (ltb a b) a b
smaller a b = go (ltb a b) refl
  where
    go : (t : Bool) → ltb a b ≡ t → min a b ≡ cond t a b
    go true e = omega (arith, ltb-true a b e)
    go false e = omega (arith, ltb-false a b e)

pub returns : goal.returns
unfolding next_size
returns c =
    c.min.ensures ∙ smaller _ _
    ∙ ap₂ (λ (left packet : ℕ). cond (ltb left packet) left packet) c.saturating_sub-left.ensures c.packet_size.ensures
