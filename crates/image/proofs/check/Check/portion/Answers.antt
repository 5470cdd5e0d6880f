-- `image::check::Check::portion` meets its contract. Assumes nothing.
use borrow.Author.Tests.{ltb-true, ltb-false}
use mathlib.Core.Path.{◌≡◌, ◌∙◌}
use Prim.Native.Nat.{ℕ, ◌-◌}
use native.Mathlib.Omega.{arith}
use lib.Dec.{ltb}
use Rattle.sequences.proofs.Conditionals.{of_each}
use Rattle.image.specs.Checks.{portion_size, portion_of}
use Rattle.image.proofs.check.Check.portion.Goals as goal

smaller_is : (most left : ℕ) → most - (most - left) ≡ portion_size most left
smaller_is most left =
    of_each (λ (n : ℕ). most - (most - left) ≡ n) (ltb most left) most left
    (λ e. omega (arith, ltb-true most left e))
    (λ e. omega (arith, ltb-false most left e))

pub returns : goal.returns
unfolding portion_of
returns c =
    let count = c.smaller-count.ensures ∙ smaller_is c.args.most c.past.result in
    simp (
      ← c.past.ensures,
      ← count,
      c.read_on-check.ensures,
      c.verdict-verdict.ensures,
    )
