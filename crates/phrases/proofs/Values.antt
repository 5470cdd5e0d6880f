-- The number that digits say grows with each of them. Assumes nothing.
use borrow.Author.Tests.{ltb-false}
use mathlib.Core.Path.{◌≡◌, sym, ap, ◌∙◌}
use mathlib.Core.Bool.{Bool, false}
use mathlib.Core.List.{List, [], ◌∷◌}
use Prim.Native.Nat.{ℕ, ◌+◌, ◌*◌, ◌<◌, ◌≤◌}
use native.Mathlib.Numerals.{add-one}
use native.Mathlib.Omega.{arith}
use lib.Dec.{ltb}
use lib.ListN.{length, drop, get_or, drop_of_length-le}
use lib.Seq.{drop-cons}
use Rattle.text.specs.Numbers.{digit_of}
use Rattle.phrases.specs.Numbers.{value_behind}

pub at_least : (n : ℕ) (s : List ℕ) → n ≤ value_behind n s
unfolding value_behind
at_least n [] = omega arith
at_least n (b ∷ s) = let h = at_least (10 * n + digit_of b) s in omega arith

pub one_more : (s : List ℕ) (n i d : ℕ) → i < length s → d ≡ digit_of (get_or s i 0)
    → value_behind n (drop i s) ≡ value_behind (10 * n + d) (drop (i + 1) s)
unfolding value_behind
one_more s n i d h e = ap (value_behind n) (drop-cons s i 0 h) ∙ simp (e, add-one i)

pub no_more : (s : List ℕ) (n i : ℕ) → length s ≤ i → value_behind n (drop i s) ≡ n
unfolding value_behind
no_more s n i h = ap (value_behind n) (drop_of_length-le s {i = i} h)

-- a test that failed
pub not-above : (most n : ℕ) {x : Bool} → x ≡ ltb most n → x ≡ false → n ≤ most
not-above most n e f = ltb-false most n (sym e ∙ f)
