-- The test before a sweep, by what `all` answers of the offsets. Assumes nothing.
use mathlib.Core.Path.{◌≡◌, refl, sym, ap, ◌∙◌}
use mathlib.Core.Bool.{Bool, ◌&&◌}
use mathlib.Core.List.{List, [], ◌∷◌}
use Prim.Native.Nat.{ℕ, ◌+◌}
use lib.Dec.{leb, leb-zero}
use Rattle.std.specs.List.{list_all}
use Rattle.crc.specs.Folding.{all_within, sweepable}

-- every offset is at least 0
at_most : (at : ℕ) (offs : List ℕ) → all_within 0 at offs ≡ list_all (λ (offset : ℕ). leb offset at) offs
unfolding all_within
at_most at [] = refl
at_most at (a ∷ offs) =
    ap (λ (t : Bool). t && (leb a at && all_within 0 at offs)) (leb-zero a) ∙ ap (λ (t : Bool). leb a at && t) (at_most at offs)

pub tested : (offs : List ℕ) (at n size : ℕ) (r : Bool) → r ≡ list_all (λ (offset : ℕ). leb offset at) offs
    → sweepable offs at n size ≡ (r && leb (at + n) size)
unfolding sweepable
tested offs at n size r e = ap (λ (t : Bool). t && leb (at + n) size) (at_most at offs ∙ sym e)
