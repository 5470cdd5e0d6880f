-- What the tests of `folding` mean: offsets lie within bounds, and places in a buffer. Assumes nothing.
use mathlib.Core.Path.{◌≡◌, refl, ap, ap₂, ◌∙◌}
use mathlib.Core.Bool.{Bool, true, cond, ◌&&◌}
use mathlib.Core.List.{List, [], ◌∷◌}
use mathlib.Core.Logic.{◌↔◌}
use Prim.Native.Nat.{ℕ, zero, suc, ◌+◌, ◌≤◌, zero-le}
use native.Mathlib.Omega.{arith}
use borrow.Author.Tests.{leb-true, le-leb}
use lib.Dec.{leb}
use lib.ListN.{length, drop}
use lib.Seq.{paste}
use Rattle.std.proofs.lemmas.Bool.{and_parts}
use Rattle.crc.specs.Folding.{Within, all_within, sweepable, movable, swept, unswept}

-- every offset is within the bounds exactly where the test says so
pub means-within : (l m : ℕ) (offs : List ℕ) → all_within l m offs ≡ true → Within l m offs
unfolding all_within
means-within l m [] e n h = absurd (omega arith)
means-within l m (a ∷ os) e zero h =
    let first = and_parts (leb l a) (leb a m && all_within l m os) e in
    (leb-true l a first.0, leb-true a m (and_parts (leb a m) (all_within l m os) first.1).0)
means-within l m (a ∷ os) e (suc n) h =
    means-within l m os (and_parts (leb a m) (all_within l m os) (and_parts (leb l a) (leb a m && all_within l m os) e).1).1 n (omega arith)

pub is_within : (l m : ℕ) (offs : List ℕ) → Within l m offs → all_within l m offs ≡ true
unfolding all_within
is_within l m [] w = refl
is_within l m (a ∷ os) w =
    let first : (l ≤ a) × (a ≤ m) = w 0 (omega arith) in
    ap₂ ◌&&◌ (le-leb l a first.0) (ap₂ ◌&&◌ (le-leb a m first.1) (is_within l m os (λ n h. w (suc n) (omega arith))))

-- bytes may be swept exactly where they lie in the buffer and no offset leads out of it,
pub sweepable_where : (offs : List ℕ) (p n size : ℕ) → (sweepable offs p n size ≡ true) ↔ (Within 0 p offs × (p + n ≤ size))
unfolding sweepable
sweepable_where offs p n size = (
  λ e. let parts = and_parts (all_within 0 p offs) (leb (p + n) size) e in (means-within 0 p offs parts.0, leb-true (p + n) size parts.1),
  λ h. ap₂ ◌&&◌ (is_within 0 p offs h.0) (le-leb (p + n) size h.1),
)

-- and moved down exactly where they do and are to go no higher
pub movable_where : (from to n size : ℕ) → (movable from to n size ≡ true) ↔ ((to ≤ from) × (from + n ≤ size))
unfolding movable
movable_where from to n size = (
  λ e. let parts = and_parts (leb to from) (leb (from + n) size) e in (leb-true to from parts.0, leb-true (from + n) size parts.1),
  λ h. ap₂ ◌&&◌ (le-leb to from h.0) (le-leb (from + n) size h.1),
)

-- ---- so there the functions of `folding` do what they are for

chosen : {A : Type 0} (t : Bool) (a b x : A) → x ≡ cond t a b → t ≡ true → x ≡ a
chosen t a b x e h = e ∙ ap (λ (y : Bool). cond y a b) h

pub sweeps : (offs s b c : List ℕ) (p : ℕ) → Within 1 p offs → p + length s ≤ length b
    → c ≡ cond (sweepable offs p (length s) (length b)) (swept offs p s b) b → c ≡ swept offs p s b
sweeps offs s b c p w h e = chosen _ _ _ c e ((sweepable_where offs p (length s) (length b)).1 (λ i there. (zero-le, (w i there).1), h))

pub unsweeps : (offs b u v : List ℕ) (p : ℕ) → Within 1 p offs → p + length u ≤ length b
    → v ≡ cond (sweepable offs p (length u) (length b)) (unswept offs p (length u) b) u → v ≡ unswept offs p (length u) b
unsweeps offs b u v p w h e = chosen _ _ _ v e ((sweepable_where offs p (length u) (length b)).1 (λ i there. (zero-le, (w i there).1), h))

pub moves : (b c : List ℕ) (from to n : ℕ) → to ≤ from → from + n ≤ length b
    → c ≡ cond (movable from to n (length b)) (paste b to (drop from b) n) b → c ≡ paste b to (drop from b) n
moves b c from to n down h e = chosen _ _ _ c e ((movable_where from to n (length b)).1 (down, h))
