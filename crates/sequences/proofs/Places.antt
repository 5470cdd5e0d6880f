-- Bytes written to a place among others, and copied there. Assumes nothing.
use mathlib.Core.Path.{◌≡◌, refl, sym, ap, ap₂, subst, ◌∙◌}
use mathlib.Core.Bool.{Bool, cond}
use mathlib.Core.List.{List, ◌++◌, append_assoc, append-nil}
use mathlib.Core.Logic.{⊎_elim}
use Prim.Native.Nat.{ℕ, ◌+◌, ◌-◌, ◌≤◌, ◌<◌}
use native.Mathlib.Omega.{arith}
use borrow.Author.Tests.{le-leb, lt-leb}
use lib.ListN.{length, take, drop, length-append, length-drop, drop_of_length-le}
use lib.Seq.{take_all, take-length, take-take, take-append_seam, take-append-le, drop_at, drop-drop, drop-append-add, length-take-le}
use Rattle.sequences.specs.Places.{written_at, WritesAnywhere}
use Rattle.sequences.proofs.Orders.{lt_or_le}
use Rattle.sequences.proofs.Slices.{slice_cut}

-- where they fit
pub written-fits : (all p : List ℕ) (at : ℕ) → at + length p ≤ length all
    → written_at all at p ≡ take at all ++ (p ++ drop (at + length p) all)
unfolding written_at
written-fits all p at h =
    ap (λ (b : Bool). cond b (take at all ++ (p ++ drop (at + length p) all)) all) (le-leb (at + length p) (length all) h)

-- where they do not
pub written_past : (all p : List ℕ) (at : ℕ) → length all < at + length p → written_at all at p ≡ all
unfolding written_at
written_past all p at h =
    ap (λ (b : Bool). cond b (take at all ++ (p ++ drop (at + length p) all)) all) (lt-leb (at + length p) (length all) h)

-- the part from `at` on, copied to and put back
pub part_written : (all p q : List ℕ) (at m : ℕ) → m ≡ length all - at → at + length p ≤ length all
    → q ≡ take (length p) p ++ drop (length p) (take m (drop at all)) → take at all ++ (q ++ drop m (drop at all)) ≡ written_at all at p
part_written all p q at m em h eq =
    let l : length (drop at all) ≤ m = omega (arith, length-drop at all) in
    let whole : take m (drop at all) ≡ drop at all = take_all m (drop at all) l in
    let none = drop_of_length-le (drop at all) l in
    let part : q ≡ p ++ drop (at + length p) all =
    eq ∙ ap₂ ◌++◌ (take-length p) (ap (drop (length p)) whole ∙ drop-drop (length p) at all) in
    ap (λ (x : List ℕ). take at all ++ x) (ap₂ ◌++◌ part none ∙ append-nil (p ++ drop (at + length p) all)) ∙ sym (written-fits all p at h)

-- ---- what is written stands there, and nothing else has changed

module _ (all p : List ℕ) (at : ℕ) where
  -- what holds where they fit and where they do not
  either : (P : List ℕ → Type 0) → (at + length p ≤ length all → P (take at all ++ (p ++ drop (at + length p) all))) → P all
      → P (written_at all at p)
  either P fits past =
      ⊎_elim
      (λ h. subst P (sym (written_past all p at h)) past)
      (λ h. subst P (sym (written-fits all p at h)) (fits h))
      (lt_or_le (length all) (at + length p))

  pub written-size : length (written_at all at p) ≡ length all
  written-size =
      either (λ (s : List ℕ). length s ≡ length all)
      (λ h.
      omega (
        arith,
        length-append (take at all) (p ++ drop (at + length p) all),
        length-append p (drop (at + length p) all),
        length-drop (at + length p) all,
        length-take-le at all (omega arith),
      ))
      refl

  pub written-there : at + length p ≤ length all → take (length p) (drop at (written_at all at p)) ≡ p
  written-there h =
      ap (λ (s : List ℕ). take (length p) (drop at s)) (written-fits all p at h)
      ∙ ap (take (length p)) (drop_at (take at all) (p ++ drop (at + length p) all) at (length-take-le at all (omega arith)))
      ∙ take-append_seam p (drop (at + length p) all)

  pub written-before : (from n : ℕ) → from + n ≤ at → take n (drop from (written_at all at p)) ≡ take n (drop from all)
  written-before from n below =
      either (λ (s : List ℕ). take n (drop from s) ≡ take n (drop from all))
      (λ h.
      cut (take at all ++ rest)
      ∙ ap (drop from) (take-append-le (from + n) (take at all) rest (omega (arith, length-take-le at all (omega arith)))
      ∙ take-take (from + n) at all below)
      ∙ sym (cut all))
      refl
    where
      rest : List ℕ
      rest = p ++ drop (at + length p) all

      cut : (l : List ℕ) → take n (drop from l) ≡ drop from (take (from + n) l)
      cut l = ap (λ (k : ℕ). take k (drop from l)) (let e : n ≡ from + n - from = omega arith in e) ∙ sym (slice_cut from (from + n) l)

  pub written_behind : (from : ℕ) → at + length p ≤ from → drop from (written_at all at p) ≡ drop from all
  written_behind from above =
      either (λ (s : List ℕ). drop from s ≡ drop from all)
      (λ h.
      let size : length (take at all ++ p) ≡ at + length p =
      omega (arith, length-append (take at all) p, length-take-le at all (omega arith)) in
      let split : from ≡ length (take at all ++ p) + (from - (at + length p)) = omega arith in
      let whole : at + length p + (from - (at + length p)) ≡ from = omega arith in
      ap₂ drop split (sym (append_assoc (take at all) p (drop (at + length p) all)))
      ∙ drop-append-add (take at all ++ p) (drop (at + length p) all) (from - (at + length p))
      ∙ drop-drop (from - (at + length p)) (at + length p) all
      ∙ ap (λ (k : ℕ). drop k all) whole)
      refl

pub writes_only : WritesAnywhere
writes_only s at p =
    record { there = written-there s p at; before = written-before s p at; behind = written_behind s p at; size = written-size s p at }

-- ---- arrays filled

-- bytes written to the front
pub written-front : (all p : List ℕ) → length p ≤ length all → written_at all 0 p ≡ p ++ drop (length p) all
written-front all p h =
    written-fits all p 0 (omega arith) ∙ ap (λ (n : ℕ). p ++ drop n all) (let e : 0 + length p ≡ length p = omega arith in e)

-- bytes written over all of them
pub written_over : (all p : List ℕ) → length p ≡ length all → written_at all 0 p ≡ p
written_over all p e =
    written-front all p (omega arith) ∙ ap (λ (x : List ℕ). p ++ x) (drop_of_length-le all {i = length p} (omega arith)) ∙ append-nil p

-- a part copied out into an array of its size
pub copied-out : (all out : List ℕ) (from n : ℕ) → length out ≡ n → from + n ≤ length all
    → written_at out 0 (take (length out) (drop from all)) ≡ take n (drop from all)
copied-out all out from n e h =
    ap (λ (k : ℕ). written_at out 0 (take k (drop from all))) e
    ∙ written_over out (take n (drop from all)) (omega (arith, length-take-le n (drop from all) (omega (arith, length-drop from all))))

-- two parts one behind the other
pub written_twice : (all x y : List ℕ) → length x + length y ≤ length all
    → written_at (written_at all 0 x) (length x) y ≡ written_at all 0 (x ++ y)
written_twice all x y h =
    let first : written_at all 0 x ≡ x ++ drop (length x) all = written-front all x (omega arith) in
    let size : length (x ++ drop (length x) all) ≡ length all = sym (ap length first) ∙ written-size all x 0 in
    ap (λ (s : List ℕ). written_at s (length x) y) first
    ∙ written-fits (x ++ drop (length x) all) y (length x) (omega arith)
    ∙ ap₂ (λ (l r : List ℕ). l ++ (y ++ r)) (take-append_seam x (drop (length x) all))
    (drop-append-add x (drop (length x) all) (length y) ∙ drop-drop (length y) (length x) all)
    ∙ sym (append_assoc x y (drop (length x + length y) all))
    ∙ ap (λ (n : ℕ). (x ++ y) ++ drop n all) (sym (length-append x y))
    ∙ sym (written-front all (x ++ y) (omega (arith, length-append x y)))
