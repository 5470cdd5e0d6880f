-- The same loop by the count of bytes that are done, for a buffer that keeps its length. Assumes nothing.
use mathlib.Core.Path.{◌≡◌, refl, ap, subst, ◌∙◌}
use mathlib.Core.List.{List}
use Prim.Native.Nat.{ℕ, ◌+◌, ◌-◌, ◌≤◌}
use native.Mathlib.Omega.{arith}
use lib.ListN.{length, take, drop, length-drop}
use lib.Seq.{take_all, length-take-le}
use Rattle.crc.specs.Crc.{Kind, update}
use Rattle.crc.specs.Folding.{Stands, Carries}
use Rattle.crc.proofs.Updates.{update_skip}

-- what it keeps: it started with b and has c, as long as the buffer is, and the first i bytes of s are done
abbrev pub CarriedOn : Kind → ℕ → List ℕ → ℕ → List ℕ → List ℕ → List ℕ → ℕ → Type 0
CarriedOn k d offs size s b c i = (i ≤ length s) × ((length c ≡ size) × Carries k d offs (take i s) b c)

-- the next part, n bytes after the first i, is not longer than any may be
pub part_fits : (s : List ℕ) (i n most : ℕ) → i + n ≤ length s → n ≤ most → length (take (i + n - i) (drop i s)) ≤ most
part_fits s i n most there few =
    let all : length (take (i + n - i) (drop i s)) ≡ i + n - i = length-take-le (i + n - i) (drop i s) (rw length-drop (omega arith)) in
    omega arith

module _ (k : Kind) (d : ℕ) (offs : List ℕ) (size : ℕ) (s b : List ℕ) where
  pub carried_none : length b ≡ size → CarriedOn k d offs size s b b 0
  unfolding update
  carried_none long = (omega arith, (long, λ r at. at))

  pub carried-next : (c e : List ℕ) (i n : ℕ) → CarriedOn k d offs size s b c i → i + n ≤ length s
      → (length e ≡ size) × Carries k d offs (take (i + n - i) (drop i s)) c e → CarriedOn k d offs size s b e (i + n)
  carried-next c e i n before there part =
      let few : i + n - i ≡ n = omega arith in (
        there,
        (
          part.0,
          λ r at.
              subst (λ (x : ℕ). Stands k d offs x e)
              (ap (λ (m : ℕ). update k (update k r (take i s)) (take m (drop i s))) few ∙ update_skip k r s i n refl)
              (part.1 (update k r (take i s)) (before.1.1 r at)),
        ),
      )

  pub carried-all : (c : List ℕ) (i : ℕ) → CarriedOn k d offs size s b c i → length s ≤ i → Carries k d offs s b c
  carried-all c i before end = subst (λ (l : List ℕ). Carries k d offs l b c) (take_all i s end) before.1.1
