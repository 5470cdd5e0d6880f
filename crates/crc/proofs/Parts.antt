-- A loop that carries the register on over a message, part after part. Assumes nothing.
use mathlib.Core.Path.{◌≡◌, sym, ap, subst, ◌∙◌}
use mathlib.Core.List.{List, [], ◌∷◌, ◌++◌}
use Prim.Native.Nat.{ℕ}
use native.Mathlib.Omega.{arith}
use lib.ListN.{length}
use Rattle.crc.specs.Crc.{Kind, update}
use Rattle.crc.specs.Folding.{Stands, Carries}
use Rattle.crc.proofs.Updates.{update-append}

-- what it keeps: it started with b and has c, which stands for a register that the bytes that are left carry on to the one after s
abbrev pub Carrying : Kind → ℕ → List ℕ → List ℕ → List ℕ → List ℕ → List ℕ → Type 0
Carrying k d offs s b c left = (r : ℕ) → Stands k d offs r b → (q : ℕ) × (Stands k d offs q c × (update k q left ≡ update k r s))

module _ (k : Kind) (d : ℕ) (offs : List ℕ) (s b : List ℕ) where
  pub carrying_none : (left : List ℕ) → left ≡ s → Carrying k d offs s b b left
  carrying_none left all r at = (r, (at, ap (update k r) all))

  pub carrying_next : (c e left part more : List ℕ) → left ≡ part ++ more → Carries k d offs part c e → Carrying k d offs s b c left
      → Carrying k d offs s b e more
  carrying_next c e left part more split done before r at =
      let now = before r at in
      let q = now.0 in
      (update k q part, (done q now.1.0, sym (ap (update k q) split ∙ update-append k q part more) ∙ now.1.1))

  pub carrying_all : (c left : List ℕ) → length left ≡ 0 → Carrying k d offs s b c left → Carries k d offs s b c
  unfolding update
  carrying_all c [] none before r at =
      let now = before r at in
      subst (λ (x : ℕ). Stands k d offs x c) now.1.1 now.1.0
  carrying_all c (x ∷ left) none before r at = absurd (omega arith)
