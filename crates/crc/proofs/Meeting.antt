-- A register meets the first bytes after it: it may be added to these instead. Assumes nothing.
use mathlib.Core.Path.{◌≡◌, refl, sym, ap, ap₂, ◌∙◌}
use mathlib.Core.List.{List, [], ◌∷◌}
use Prim.Native.Nat.{ℕ, zero, suc, ◌+◌, ◌-◌, ◌≤◌, ◌<◌}
use native.Mathlib.Numerals.{add-one}
use native.Mathlib.Omega.{arith}
use lib.Bits.{bit_xor, xor_zero_l, xor_zero_r}
use lib.ListN.{length, take, drop, get_or, set}
use lib.Seq.{drop-cons, sets}
use Rattle.std.specs.Int.Bits.{xor_assoc}
use Rattle.crc.specs.Crc.{Direction, Kind, bits, byte_step, update}
use Rattle.crc.specs.Tables.{front, rest}
use Rattle.crc.specs.Folding.{met, unmet}
use Rattle.crc.proofs.Linear.{byte-xor, byte-parts}
use Rattle.crc.proofs.TableStep.{byte-table}

module _ (k : Kind) (wide : 8 ≤ k.width) where
  -- one byte meets the front of it
  byte-met : (v r b : ℕ)
      → byte_step k (bit_xor v r) b ≡ bit_xor (byte_step k v (bit_xor (front k.direction k.width r) b)) (rest k.direction k.width r)
  byte-met v r b =
      let met = bit_xor (front k.direction k.width r) b in
      let left = rest k.direction k.width r in
      byte-xor k v r b
      ∙ ap (bit_xor (bits k 8 v)) (byte-table k wide r b)
      ∙ sym (xor_assoc (bits k 8 v) (byte_step k 0 met) left)
      ∙ ap (λ (x : ℕ). bit_xor x left) (sym (byte-parts k v met))

  all-met : (s : List ℕ) (v r : ℕ) → update k (bit_xor v r) s ≡ bit_xor (update k v (met k r s)) (unmet k (length s) r)
  unfolding update
  all-met [] v r = refl
  all-met (x ∷ s) v r =
      ap (λ (y : ℕ). update k y s) (byte-met v r x)
      ∙ all-met s (byte_step k v (bit_xor (front k.direction k.width r) x)) (rest k.direction k.width r)

  -- where nothing of the register is left
  pub update-met : (r : ℕ) (s : List ℕ) → unmet k (length s) r ≡ 0 → update k r s ≡ update k 0 (met k r s)
  update-met r s none =
      ap (λ (x : ℕ). update k x s) (sym (xor_zero_l r)) ∙ all-met s 0 r ∙ ap (bit_xor (update k 0 (met k r s))) none
      ∙ xor_zero_r (update k 0 (met k r s))

pub length-met : (k : Kind) (r : ℕ) (s : List ℕ) → length (met k r s) ≡ length s
length-met k r [] = refl
length-met k r (x ∷ s) = ap suc (length-met k (rest k.direction k.width r) s)

-- ---- a loop puts the first n bytes of s down from place `at` on: i are, and the register q is left to the others

pub met_next : (k : Kind) (w : ℕ) (d : Direction) → (k.width ≡ w) × (k.direction ≡ d) → (s b c z : List ℕ) (at i n q f p : ℕ) → i < n
    → n ≤ length s
    → f ≡ front d w q → p ≡ rest d w q
    → c ≡ set b (at + i) (bit_xor f (get_or s i 0))
    → sets b (at + i) (met k q (take (n - i) (drop i s))) ≡ z
    → sets c (at + (i + 1)) (met k p (take (n - (i + 1)) (drop (i + 1) s))) ≡ z
met_next k w d goes s b c z at i n q f p more some own moved put before =
    let m = n - (i + 1) in
    let x = get_or s i 0 in
    let others = take m (drop (i + 1) s) in
    let count : n - i ≡ suc m = omega arith in
    let place : at + (i + 1) ≡ suc (at + i) = omega arith in
    let now : f ≡ front k.direction k.width q = own ∙ ap₂ (λ (t : Direction) (v : ℕ). front t v q) (sym goes.1) (sym goes.0) in
    let next : p ≡ rest k.direction k.width q = moved ∙ ap₂ (λ (t : Direction) (v : ℕ). rest t v q) (sym goes.1) (sym goes.0) in
    let first : take (n - i) (drop i s) ≡ x ∷ others =
    ap (λ (j : ℕ). take j (drop i s)) count ∙ ap (take (suc m)) (drop-cons s i 0 (omega arith))
    ∙ ap (λ (j : ℕ). x ∷ take m (drop j s)) (sym (add-one i)) in
    ap (λ (l : List ℕ). sets l (at + (i + 1)) (met k p others)) put
    ∙ ap (λ (j : ℕ). sets (set b (at + i) (bit_xor f x)) j (met k p others)) place
    ∙ ap₂ (λ (y r : ℕ). sets (set b (at + i) (bit_xor y x)) (suc (at + i)) (met k r others)) now next
    ∙ sym (ap (λ (l : List ℕ). sets b (at + i) (met k q l)) first)
    ∙ before

pub met_all : (k : Kind) (s b z : List ℕ) (at i n q : ℕ) → n ≤ i → sets b (at + i) (met k q (take (n - i) (drop i s))) ≡ z → b ≡ z
met_all k s b z at i n q end before =
    let none : n - i ≡ 0 = omega arith in
    sym (ap (λ (j : ℕ). sets b (at + i) (met k q (take j (drop i s)))) none) ∙ before

-- the first n bytes from place i on, one by one: those of a list that is not written out
abbrev pub firsts : ℕ → ℕ → List ℕ → List ℕ
firsts zero i s = []
firsts (suc n) i s = get_or s i 0 ∷ firsts n (suc i) s

firsts-drop : (n i : ℕ) (s : List ℕ) → i + n ≤ length s → take n (drop i s) ≡ firsts n i s
firsts-drop zero i s h = refl
firsts-drop (suc n) i s h =
    ap (take (suc n)) (drop-cons s i 0 (omega arith)) ∙ ap (λ (l : List ℕ). get_or s i 0 ∷ l) (firsts-drop n (suc i) s (omega arith))

pub take-firsts : (n : ℕ) (s : List ℕ) → n ≤ length s → take n s ≡ firsts n 0 s
take-firsts n s h = firsts-drop n 0 s (omega arith)
