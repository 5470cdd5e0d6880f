-- Tables are right where one test of all their entries, which antt computes, says so: the first table's entries by what a byte
-- does, each later table's by the entry 32 before it and one byte of zero more. Assumes nothing.
use mathlib.Core.Path.{◌≡◌, subst, sym, ap, ap₂, ◌∙◌}
use mathlib.Core.Bool.{Bool, true, ◌&&◌}
use mathlib.Core.List.{List, [], ◌∷◌}
use Prim.Native.Nat.{ℕ, zero, suc, ◌+◌, ◌*◌, ◌/◌, ◌%◌, ◌^◌, ◌<◌, ◌≤◌}
use native.Mathlib.Nat.{zero-mul, zero-add, add-zero, add-suc, suc-add, not-suc-le-zero, le_of_suc-le-suc, mod-lt, mul-one}
use native.Mathlib.Omega.{arith}
use lib.Bits.{bit_xor, xor_comm, xor_shifted}
use lib.Dec.{T, eqb, eqb→eq}
use lib.ListN.{length, get_or, take, drop, length-drop}
use lib.Pow.{pow_pos, split}
use lib.Seq.{get_or-take, get_or-drop, length-take-le}
use Rattle.crc.specs.Crc.{Kind, bits, byte_step}
use Rattle.crc.specs.Tables.{zero_bytes, nibble, Tabled}
use Rattle.crc.proofs.Linear.{byte-sum, zero_bytes-xor, zero_bytes-add}
use Rattle.crc.proofs.Tests.{and_left, and_right}

-- the test f passes at each entry and its place, counted from i
abbrev every : (ℕ → ℕ → Bool) → ℕ → List ℕ → Bool
every f i [] = true
every f i (x ∷ xs) = f i x && every f (suc i) xs

every-at : (f : ℕ → ℕ → Bool) (xs : List ℕ) (i : ℕ) → T (every f i xs) → (j : ℕ) → j < length xs → T (f (i + j) (get_or xs j 0))
every-at f [] i t j h = absurd (not-suc-le-zero h)
every-at f (x ∷ xs) i t zero h = subst (λ (m : ℕ). T (f m x)) (sym (add-zero i)) (and_left (f i x) (every f (suc i) xs) t)
every-at f (x ∷ xs) i t (suc j) h =
    subst (λ (m : ℕ). T (f m (get_or xs j 0))) (suc-add i j ∙ sym (add-suc i j))
    (every-at f xs (suc i) (and_right (f i x) (every f (suc i) xs) t) j (le_of_suc-le-suc h))

-- the test f passes at each two entries at the same place of two lists
abbrev pairwise : (ℕ → ℕ → Bool) → List ℕ → List ℕ → Bool
pairwise f [] ys = true
pairwise f (x ∷ xs) [] = true
pairwise f (x ∷ xs) (y ∷ ys) = f x y && pairwise f xs ys

pairwise-at : (f : ℕ → ℕ → Bool) (xs ys : List ℕ) → T (pairwise f xs ys) → (j : ℕ) → j < length xs → j < length ys
    → T (f (get_or xs j 0) (get_or ys j 0))
pairwise-at f [] ys t j hx hy = absurd (not-suc-le-zero hx)
pairwise-at f (x ∷ xs) [] t j hx hy = absurd (not-suc-le-zero hy)
pairwise-at f (x ∷ xs) (y ∷ ys) t zero hx hy = and_left (f x y) (pairwise f xs ys) t
pairwise-at f (x ∷ xs) (y ∷ ys) t (suc j) hx hy =
    pairwise-at f xs ys (and_right (f x y) (pairwise f xs ys) t) j (le_of_suc-le-suc hx) (le_of_suc-le-suc hy)

-- an entry of the first table
unfoldable pub first_entry : Kind → ℕ → ℕ → Bool
first_entry k j x = eqb x (byte_step k 0 (nibble j))

-- an entry, and the one 32 after it
unfoldable pub later-entry : Kind → ℕ → ℕ → Bool
later-entry k x y = eqb y (bits k 8 x)

-- the test of all entries
abbrev pub sound : Kind → List ℕ → Bool
sound k t = every (first_entry k) 0 (take 32 t) && pairwise (later-entry k) t (drop 32 t)

module _ (k : Kind) (n : ℕ) (t : List ℕ) (size : length t ≡ n * 32) (test : T (sound k t)) where
  first : T (every (first_entry k) 0 (take 32 t))
  first = and_left (every (first_entry k) 0 (take 32 t)) (pairwise (later-entry k) t (drop 32 t)) test

  later : T (pairwise (later-entry k) t (drop 32 t))
  later = and_right (every (first_entry k) 0 (take 32 t)) (pairwise (later-entry k) t (drop 32 t)) test

  entry : (m j : ℕ) → m < n → j < 32 → get_or t (m * 32 + j) 0 ≡ zero_bytes k m (byte_step k 0 (nibble j))
  unfolding first_entry later-entry zero_bytes
  entry zero j hm hj =
      let some : 32 ≤ length t = omega arith in
      let long : length (take 32 t) ≡ 32 = length-take-le 32 t some in
      let passed = every-at (first_entry k) (take 32 t) 0 first j (subst (λ (x : ℕ). j < x) (sym long) hj) in
      ap (λ (x : ℕ). get_or t x 0) (ap (λ (x : ℕ). x + j) (zero-mul 32) ∙ zero-add j)
      ∙ sym (get_or-take 32 t j 0 hj)
      ∙ eqb→eq (get_or (take 32 t) j 0) (byte_step k 0 (nibble (0 + j))) passed
      ∙ ap (λ (x : ℕ). byte_step k 0 (nibble x)) (zero-add j)
  entry (suc m) j hm hj =
      let i = m * 32 + j in
      let h : i + 32 < length t = omega arith in
      let place : suc m * 32 + j ≡ 32 + i = omega arith in
      let one : 1 + m ≡ suc m = omega arith in
      ap (λ (x : ℕ). get_or t x 0) place
      ∙ sym (get_or-drop 32 t i 0)
      ∙ eqb→eq (get_or (drop 32 t) i 0) (bits k 8 (get_or t i 0))
      (pairwise-at (later-entry k) t (drop 32 t) later i (omega arith) (rw length-drop (omega arith)))
      ∙ ap (bits k 8) (entry m j (omega arith) hj)
      ∙ zero_bytes-add k m 1 (byte_step k 0 (nibble j))
      ∙ ap (λ (x : ℕ). zero_bytes k x (byte_step k 0 (nibble j))) one

  pub tabled : Tabled k n t
  unfolding Tabled
  tabled = entry

-- the entry of a byte is the sum of those of its nibbles
pub two_nibbles : (k : Kind) (n : ℕ) (t : List ℕ) → Tabled k n t → (m x : ℕ) → m < n → x < 256
    → bit_xor (get_or t (m * 32 + x % 16) 0) (get_or t (m * 32 + 16 + x / 16) 0) ≡ zero_bytes k m (byte_step k 0 x)
unfolding Tabled
two_nibbles k n t h m x hm hx =
    let lo = x % 16 in
    let hi = x / 16 in
    let lo-lo : lo % 16 ≡ lo = omega arith in
    let lo-hi : lo / 16 ≡ 0 = omega arith in
    let hi-lo : (16 + hi) % 16 ≡ hi = omega arith in
    let hi-hi : (16 + hi) / 16 ≡ 1 = omega arith in
    let low : nibble lo ≡ lo = ap₂ (λ (a b : ℕ). a * 16 ^ b) lo-lo lo-hi ∙ mul-one lo in
    let high : nibble (16 + hi) ≡ hi * 2 ^ 4 = ap₂ (λ (a b : ℕ). a * 16 ^ b) hi-lo hi-hi in
    let place : m * 32 + 16 + hi ≡ m * 32 + (16 + hi) = omega arith in
    let whole : bit_xor lo (hi * 2 ^ 4) ≡ x = xor_comm lo (hi * 2 ^ 4) ∙ xor_shifted hi 4 lo (mod-lt x (pow_pos 4)) ∙ split x 4 in
    ap₂ bit_xor (h m lo hm (omega arith) ∙ ap (λ (y : ℕ). zero_bytes k m (byte_step k 0 y)) low)
    (ap (λ (y : ℕ). get_or t y 0) place ∙ h m (16 + hi) hm (omega arith) ∙ ap (λ (y : ℕ). zero_bytes k m (byte_step k 0 y)) high)
    ∙ sym (zero_bytes-xor k m (byte_step k 0 lo) (byte_step k 0 (hi * 2 ^ 4)))
    ∙ ap (zero_bytes k m) (sym (byte-sum k 0 0 lo (hi * 2 ^ 4)) ∙ ap (byte_step k 0) whole)
