-- One turn of each loop, on lists. Assumes nothing.
use mathlib.Core.Path.{◌≡◌, sym, ap, ap₂, ◌∙◌}
use mathlib.Core.List.{List, [], ◌∷◌, ◌++◌}
use Prim.Native.Nat.{ℕ, zero, suc, ◌+◌, ◌<◌}
use native.Mathlib.Nat.{add-zero}
use native.Mathlib.Numerals.{add-one}
use native.Mathlib.Omega.{arith}
use lib.Bits.{bit_xor}
use lib.ListN.{length, take, drop, get_or, set}
use lib.Seq.{drop-cons, take-suc-set}
use Rattle.crc.specs.Folding.{gathered, swept, unswept}

-- one byte more swept: what is to be swept is the same as at the start
pub swept_more : (offs s b c : List ℕ) (at i sum : ℕ) → i < length s → sum ≡ gathered offs c (at + i)
    → swept offs at s b ≡ swept offs (at + i) (drop i s) c
    → swept offs at s b ≡ swept offs (at + (i + 1)) (drop (i + 1) s) (set c (at + i) (bit_xor (get_or s i 0) sum))
unfolding swept
swept_more offs s b c at i sum there added e =
    let place : at + i + 1 ≡ at + (i + 1) = omega arith in
    let put : ℕ → List ℕ = λ g. set c (at + i) (bit_xor (get_or s i 0) g) in
    e
    ∙ ap (λ (l : List ℕ). swept offs (at + i) l c) (drop-cons s i 0 there)
    ∙ ap₂ (λ (p n : ℕ). swept offs p (drop n s) (put (gathered offs c (at + i)))) place (sym (add-one i))
    ∙ ap (λ (g : ℕ). swept offs (at + (i + 1)) (drop (i + 1) s) (put g)) (sym added)

unswept-last : (offs b : List ℕ) (n p : ℕ)
    → unswept offs p (suc n) b ≡ unswept offs p n b ++ (bit_xor (get_or b (p + n) 0) (gathered offs b (p + n)) ∷ [])
unfolding unswept
unswept-last offs b zero p = ap (λ (q : ℕ). bit_xor (get_or b q 0) (gathered offs b q) ∷ []) (sym (add-zero p))
unswept-last offs b (suc n) p =
    let place : p + 1 + n ≡ p + suc n = omega arith in
    ap (λ (l : List ℕ). bit_xor (get_or b p 0) (gathered offs b p) ∷ l)
    (unswept-last offs b n (p + 1) ∙ ap (λ (q : ℕ). unswept offs (p + 1) n b ++ (bit_xor (get_or b q 0) (gathered offs b q) ∷ [])) place)

-- one byte more unswept
pub unswept_more : (offs b u : List ℕ) (at i sum : ℕ) → i < length u → sum ≡ gathered offs b (at + i) → take i u ≡ unswept offs at i b
    → take (i + 1) (set u i (bit_xor (get_or b (at + i) 0) sum)) ≡ unswept offs at (i + 1) b
unswept_more offs b u at i sum there added e =
    let x = bit_xor (get_or b (at + i) 0) (gathered offs b (at + i)) in
    ap₂ (λ (n g : ℕ). take n (set u i (bit_xor (get_or b (at + i) 0) g))) (add-one i) added
    ∙ take-suc-set u i x there
    ∙ ap (λ (l : List ℕ). l ++ (x ∷ [])) e
    ∙ sym (unswept-last offs b i at)
    ∙ ap (λ (n : ℕ). unswept offs at n b) (sym (add-one i))
