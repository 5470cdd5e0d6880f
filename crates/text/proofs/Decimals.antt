-- There is one way to write a number in decimal. Assumes nothing.
use borrow.Author.Tests.{lt-ltb, le-ltb}
use mathlib.Core.Path.{◌≡◌, ap₂, ◌∙◌}
use mathlib.Core.List.{[], ◌∷◌, ◌++◌}
use Prim.Native.Nat.{ℕ, zero, suc, ◌/◌, ◌%◌, ◌^◌, ◌<◌, ◌≤◌}
use native.Mathlib.Nat.{pow-succ', mod-eq_of_lt}
use native.Mathlib.Numerals.{unary_clauses}
use native.Mathlib.Omega.{arith}
use lib.ListN.{length}
use Rattle.io.specs.Digits.{last_digits, hex_digit_ascii, IsDigitCount}
use Rattle.text.specs.Decimals.{digit_text, decimal_within, decimal, OneDecimal}

-- a power of ten is above its exponent, so a number has at least as many as its digits less one
above_exponent : (k : ℕ) → k < 10 ^ k
above_exponent zero = omega arith
above_exponent (suc k) = let e = pow-succ' 10 k in let h = above_exponent k in omega arith

glyph_digit : (d : ℕ) → d < 10 → hex_digit_ascii d ∷ [] ≡ digit_text d
glyph_digit d h = simp (lt-ltb d 10 h)

-- the fewest digits, by their number k
spelled : (k most n : ℕ) → suc k ≤ most → n < 10 ^ suc k → (1 < suc k → 10 ^ k ≤ n) → last_digits 10 (suc k) n ≡ decimal_within most n
unfolding decimal_within
spelled k zero n fits below least = absurd (omega arith)
spelled zero (suc most) n fits below least =
    let small : n < 10 = omega arith in
    simp (lt-ltb n 10 small, mod-eq_of_lt {n = n} {m = 10} small)
spelled (suc k) (suc most) n fits below least =
    let e = pow-succ' 10 (suc k) in
    let f = pow-succ' 10 k in
    let some : 0 < 10 ^ k = let a = above_exponent k in omega arith in
    let big : 10 ^ suc k ≤ n = least (omega arith) in
    let ten : 10 ≤ n = omega arith in
    let tenth : last_digits 10 (suc k) (n / 10) ≡ decimal_within most (n / 10) =
    spelled k most (n / 10) (omega arith) (omega arith) (λ (_ : 1 < suc k). omega arith) in
    let last : hex_digit_ascii (n % 10) ∷ [] ≡ digit_text (n % 10) = glyph_digit (n % 10) (omega arith) in
    simp (le-ltb n 10 ten) (ap₂ ◌++◌ tenth last)

fits : (k n : ℕ) → (1 < suc k → 10 ^ k ≤ n) → suc k ≤ suc n
fits zero n least = omega arith
fits (suc k) n least = let a = above_exponent (suc k) in let b = least (omega arith) in omega arith

one_way : (k n : ℕ) → IsDigitCount 10 1 n k → last_digits 10 k n ≡ decimal n
one_way zero n w = absurd (omega (arith, w.0))
one_way (suc k) n w =
    let least : 1 < suc k → 10 ^ k ≤ n = simp unary_clauses at w.2 in
    spelled k (suc n) n (fits k n least) w.1 least

pub is_the_decimal : OneDecimal
is_the_decimal n t d = d.spells ∙ one_way (length t) n d.fewest
