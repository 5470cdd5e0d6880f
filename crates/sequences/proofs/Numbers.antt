-- Numbers put together again from their bytes, whichever comes first. Assumes nothing.
use mathlib.Core.Path.{◌≡◌, sym, ap, ◌∙◌}
use Prim.Native.Nat.{ℕ, ◌+◌, ◌*◌, ◌/◌, ◌%◌, ◌<◌}
use native.Mathlib.Nat.{div-add-mod', div-div-eq-div-mul, mod-eq_of_lt}
use native.Mathlib.Omega.{arith}
use Rattle.sequences.specs.Numbers.{max16, max32, number16, number32}

pub of-bytes16 : (x : ℕ) → x < max16 → number16 (x / 256 % 256) (x % 256) ≡ x
of-bytes16 x h = omega arith

-- a number, its quotients by 256 and their remainders
joined : (x q r s a b c : ℕ) → q * 256 + a ≡ x → r * 256 + b ≡ q → s * 256 + c ≡ r → number32 s c b a ≡ x
joined x q r s a b c e1 e2 e3 = omega arith

pub of-bytes32 : (x : ℕ) → x < max32 → number32 (x / 16777216 % 256) (x / 65536 % 256) (x / 256 % 256) (x % 256) ≡ x
of-bytes32 x h =
    let small : x / 16777216 < 256 = omega arith in
    ap (λ (s : ℕ). number32 s (x / 65536 % 256) (x / 256 % 256) (x % 256)) (mod-eq_of_lt small)
    ∙ joined x (x / 256) (x / 65536) (x / 16777216) (x % 256) (x / 256 % 256) (x / 65536 % 256) (div-add-mod' x 256)
    (ap (λ (q : ℕ). q * 256 + x / 256 % 256) (sym (div-div-eq-div-mul x 256 256)) ∙ div-add-mod' (x / 256) 256)
    (ap (λ (q : ℕ). q * 256 + x / 65536 % 256) (sym (div-div-eq-div-mul x 65536 256)) ∙ div-add-mod' (x / 65536) 256)
