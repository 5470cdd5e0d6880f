-- A byte's eight steps by one entry of a table, in both directions. Assumes nothing.
use mathlib.Core.Path.{◌≡◌, refl, sym, ap, ap₂, subst, ◌∙◌}
use Prim.Native.Nat.{ℕ, zero, suc, ◌+◌, ◌-◌, ◌*◌, ◌/◌, ◌%◌, ◌^◌, ◌<◌, ◌≤◌}
use native.Mathlib.Nat.{mod-lt, zero-mul, mul-one, mul_assoc, mul_comm, pow-suc, lt_of_lt_of_le, le-add_right, div-eq_of_lt, mod-eq_of_lt}
use native.Mathlib.Omega.{arith}
use lib.Pow.{pow_pos, pow_mono, split}
use lib.Bits.{bit_xor, xor_comm, xor_shifted, shifted_even, shifted_half}
use Rattle.std.specs.Int.Bits.{xor_assoc}
use Rattle.crc.specs.Crc.{Direction, normal, reflected, Kind, leaving, shifted, entering, bit, bits, byte_step}
use Rattle.crc.specs.Tables.{front, rest}
use Rattle.crc.proofs.Linear.{bits-xor, entering-xor}

-- the bits of the register that the next byte is not added to, in their place
abbrev kept : Direction → ℕ → ℕ → ℕ
kept normal w r = r % 2 ^ (w - 8)
kept reflected w r = r / 2 ^ 8 * 2 ^ 8

parts : (d : Direction) (w r : ℕ) → bit_xor (kept d w r) (entering d w (front d w r)) ≡ r
parts normal w r =
    let m = w - 8 in
    xor_comm (r % 2 ^ m) (r / 2 ^ m * 2 ^ m) ∙ xor_shifted (r / 2 ^ m) m (r % 2 ^ m) (mod-lt r (pow_pos m)) ∙ split r m
parts reflected w r = xor_shifted (r / 2 ^ 8) 8 (r % 2 ^ 8) (mod-lt r (pow_pos 8)) ∙ split r 8

-- where a 0 leaves, the register only moves
bit-zero : (k : Kind) (r : ℕ) → leaving k.direction k.width r ≡ 0 → bit k r ≡ shifted k.direction k.width r
unfolding bit
bit-zero k r e =
    let m = shifted k.direction k.width r in
    ap (λ (x : ℕ). bit_xor (x * k.poly) m) e ∙ ap (λ (x : ℕ). bit_xor x m) (zero-mul k.poly)

pub bits-reflected : (k : Kind) → k.direction ≡ reflected → (n h : ℕ) → bits k n (h * 2 ^ n) ≡ h
unfolding bits
bits-reflected k e zero h = mul-one h
bits-reflected k e (suc n) h =
    ap (bits k n)
    (bit-zero k (h * 2 ^ suc n) (ap (λ (d : Direction). leaving d k.width (h * 2 ^ suc n)) e ∙ shifted_even h n)
    ∙ ap (λ (d : Direction). shifted d k.width (h * 2 ^ suc n)) e
    ∙ shifted_half h n)
    ∙ bits-reflected k e n h

pub bits-normal : (k : Kind) → k.direction ≡ normal → (n m r : ℕ) → k.width ≡ m + n → r < 2 ^ m → bits k n r ≡ r * 2 ^ n
unfolding bits
bits-normal k e zero m r hw hr = sym (mul-one r)
bits-normal k e (suc n) m r hw hr =
    let below : r < 2 ^ (m + n) = lt_of_lt_of_le hr (pow_mono (le-add_right m n)) in
    let one : k.width - 1 ≡ m + n = omega arith in
    let all : k.width ≡ suc (m + n) = omega arith in
    let twice : r * 2 < 2 ^ k.width = subst (λ (x : ℕ). r * 2 < 2 ^ x) (sym all) (rw (pow-suc 2 (m + n)) (omega arith)) in
    let small : r * 2 < 2 ^ suc m = rw (pow-suc 2 m) (omega arith) in
    ap (bits k n)
    (bit-zero k r
    (ap (λ (d : Direction). leaving d k.width r) e ∙ ap (λ (x : ℕ). r / 2 ^ x % 2) one ∙ ap (λ (x : ℕ). x % 2) (div-eq_of_lt below))
    ∙ ap (λ (d : Direction). shifted d k.width r) e
    ∙ mod-eq_of_lt twice)
    ∙ bits-normal k e n (suc m) (r * 2) (omega arith) small
    ∙ mul_assoc r 2 (2 ^ n)
    ∙ ap (λ (x : ℕ). r * x) (mul_comm 2 (2 ^ n) ∙ sym (pow-suc 2 n))

bits-kept : (k : Kind) (d : Direction) → k.direction ≡ d → 8 ≤ k.width → (r : ℕ) → bits k 8 (kept d k.width r) ≡ rest d k.width r
bits-kept k normal e h r = bits-normal k e 8 (k.width - 8) (r % 2 ^ (k.width - 8)) (omega arith) (mod-lt r (pow_pos (k.width - 8)))
bits-kept k reflected e h r = bits-reflected k e 8 (r / 2 ^ 8)

-- the table step: the entry at the front bits and the byte, and the other bits moved
pub byte-table : (k : Kind) → 8 ≤ k.width → (r b : ℕ)
    → byte_step k r b ≡ bit_xor (byte_step k 0 (bit_xor (front k.direction k.width r) b)) (rest k.direction k.width r)
unfolding byte_step
byte-table k h r b =
    let d = k.direction in
    let w = k.width in
    ap (λ (x : ℕ). bits k 8 (bit_xor x (entering d w b))) (sym (parts d w r))
    ∙ ap (bits k 8) (xor_assoc (kept d w r) (entering d w (front d w r)) (entering d w b))
    ∙ bits-xor k 8 (kept d w r) (bit_xor (entering d w (front d w r)) (entering d w b))
    ∙ ap₂ bit_xor (bits-kept k d refl h r) (ap (bits k 8) (sym (entering-xor d w (front d w r) b)))
    ∙ xor_comm (rest d w r) (bits k 8 (entering d w (bit_xor (front d w r) b)))
