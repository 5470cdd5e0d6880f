-- Offsets are those of a multiple of the polynomial where a test, which antt computes, says so. It is tested of one byte: the registers
-- after the other bytes of one bit are its register some bits later, and all bytes are sums of these. Assumes nothing.
use mathlib.Core.Path.{◌≡◌, refl, sym, ap, ap₂, subst, ◌∙◌}
use mathlib.Core.Bool.{Bool}
use mathlib.Core.List.{List, [], ◌∷◌}
use Prim.Native.Nat.{ℕ, zero, suc, ◌+◌, ◌-◌, ◌*◌, ◌/◌, ◌%◌, ◌^◌, ◌<◌, ◌≤◌}
use native.Mathlib.Nat.{mod-lt, zero-mul, one-mul, mul_comm, pow-suc, div-lt_iff_lt-mul}
use native.Mathlib.Omega.{arith}
use lib.Bits.{bit_xor, xor_self, xor_shifted}
use lib.Dec.{T, eqb, eqb→eq, lit≤}
use lib.Pow.{pow-add, pow-lt, pow_pos, split}
use Rattle.crc.specs.Crc.{Direction, normal, reflected, Kind, entering, bit, bits, byte_step}
use Rattle.crc.specs.Tables.{zero_bytes}
use Rattle.crc.specs.Folding.{sum_over, Multiple}
use Rattle.crc.proofs.Xor.{xor_medial, of-bit}
use Rattle.crc.proofs.Linear.{bit-xor, byte-none, byte-sum, zero_bytes-xor, zero_bytes-zero}
use Rattle.crc.proofs.TableStep.{bits-normal, bits-reflected}

-- ---- a register some bits later: one step more first or last is the same

bits-later : (k : Kind) (n r : ℕ) → bits k n (bit k r) ≡ bit k (bits k n r)
unfolding bits
bits-later k zero r = refl
bits-later k (suc n) r = bits-later k n (bit k r)

bits-bits : (k : Kind) (m n r : ℕ) → bits k m (bits k n r) ≡ bits k n (bits k m r)
unfolding bits
bits-bits k m zero r = refl
bits-bits k m (suc n) r = bits-bits k m n (bit k r) ∙ ap (bits k n) (bits-later k m r)

zero_bytes-later : (k : Kind) (n r : ℕ) → zero_bytes k n (bit k r) ≡ bit k (zero_bytes k n r)
unfolding zero_bytes
zero_bytes-later k zero r = refl
zero_bytes-later k (suc n) r = ap (zero_bytes k n) (bits-later k 8 r) ∙ zero_bytes-later k n (bits k 8 r)

-- the byte whose one bit leaves last, and by how many bits the one of 2 ^ j leaves before it
abbrev pub last_bit : Direction → ℕ
last_bit normal = 1
last_bit reflected = 128

abbrev earlier : Direction → ℕ → ℕ
earlier normal j = j
earlier reflected j = 7 - j

power_later : (k : Kind) (d : Direction) → k.direction ≡ d → 8 ≤ k.width → (j : ℕ) → j < 8
    → byte_step k 0 (2 ^ j) ≡ bits k (earlier d j) (byte_step k 0 (last_bit d))
unfolding byte_step
power_later k normal e h j g =
    let w = k.width in
    let m = w - 8 in
    let small : 2 ^ m < 2 ^ (w - j) = pow-lt (omega arith) in
    ap (λ (x : Direction). bits k 8 (entering x w (2 ^ j))) e
    ∙ ap (bits k 8) (mul_comm (2 ^ j) (2 ^ m) ∙ sym (bits-normal k e j (w - j) (2 ^ m) (omega arith) small))
    ∙ bits-bits k 8 j (2 ^ m)
    ∙ ap (λ (x : ℕ). bits k j (bits k 8 x)) (sym (one-mul (2 ^ m)))
    ∙ ap (λ (x : Direction). bits k j (bits k 8 (entering x w 1))) (sym e)
power_later k reflected e h j g =
    let w = k.width in
    let n = 7 - j in
    let all : j + n ≡ 7 = omega arith in
    let whole : 2 ^ j * 2 ^ n ≡ 128 = sym (pow-add 2 j n) ∙ ap (λ (x : ℕ). 2 ^ x) all in
    ap (λ (x : Direction). bits k 8 (entering x w (2 ^ j))) e
    ∙ ap (bits k 8) (sym (bits-reflected k e n (2 ^ j)) ∙ ap (bits k n) whole)
    ∙ bits-bits k 8 n 128
    ∙ ap (λ (x : Direction). bits k n (bits k 8 (entering x w 128))) (sym e)

module _ (k : Kind) (d : ℕ) (offs : List ℕ) where
  -- the register r after d bytes of zero is the sum of those after d - a
  abbrev Adds : ℕ → Type 0
  Adds r = zero_bytes k d r ≡ sum_over offs (λ (a : ℕ). zero_bytes k (d - a) r)

  -- the test: this holds of the register after the one byte
  unfoldable pub multiple-test : Bool
  multiple-test =
      let r = byte_step k 0 (last_bit k.direction) in
      eqb (zero_bytes k d r) (sum_over offs (λ (a : ℕ). zero_bytes k (d - a) r))

  -- ---- then it holds of that register some bits later

  sum-later : (r : ℕ) (os : List ℕ)
      → bit k (sum_over os (λ (a : ℕ). zero_bytes k (d - a) r)) ≡ sum_over os (λ (a : ℕ). zero_bytes k (d - a) (bit k r))
  sum-later r [] = bit-xor k 0 0 ∙ xor_self (bit k 0)
  sum-later r (a ∷ os) =
      bit-xor k (zero_bytes k (d - a) r) (sum_over os (λ (x : ℕ). zero_bytes k (d - x) r))
      ∙ ap₂ bit_xor (sym (zero_bytes-later k (d - a) r)) (sum-later r os)

  adds-later : (n r : ℕ) → Adds r → Adds (bits k n r)
  unfolding bits
  adds-later zero r t = t
  adds-later (suc n) r t = adds-later n (bit k r) (zero_bytes-later k d r ∙ ap (bit k) t ∙ sum-later r offs)

  -- ---- and of sums

  zeros-none : (os : List ℕ) → sum_over os (λ (a : ℕ). zero_bytes k (d - a) 0) ≡ 0
  zeros-none [] = refl
  zeros-none (a ∷ os) = ap₂ bit_xor (zero_bytes-zero k (d - a)) (zeros-none os)

  zeros-xor : (os : List ℕ) (u v : ℕ)
      → sum_over os (λ (a : ℕ). zero_bytes k (d - a) (bit_xor u v)) ≡ bit_xor (sum_over os (λ (a : ℕ). zero_bytes k (d - a) u))
      (sum_over os (λ (a : ℕ). zero_bytes k (d - a) v))
  zeros-xor [] u v = refl
  zeros-xor (a ∷ os) u v =
      ap₂ bit_xor (zero_bytes-xor k (d - a) u v) (zeros-xor os u v)
      ∙ xor_medial (zero_bytes k (d - a) u) (zero_bytes k (d - a) v) (sum_over os (λ (x : ℕ). zero_bytes k (d - x) u))
      (sum_over os (λ (x : ℕ). zero_bytes k (d - x) v))

  adds_none : Adds (byte_step k 0 0)
  adds_none = subst Adds (sym (byte-none k)) (zero_bytes-zero k d ∙ sym (zeros-none offs))

  adds-sum : (x y : ℕ) → Adds (byte_step k 0 x) → Adds (byte_step k 0 y) → Adds (byte_step k 0 (bit_xor x y))
  adds-sum x y p q =
      let u = byte_step k 0 x in
      let v = byte_step k 0 y in
      subst Adds (sym (byte-sum k 0 0 x y)) (zero_bytes-xor k d u v ∙ ap₂ bit_xor p q ∙ sym (zeros-xor offs u v))

  -- so after all bytes below 2 ^ n, if after the powers of 2
  adds-byte : ((i : ℕ) → i < 8 → Adds (byte_step k 0 (2 ^ i))) → (n : ℕ) → n ≤ 8 → (j : ℕ) → j < 2 ^ n → Adds (byte_step k 0 j)
  adds-byte powers zero most zero h = adds_none
  adds-byte powers zero most (suc j) h = absurd (omega arith)
  adds-byte powers (suc n) most j h =
      let hi = j / 2 ^ n in
      let lo = j % 2 ^ n in
      let one : Adds (byte_step k 0 (2 ^ n)) = powers n (omega arith) in
      let low : Adds (byte_step k 0 lo) = adds-byte powers n (omega arith) lo (mod-lt j (pow_pos n)) in
      let bit : hi < 2 = (div-lt_iff_lt-mul (pow_pos n)).1 (subst (λ (x : ℕ). j < x) (pow-suc 2 n ∙ mul_comm (2 ^ n) 2) h) in
      let high : Adds (byte_step k 0 (hi * 2 ^ n)) =
      of-bit (λ (x : ℕ). Adds (byte_step k 0 (x * 2 ^ n))) (subst (λ (x : ℕ). Adds (byte_step k 0 x)) (sym (zero-mul (2 ^ n))) adds_none)
      (subst (λ (x : ℕ). Adds (byte_step k 0 x)) (sym (one-mul (2 ^ n))) one) hi bit in
      let parts : bit_xor (hi * 2 ^ n) lo ≡ j = xor_shifted hi n lo (mod-lt j (pow_pos n)) ∙ split j n in
      subst (λ (x : ℕ). Adds (byte_step k 0 x)) parts (adds-sum (hi * 2 ^ n) lo high low)

  pub multiple : 8 ≤ k.width → T multiple-test → Multiple k d offs
  unfolding Multiple multiple-test
  multiple wide t j h =
      let e = k.direction in
      let r = byte_step k 0 (last_bit e) in
      let last : Adds r = eqb→eq _ _ t in
      adds-byte (λ i g. subst Adds (sym (power_later k e refl wide i g)) (adds-later (earlier e i) r last)) 8 (lit≤ tt) j h
