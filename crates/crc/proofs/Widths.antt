-- A register of a kind's width stays of that width, and so does the check value. Assumes nothing.
use mathlib.Core.Path.{◌≡◌, sym, subst}
use mathlib.Core.List.{List, [], ◌∷◌}
use Prim.Native.Nat.{ℕ, zero, suc, ◌+◌, ◌-◌, ◌*◌, ◌/◌, ◌^◌, ◌≤◌, ◌<◌}
use native.Mathlib.Nat.{mod-lt, zero-mul, one-mul, div-le_self}
use native.Mathlib.Omega.{arith}
use lib.Bits.{xor_lt}
use lib.ListN.{get_or}
use lib.Pow.{pow_pos, pow_mono, shl_lt}
use Rattle.crc.specs.Crc.{Direction, normal, reflected, Kind, leaving, shifted, entering, bit, bits, byte_step, update}
use Rattle.crc.specs.Crc.{finish, checksum, crc16_modbus, crc32}
use Rattle.crc.proofs.Xor.{odd_lt, of-bit}

-- a kind whose parameters have its width
pub record Wide (k : Kind) : Type 0 where
  pub octet : 8 ≤ k.width
  pub poly : k.poly < 2 ^ k.width
  pub init : k.init < 2 ^ k.width
  pub xorout : k.xorout < 2 ^ k.width

module _ (k : Kind) (wide : Wide k) where
  leaving-bit : (d : Direction) (w r : ℕ) → leaving d w r < 2
  leaving-bit normal w r = odd_lt (r / 2 ^ (w - 1))
  leaving-bit reflected w r = odd_lt r

  shifted_fits : (d : Direction) (w r : ℕ) → r < 2 ^ w → shifted d w r < 2 ^ w
  shifted_fits normal w r h = mod-lt (r * 2) (pow_pos w)
  shifted_fits reflected w r h = let less = div-le_self r 2 in omega arith

  entering-fits : (d : Direction) (w b : ℕ) → 8 ≤ w → b < 256 → entering d w b < 2 ^ w
  entering-fits normal w b h small =
      let all : 8 + (w - 8) ≡ w = omega arith in
      subst (λ (n : ℕ). b * 2 ^ (w - 8) < 2 ^ n) all (shl_lt 8 (w - 8) small)
  entering-fits reflected w b h small = let least : 256 ≤ 2 ^ w = pow_mono h in omega arith

  bit-fits : (r : ℕ) → r < 2 ^ k.width → bit k r < 2 ^ k.width
  unfolding bit
  bit-fits r h =
      let w = k.width in
      let added : leaving k.direction w r * k.poly < 2 ^ w =
      of-bit (λ (x : ℕ). x * k.poly < 2 ^ w) (subst (λ (n : ℕ). n < 2 ^ w) (sym (zero-mul k.poly)) (pow_pos w))
      (subst (λ (n : ℕ). n < 2 ^ w) (sym (one-mul k.poly)) wide.poly)
      (leaving k.direction w r) (leaving-bit k.direction w r) in
      xor_lt w _ _ added (shifted_fits k.direction w r h)

  bits-fits : (n r : ℕ) → r < 2 ^ k.width → bits k n r < 2 ^ k.width
  unfolding bits
  bits-fits zero r h = h
  bits-fits (suc n) r h = bits-fits n (bit k r) (bit-fits r h)

  byte_fits : (r b : ℕ) → r < 2 ^ k.width → b < 256 → byte_step k r b < 2 ^ k.width
  unfolding byte_step
  byte_fits r b h small = bits-fits 8 _ (xor_lt k.width _ _ h (entering-fits k.direction k.width b wide.octet small))

  update-fits : (s : List ℕ) (r : ℕ) → ((i : ℕ) → get_or s i 0 < 256) → r < 2 ^ k.width → update k r s < 2 ^ k.width
  unfolding update
  update-fits [] r bytes h = h
  update-fits (b ∷ s) r bytes h = update-fits s (byte_step k r b) (λ i. bytes (suc i)) (byte_fits r b h (bytes 0))

  pub checksum-fits : (s : List ℕ) → ((i : ℕ) → get_or s i 0 < 256) → checksum k s < 2 ^ k.width
  unfolding checksum finish
  checksum-fits s bytes = xor_lt k.width _ _ wide.xorout (update-fits s k.init bytes wide.init)

pub crc16_fits : (s : List ℕ) → ((i : ℕ) → get_or s i 0 < 256) → checksum crc16_modbus s < 65536
unfolding crc16_modbus
crc16_fits = checksum-fits crc16_modbus (record { octet = omega arith; poly = omega arith; init = omega arith; xorout = omega arith })

pub crc32-fits : (s : List ℕ) → ((i : ℕ) → get_or s i 0 < 256) → checksum crc32 s < 4294967296
unfolding crc32
crc32-fits = checksum-fits crc32 (record { octet = omega arith; poly = omega arith; init = omega arith; xorout = omega arith })
