-- What a cyclic redundancy check (CRC) is, one bit at a time.
--
-- A register of `width` bits starts at `init`. Each byte of the message is added (xor) to the end of the register that bits leave
-- from; then the register moves by one bit eight times, and each time a 1 leaves, the polynomial is added. After the last byte the
-- register is added to `xorout`. A kind that is not reflected takes the highest bit of a byte first and moves the register up; a
-- reflected one takes the lowest bit first and moves it down, and its polynomial is written reflected, as 01 writes CRC-32's.
-- These are the parameters of Williams' "Painless guide to CRC error detection algorithms", with RefIn and RefOut always equal.
-- Assumes nothing.
use Rattle.std.specs.Prelude.{ℕ, zero, suc, ◌-◌, ◌*◌, ◌/◌, ◌%◌, ◌^◌, List, [], ◌∷◌}
use Rattle.std.specs.Int.Bits.{bit_xor}

pub data Direction : Type 0 where
  normal : Direction
  reflected : Direction

pub record Kind : Type 0 where
  pub width : ℕ
  pub poly : ℕ
  pub init : ℕ
  pub direction : Direction
  pub xorout : ℕ

-- the bit that leaves a register of w bits
abbrev pub leaving : Direction → ℕ → ℕ → ℕ
leaving normal w r = r / 2 ^ (w - 1) % 2
leaving reflected w r = r % 2

-- the register without that bit, shifted by one
abbrev pub shifted : Direction → ℕ → ℕ → ℕ
shifted normal w r = r * 2 % 2 ^ w
shifted reflected w r = r / 2

-- a byte at the end of the register that bits leave from
abbrev pub entering : Direction → ℕ → ℕ → ℕ
entering normal w b = b * 2 ^ (w - 8)
entering reflected w b = b

-- the register one bit later: the polynomial is added where a 1 leaves
unfoldable pub bit : Kind → ℕ → ℕ
bit k r = bit_xor (leaving k.direction k.width r * k.poly) (shifted k.direction k.width r)

-- the register n bits later
unfoldable pub bits : Kind → ℕ → ℕ → ℕ
bits k zero r = r
bits k (suc n) r = bits k n (bit k r)

-- the register after the byte b
unfoldable pub byte_step : Kind → ℕ → ℕ → ℕ
byte_step k r b = bits k 8 (bit_xor r (entering k.direction k.width b))

-- the register after the bytes s
unfoldable pub update : Kind → ℕ → List ℕ → ℕ
update k r [] = r
update k r (b ∷ s) = update k (byte_step k r b) s

-- the check value that a register stands for
unfoldable pub finish : Kind → ℕ → ℕ
finish k r = bit_xor k.xorout r

-- the CRC of the bytes s
unfoldable pub checksum : Kind → List ℕ → ℕ
checksum k s = finish k (update k k.init s)

-- The packet check of FD: "the MODBUS one (8005 reflected, start FFFF, no final xor ..)" (document 02, K1, which mends 01's sentence on
-- CRC-16). A001 is 8005 reflected.
unfoldable pub crc16_modbus : Kind
crc16_modbus = record { width = 16; poly = 0xA001; init = 0xFFFF; direction = reflected; xorout = 0 }

-- The second maker's, source document 000: "1021, start FFFF, nothing reflected, no final xor", as 01 quotes it
-- (CRC-16/CCITT-FALSE in the usual catalogues)
unfoldable pub crc16_ccitt : Kind
crc16_ccitt = record { width = 16; poly = 0x1021; init = 0xFFFF; direction = normal; xorout = 0 }

-- 01, "The six commands": "CRC-32: the usual reflected one (EDB88320, start and final xor FFFFFFFF)"
unfoldable pub crc32 : Kind
crc32 = record { width = 32; poly = 0xEDB88320; init = 0xFFFFFFFF; direction = reflected; xorout = 0xFFFFFFFF }
