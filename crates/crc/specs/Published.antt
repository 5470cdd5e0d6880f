-- The published check values: of the bytes 123456789, and CRC-32 of no bytes. Assumes nothing.
use Rattle.std.specs.Prelude.{ℕ, ◌≡◌, List, [], ◌∷◌}
use Rattle.crc.specs.Crc.{checksum, crc16_modbus, crc16_ccitt, crc32}

-- 123456789 in ASCII
abbrev pub digits : List ℕ
digits = 0x31 ∷ 0x32 ∷ 0x33 ∷ 0x34 ∷ 0x35 ∷ 0x36 ∷ 0x37 ∷ 0x38 ∷ 0x39 ∷ []

pub record Published : Type 0 where
  pub modbus_digits : checksum crc16_modbus digits ≡ 0x4B37
  pub ccitt_digits : checksum crc16_ccitt digits ≡ 0x29B1
  pub crc32-digits : checksum crc32 digits ≡ 0xCBF43926
  pub crc32-none : checksum crc32 [] ≡ 0
