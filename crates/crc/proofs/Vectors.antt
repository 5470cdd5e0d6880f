-- The published check values, by computation from the definition: of the bytes 123456789, and CRC-32 of no bytes.
-- Assumes nothing.
use mathlib.Core.Path.{refl}
use Rattle.crc.specs.Crc.{checksum, finish, update, byte_step, bits, bit, crc16_modbus, crc16_ccitt, crc32}
use Rattle.crc.specs.Published.{Published}

pub published : Published
unfolding checksum finish update byte_step bits bit crc16_modbus crc16_ccitt crc32
published = record { modbus_digits = refl; ccitt_digits = refl; crc32-digits = refl; crc32-none = refl }
