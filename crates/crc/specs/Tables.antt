-- What tables of precomputed registers hold, and the two parts of a register in a step by a table. Internal: the crates
-- above cite these, no contract of a checksum does.
-- Assumes nothing.
use Rattle.std.specs.Prelude.{◌≡◌, List, ℕ, zero, suc, ◌+◌, ◌-◌, ◌*◌, ◌/◌, ◌%◌, ◌^◌, ◌<◌, get_or}
use Rattle.crc.specs.Crc.{Direction, normal, reflected, Kind, bits, byte_step}

-- the register after n bytes of zero
unfoldable pub zero_bytes : Kind → ℕ → ℕ → ℕ
zero_bytes k zero r = r
zero_bytes k (suc n) r = zero_bytes k n (bits k 8 r)

-- the byte that place j of a table is for: 0 to 15 are for the low nibbles, 16 to 31 for the high ones
abbrev pub nibble : ℕ → ℕ
nibble j = j % 16 * 16 ^ (j / 16)

-- n tables of 32 entries, one after the other: in table m, at j, the register after the byte `nibble j` and m bytes of zero, from 0
unfoldable pub Tabled : Kind → ℕ → List ℕ → Type 0
Tabled k n t = (m j : ℕ) → m < n → j < 32 → get_or t (m * 32 + j) 0 ≡ zero_bytes k m (byte_step k 0 (nibble j))

-- the eight bits of a register of w bits that the next byte is added to
abbrev pub front : Direction → ℕ → ℕ → ℕ
front normal w r = r / 2 ^ (w - 8)
front reflected w r = r % 2 ^ 8

-- the other bits eight steps later: nothing of them leaves, they only move
abbrev pub rest : Direction → ℕ → ℕ → ℕ
rest normal w r = r % 2 ^ (w - 8) * 2 ^ 8
rest reflected w r = r / 2 ^ 8
