-- As many bytes as it has use a register up. Assumes nothing.
use mathlib.Core.Path.{◌≡◌}
use Prim.Native.Nat.{ℕ, ◌<◌}
use native.Mathlib.Omega.{arith}
use Rattle.crc.specs.Crc.{Direction, normal, reflected, crc32}
use Rattle.crc.specs.Folding.{unmet}
use Rattle.crc.specs.Tables.{rest}

pub two_use_up : (d : Direction) (r : ℕ) → r < 65536 → rest d 16 (rest d 16 r) ≡ 0
two_use_up normal r h = omega arith
two_use_up reflected r h = omega arith

pub four_use_up : (r : ℕ) → r < 4294967296 → unmet crc32 4 r ≡ 0
unfolding crc32
four_use_up r h = omega arith
