-- When messages may be folded with some parameters. Assumes nothing.
use Rattle.std.specs.Prelude.{ℕ, ◌≤◌}
use Rattle.crc.specs.Crc.{Kind}
use Rattle.crc.specs.Folding.{Within, Multiple}
use Rattle.slicing.specs.Directions.{direction_of}
use Rattle.crc16.specs.declared.parameters.Parameters.{Parameters}

-- the kind that the parameters are for, 16 bits wide and without a final xor
abbrev pub kind_for : Parameters → Kind
kind_for p = record { width = 16; poly = p.poly; init = p.start; direction = direction_of p.fold.direction; xorout = 0 }

-- the most that `far` may be
abbrev pub max_far : ℕ
max_far = 80

-- the offsets are those of a multiple of the polynomial, none is above `far` or shorter than the two bytes that the register meets, and
-- the buffer is long enough
pub record Foldable (p : Parameters) : Type 0 where
  pub meets : 2 ≤ p.fold.far
  pub fits : p.fold.far ≤ max_far
  pub within : Within 2 p.fold.far p.fold.offsets
  pub multiple : Multiple (kind_for p) p.fold.far p.fold.offsets
