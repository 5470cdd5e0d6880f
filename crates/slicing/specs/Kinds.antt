-- The kinds that a register of some width may be of, if it moves in some direction. Assumes nothing.
use Rattle.std.specs.Prelude.{◌≡◌, ℕ}
use Rattle.crc.specs.Crc.{Kind}
use Rattle.slicing.specs.declared.register.Direction.{Direction}
use Rattle.slicing.specs.Directions.{direction_of}

abbrev pub Goes : Kind → ℕ → Direction → Type 0
Goes k w d = (k.width ≡ w) × (k.direction ≡ direction_of d)
