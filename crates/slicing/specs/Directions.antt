-- A direction of the code as one of `crc`. Assumes nothing.
use Rattle.crc.specs.Crc.{Direction, normal, reflected}
use Rattle.slicing.specs.declared.register.Direction.{Direction as Way}
use Rattle.slicing.specs.declared.register.Direction.TheVariants.{Normal, Reflected}

abbrev pub direction_of : Way → Direction
direction_of Normal = normal
direction_of Reflected = reflected
