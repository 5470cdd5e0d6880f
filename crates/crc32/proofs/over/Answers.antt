-- `crc32::over` meets its contract. Assumes nothing.
use mathlib.Core.Path.{refl}
use Rattle.crc.specs.Crc.{crc32}
use Rattle.crc32.proofs.over.Goals as goal

pub returns-then-s-lt-LEAST : goal.returns-then-s-lt-LEAST
unfolding crc32
returns-then-s-lt-LEAST c = c.over.ensures crc32 (refl, refl) c.requires
