-- `crc32::finish` meets its contract. Assumes nothing.
use mathlib.Core.Path.{refl}
use Rattle.crc.specs.Crc.{finish, crc32}
use Rattle.crc32.proofs.finish.Goals as goal

pub returns : goal.returns
unfolding finish crc32
returns c = refl
