-- `image::check::Check::started` meets its contract. Assumes nothing.
use mathlib.Core.Path.{refl}
use Rattle.crc.specs.Crc.{crc32}
use Rattle.image.proofs.check.Check.started.Goals as goal

pub returns : goal.returns
unfolding crc32
returns c = refl
