-- `crc16::register::over` meets its contract. Assumes nothing.
use mathlib.Core.Path.{refl}
use Rattle.crc.specs.Crc.{finish, checksum}
use Rattle.crc16.specs.Foldable.{kind_for}
use Rattle.crc16.proofs.register.over.Goals as goal

pub returns-then-s-lt-LEAST : goal.returns-then-s-lt-LEAST
unfolding checksum finish
returns-then-s-lt-LEAST c = c.over.ensures (kind_for c.args.p.now) (refl, refl) c.requires.0

pub returns : goal.returns
unfolding checksum finish
returns c = c.long.ensures
