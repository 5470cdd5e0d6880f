-- `crc32::checksum` meets its contract. Assumes nothing.
use mathlib.Core.Path.{ap, ◌∙◌}
use Rattle.crc.specs.Crc.{finish, checksum, crc32}
use Rattle.crc32.proofs.checksum.Goals as goal

pub returns : goal.returns
unfolding checksum crc32
returns c = c.finish.ensures ∙ ap (finish crc32) c.update.ensures
