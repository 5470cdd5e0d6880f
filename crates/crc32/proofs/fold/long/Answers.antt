-- `crc32::fold::long` meets its contract: the law of folding with this kind's numbers. Assumes nothing.
use borrow.Author.Rules.{rules}
use mathlib.Core.Path.{refl}
use Rattle.crc.specs.Crc.{crc32}
use Rattle.slicing.proofs.UsedUp.{four_use_up}
use Rattle.crc32.proofs.Foldable.{within_four, offsets-multiple}
use Rattle.crc32.proofs.fold.long.Goals as goal

pub returns : goal.returns
unfolding crc32
returns c =
    c.over.ensures crc32 (refl, refl) c.requires.1 within_four offsets-multiple
    (four_use_up c.args.register (search rules)) (search rules)
