-- `folding::message::part` meets its contract. Assumes nothing.
use borrow.Author.Rules.{rules}
use mathlib.Core.Path.{refl}
use native.Mathlib.Omega.{arith}
use Rattle.crc.proofs.Folding.{carries_part}
use Rattle.folding.proofs.message.part.Goals as goal

pub returns : goal.returns
returns g c =
    λ k within multiple.
    (carries_part k c.args.f.now.far c.args.f.now.offsets within multiple c.args.s.now c.args.b.now _ _ _ refl
    (λ i. omega (arith, c.type_inv.s i)) (search rules) (omega arith) c.sweep.ensures c.move_down.ensures).1
