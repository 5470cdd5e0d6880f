-- `exchange::exchange` meets its contract. Assumes nothing.
use mathlib.Core.Path.{ap}
use native.Mathlib.Omega.{arith}
use lib.ListN.{length, length-take}
use Rattle.exchange.proofs.exchange.Goals as goal

pub start-started-requires : goal.start-started-requires
start-started-requires c =
    let image = ap length c.front-image.ensures in
    let front = length-take c.args.n c.args.bytes.now in
    let good = c.well_formed in
    let words = c.requires.in_range in
    record { in_range = words; image_nonzero = omega (arith, image, front); image_len_bound = omega (arith, image, front) }
