-- `desk::lent::report` meets its contract. Assumes nothing.
use mathlib.Core.Path.{ap, sym}
use lib.Seq.{length-take-le}
use Rattle.desk.specs.Lent.{left_as}
use Rattle.desk.proofs.lent.report.Goals as goal

pub slice_bounds-report-end-2 : goal.slice_bounds-report-end-2
slice_bounds-report-end-2 c = sym (length-take-le c.args.n c.args.room.now c.requires)

pub returns : goal.returns
returns c =
    let a = c.args in
    let x = c.report.ensures in
    record { value = x.gives; room_after = ap (λ s. left_as s a.n a.room.now) x.leaves }
