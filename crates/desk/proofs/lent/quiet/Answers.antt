-- `desk::lent::quiet` meets its contract. Assumes nothing.
use mathlib.Core.Path.{ap, sym}
use lib.Seq.{length-take-le}
use Rattle.desk.specs.Lent.{left_as}
use Rattle.desk.proofs.lent.quiet.Goals as goal

pub slice_bounds-quiet-end-2 : goal.slice_bounds-quiet-end-2
slice_bounds-quiet-end-2 c = sym (length-take-le c.args.n c.args.room.now c.requires.n_in_bounds)

pub slice_bounds-quiet-end-4 : goal.slice_bounds-quiet-end-4
slice_bounds-quiet-end-4 c = sym (length-take-le c.args.m c.args.area.now c.requires.m_in_bounds)

pub returns : goal.returns
returns c =
    let a = c.args in
    let x = c.quiet.ensures in
    record {
      gives = x.gives;
      in_room = ap (λ s. left_as s a.n a.room.now) x.leaves-room;
      in_area = ap (λ s. left_as s a.m a.area.now) x.leaves-area;
    }
