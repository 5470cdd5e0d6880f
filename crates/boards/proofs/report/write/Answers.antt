-- `boards::report::write` meets its contract. Assumes nothing.
use mathlib.Core.Path.{sym, ap, ◌∙◌}
use native.Mathlib.Omega.{arith}
use borrow.Author.Tests.{lt-ltb}
use lib.Seq.{length-take-le}
use Rattle.fronts.specs.Frame.{Frame}
use Rattle.frames.specs.Buffer.{written_size, written_room}
use Rattle.commands.specs.declared.table.Row.{Row}
use Rattle.commands.proofs.Rows.{f9-version}
use Rattle.boards.specs.Report.{report_size, report_room}
use Rattle.boards.proofs.Reports.{report_frame_lem, size-listed, room-listed}
use Rattle.boards.proofs.report.write.Goals as goal

pub returns-then-count-gt-MAX_BOARDS : goal.returns-then-count-gt-MAX_BOARDS
unfolding report_size report_room
returns-then-count-gt-MAX_BOARDS c = let many = lt-ltb _ _ c.if-count-gt-MAX_BOARDS.true in record { gives = rw many; leaves = rw many }

pub slice_bounds-write-end : goal.slice_bounds-write-end
slice_bounds-write-end c = sym (length-take-le _ _ (omega arith))

pub returns : goal.returns
returns c =
    let boards = c.args.boards in
    let n = c.args.count in
    let room = c.args.room.now in
    let few = c.if-count-gt-MAX_BOARDS.false in
    let row = c.row_of-row in
    let version = ap (λ (r : Row). r.version) row.ensures.is ∙ f9-version in
    let f = report_frame_lem boards n row.result.version c.report_data-d.result version
    c.report_data-d.ensures in
    let w = c.write.ensures in
    record {
      gives = w.gives ∙ ap (λ (g : Frame). written_size g room) f ∙ sym (size-listed boards n room few);
      leaves = w.leaves ∙ ap (λ (g : Frame). written_room g room) f ∙ sym (room-listed boards n room few);
    }
