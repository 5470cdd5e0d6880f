-- `boards::report::report_data` meets its contract. The loop's invariant: the count and i boards stand in front of zeros. Assumes nothing.
use borrow.Author.Rules.{rules}
use mathlib.Core.Path.{◌≡◌, sym, ap, ap₂, ◌∙◌}
use mathlib.Core.List.{List}
use Prim.Native.Nat.{ℕ, ◌+◌, ◌*◌}
use native.Mathlib.Omega.{arith}
use lib.ListN.{length}
use lib.Seq.{length-take-le, get_or-take}
use Rattle.sequences.specs.Padding.{padded}
use Rattle.boards.specs.declared.board.Board.{Board}
use Rattle.sequences.specs.Places.{written_at}
use Rattle.boards.specs.Boards.{past_board}
use Rattle.boards.specs.Report.{board_bytes, max_report}
use Rattle.boards.proofs.Reports.{so_far, so_far-none, so_far-next, so_far-all}
use Rattle.boards.proofs.report.report_data.Goals as goal

pub loop-i-init : goal.loop-i-init
loop-i-init c = sym (ap (padded max_report) (so_far-none c.args.boards c.args.count))

pub loop-i-preserved : goal.loop-i-preserved
loop-i-preserved c =
    let l = c.loop-i in
    let a = c.args in
    let size : length a.boards ≡ 10 = search rules in
    let inside = length-take-le a.count a.boards (omega arith) in
    c.with_board-d.ensures
    ∙ ap₂ (λ (x : List ℕ) (b : Board). written_at x (1 + 7 * l.i) (board_bytes b)) l.invariant
    (get_or-take a.count a.boards l.i past_board (omega arith))
    ∙ so_far-next max_report a.boards a.count l.i (omega arith)

pub returns : goal.returns
returns c =
    let l = c.loop-i in
    let a = c.args in
    let size : length a.boards ≡ 10 = search rules in
    let inside = length-take-le a.count a.boards (omega arith) in
    let e : l.i ≡ a.count = omega arith in
    l.invariant ∙ ap (λ (n : ℕ). padded max_report (so_far a.boards a.count n)) e
    ∙ ap (padded max_report) (so_far-all a.boards a.count)
