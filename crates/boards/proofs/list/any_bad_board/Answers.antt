-- `boards::list::any_bad_board` meets its contract. The loop's invariant: the search for a bad board from place i on finds what the
-- whole search finds. Assumes nothing.
use mathlib.Core.Path.{sym, ◌∙◌}
use Rattle.sequences.proofs.Searches.{find-start, find_miss, find-yes, find-no}
use Rattle.boards.specs.Boards.{bad_board}
use Rattle.boards.proofs.list.any_bad_board.Goals as goal

pub loop-i-init : goal.loop-i-init
loop-i-init c = find-start (bad_board c.args.boards) c.args.count

pub returns-then-bad_board : goal.returns-then-bad_board
returns-then-bad_board c =
    let a = c.args in
    let l = c.loop-i in
    sym (find-yes (bad_board a.boards) a.count l.i l.invariant c.loop-i-test.true (sym c.bad_board.ensures ∙ c.if-bad_board.true))

pub loop-i-preserved : goal.loop-i-preserved
loop-i-preserved c =
    let a = c.args in
    let l = c.loop-i in
    find_miss (bad_board a.boards) a.count l.i c.loop-i-test.true (sym c.bad_board.ensures ∙ c.if-bad_board.false) ∙ l.invariant

pub returns : goal.returns
returns c = sym (find-no (bad_board c.args.boards) c.args.count c.loop-i.i c.loop-i.invariant c.loop-i-test.false)
