-- `changes::list::boards` meets its contract. Assumes nothing.
use mathlib.Core.Path.{◌≡◌, ap}
use native.Mathlib.Omega.{arith}
use Rattle.boards.specs.Boards.{max_boards}
use Rattle.text.specs.Outputs.{none}
use Rattle.text.proofs.Texts.{texts_as, ◌then◌}
use Rattle.changes.specs.BoardLists.{board_fields}
use Rattle.changes.proofs.BoardLists.{boards_none, boards_next}
use Rattle.changes.proofs.list.boards.Goals as goal

pub loop-i-init : goal.loop-i-init
loop-i-init c = texts_as (boards_none c.args.before c.args.after) none

pub loop-i-preserved : goal.loop-i-preserved
loop-i-preserved c =
    let a = c.args in
    let next = boards_next a.before a.after c.loop-i.i c.board_at.ensures c.board_at-in-loop-i.ensures in
    texts_as next (c.loop-i.invariant then c.place.ensures)

pub returns : goal.returns
returns c =
    let a = c.args in
    let all : c.loop-i.i ≡ max_boards = omega arith in
    texts_as (ap (board_fields a.before a.after) all) c.loop-i.invariant
