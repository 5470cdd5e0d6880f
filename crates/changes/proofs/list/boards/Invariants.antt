-- `changes::list::boards` meets its contract. The loop's invariant: the boards at the first i places are told. Assumes nothing.
use Rattle.text.specs.Outputs.{TextsAdded}
use Rattle.changes.specs.BoardLists.{board_fields}
use Rattle.changes.proofs.list.boards.Given as goal

abbrev pub invariant-loop-i : goal.invariant-loop-i
invariant-loop-i l = TextsAdded l.initial.output (board_fields l.before l.after l.i) l.output
