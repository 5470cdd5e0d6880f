-- `boards::list::any_bad_board` meets its contract. The loop's invariant: the search for a bad board from place i on finds what the
-- whole search finds. Assumes nothing.
use mathlib.Core.Path.{◌≡◌}
use Prim.Native.Nat.{◌-◌}
use Rattle.sequences.specs.Search.{find}
use Rattle.boards.specs.Boards.{bad_board}
use Rattle.boards.proofs.list.any_bad_board.Given as goal

abbrev pub invariant-loop-i : goal.invariant-loop-i
invariant-loop-i l = find (bad_board l.fn.boards) (l.fn.count - l.i) l.i ≡ find (bad_board l.fn.boards) l.fn.count 0
