-- `boards::list::list_of` meets its contract. Assumes nothing.
use borrow.Author.Rules.{rules}
use mathlib.Core.Path.{◌≡◌, refl, ◌∙◌}
use native.Mathlib.Omega.{arith}
use lib.ListN.{length}
use Rattle.boards.specs.Boards.{list_of, no_board}
use Rattle.boards.proofs.Lists.{filled-rest, all-taken}
use Rattle.boards.proofs.list.list_of.Goals as goal

pub returns-then-count-lt-MAX_BOARDS : goal.returns-then-count-lt-MAX_BOARDS
unfolding list_of
returns-then-count-lt-MAX_BOARDS c =
    let a = c.args in
    let size : length a.boards ≡ 10 = search rules in
    filled-rest a.boards _ no_board a.count 10 size (omega arith) c.fill.ensures.len
    (λ k d h. c.fill.ensures.clones k d h refl ∙ c.no_board.ensures)

pub returns-else-count-lt-MAX_BOARDS : goal.returns-else-count-lt-MAX_BOARDS
unfolding list_of
returns-else-count-lt-MAX_BOARDS c =
    let size : length c.args.boards ≡ 10 = search rules in
    all-taken c.args.boards no_board c.args.count 10 size (omega arith)
