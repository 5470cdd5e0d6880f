-- 01, "The record and the board list" and "Outcome numbers": opening, as far as the session goes. Assumes nothing.
use Rattle.std.specs.Prelude.{Bool, cond, ◌||◌, List, ℕ, ltb, replicate}
use Rattle.commands.specs.Limits.{max_area}
use Rattle.boards.specs.declared.board.Board.{Board}
use Rattle.transfer.specs.Transfers.{no_transfer}
use Rattle.session.specs.declared.session.Session.{Session}
use Rattle.session.specs.declared.session.Opening.{Opening}
use Rattle.commands.specs.Outcomes.{accepted, bad_area_length, bad_boards}
use Rattle.boards.specs.Boards.{max_boards, no_board, bad_list, list_of}

-- "the area's length, 1 to 1,048,576"
abbrev pub bad_area : ℕ → Bool
bad_area n = ltb n 1 || ltb max_area n

-- "An unusable record is all zero"
abbrev pub no_session : Session
no_session = record { boards = replicate max_boards no_board; count = 0; opened = 0; transfer = no_transfer }

-- "A fresh record has its list and opened length, is idle and otherwise zero, unused board places too."
unfoldable pub fresh_session : List Board → ℕ → ℕ → Session
fresh_session bs n area = record { boards = list_of bs n; count = n; opened = area; transfer = no_transfer }

-- "opening 8, then 7"
unfoldable pub opened : List Board → ℕ → ℕ → Opening
unfolding fresh_session
opened bs n area =
    cond (bad_list bs n) (record { outcome = bad_boards; session = no_session })
    (cond (bad_area area) (record { outcome = bad_area_length; session = no_session })
    (record { outcome = accepted; session = fresh_session bs n area }))
