-- 01, "The six commands": "F9 outward: version 00, L = 7n + 1: count n, then per board channel, soft version(3), hard version(3), in
-- list order." Assumes nothing.
use Rattle.std.specs.Prelude.{◌≡◌, true, cond, List, [], ◌∷◌, ◌++◌, ℕ, zero, suc, ◌+◌, ◌*◌, ◌≤◌, ltb, length, drop, get_or}
use Rattle.fronts.specs.Frame.{Frame, encode, frame_at}
use Rattle.frames.specs.Buffer.{whole_at, written_size, written_room}
use Rattle.replies.specs.Replies.{parts}
use Rattle.boards.specs.declared.board.Board.{Board}
use Rattle.boards.specs.Boards.{max_boards, past_board}

-- "channel, soft version(3), hard version(3)"
abbrev pub board_size : ℕ
board_size = 7

-- the longest report's data
abbrev pub max_report : ℕ
max_report = 1 + board_size * max_boards

abbrev pub board_bytes : Board → List ℕ
board_bytes b = b.channel ∷ parts b.soft ++ parts b.hard

-- the first n boards, in list order
unfoldable pub boards_bytes : List Board → ℕ → List ℕ
boards_bytes bs zero = []
boards_bytes bs (suc n) = boards_bytes bs n ++ board_bytes (get_or bs n past_board)

unfoldable pub report_bytes : List Board → ℕ → List ℕ
report_bytes bs n = n ∷ boards_bytes bs n

unfoldable pub report_frame : List Board → ℕ → Frame
report_frame bs n = record { version = 0x00; command = 0xF9; payload = report_bytes bs n }

unfoldable pub report_size : List Board → ℕ → List ℕ → ℕ
report_size bs n room = cond (ltb max_boards n) 0 (written_size (report_frame bs n) room)

unfoldable pub report_room : List Board → ℕ → List ℕ → List ℕ
report_room bs n room = cond (ltb max_boards n) room (written_room (report_frame bs n) room)

-- the contract of writing it: what it gives, and the room as it leaves it
pub record ReportWritten (bs : List Board) (n : ℕ) (room : List ℕ) (size : ℕ) (after : List ℕ) : Type 0 where
  pub gives : size ≡ report_size bs n room
  pub leaves : after ≡ report_room bs n room

-- The claim: where the room is wide enough, the length is 8 + 7n, the report stands at the front, the rest of the room stays, and it
-- reads back as that frame.
pub record ReportReadsBack (bs : List Board) (n : ℕ) (room : List ℕ) : Type 0 where
  pub size : report_size bs n room ≡ 8 + 7 * n
  pub front : report_room bs n room ≡ encode (report_frame bs n) ++ drop (8 + 7 * n) room
  pub whole : whole_at (report_room bs n room) ≡ true
  pub reads_back : frame_at (report_room bs n room) ≡ report_frame bs n

abbrev pub ReportsReadBack : Type 0
ReportsReadBack = (bs : List Board) (n : ℕ) (room : List ℕ) → n ≤ max_boards → 8 + 7 * n ≤ length room → ReportReadsBack bs n room
