-- The report's data, one board more at a time. Assumes nothing.
use mathlib.Core.Path.{◌≡◌, refl, sym, ap, ap₂, ◌∙◌}
use mathlib.Core.List.{List, [], ◌∷◌, ◌++◌}
use Prim.Native.Nat.{ℕ, zero, suc, ◌+◌, ◌-◌, ◌*◌, ◌≤◌}
use native.Mathlib.Omega.{arith}
use native.Mathlib.Numerals.{add-one}
use lib.ListN.{length, take, drop, get_or, length-append}
use lib.Seq.{take_at}
use mathlib.Core.Bool.{true, false}
use borrow.Author.Tests.{le-ltb}
use lib.Dec.{ltb}
use Rattle.fronts.specs.Frame.{encode, frame_at}
use Rattle.frames.specs.Buffer.{whole_at, writable, written_size, written_room}
use Rattle.sequences.specs.Padding.{padded, zeros}
use Rattle.sequences.proofs.Padding.{padded-more}
use Rattle.frames.proofs.Writes.{writable-fits}
use Rattle.frames.proofs.RoundTrips.{size-written, room-written, whole-written, frame-written}
use Rattle.boards.specs.declared.board.Board.{Board}
use Rattle.sequences.specs.Places.{written_at}
use Rattle.boards.specs.Boards.{max_boards, past_board}
use Rattle.boards.specs.Report.{board_bytes, boards_bytes, report_bytes, max_report, report_frame, report_size, report_room}
use Rattle.boards.specs.Report.{ReportsReadBack}

boards_size : (bs : List Board) (n : ℕ) → length (boards_bytes bs n) ≡ 7 * n
unfolding boards_bytes
boards_size bs zero = refl
boards_size bs (suc n) = omega (arith, length-append (boards_bytes bs n) (board_bytes (get_or bs n past_board)), boards_size bs n)

-- L = 7n + 1
pub report_length_lem : (bs : List Board) (n : ℕ) → length (report_bytes bs n) ≡ 1 + 7 * n
unfolding report_bytes
report_length_lem bs n = omega (arith, boards_size bs n)

-- the count m, and n boards so far
abbrev pub so_far : List Board → ℕ → ℕ → List ℕ
so_far bs m n = m ∷ boards_bytes bs n

pub so_far-none : (bs : List Board) (m : ℕ) → so_far bs m 0 ≡ m ∷ []
unfolding boards_bytes
so_far-none bs m = refl

pub so_far-next : (k : ℕ) (bs : List Board) (m n : ℕ) → 1 + 7 * (n + 1) ≤ k
    → written_at (padded k (so_far bs m n)) (1 + 7 * n) (board_bytes (get_or bs n past_board)) ≡ padded k (so_far bs m (n + 1))
unfolding boards_bytes
so_far-next k bs m n fits =
    let size : 1 + 7 * n ≡ length (so_far bs m n) = omega (arith, boards_size bs n) in
    ap (λ (i : ℕ). written_at (padded k (so_far bs m n)) i (board_bytes (get_or bs n past_board))) size
    ∙ padded-more k (so_far bs m n) (board_bytes (get_or bs n past_board)) (omega arith)
    ∙ ap (λ (i : ℕ). padded k (so_far bs m i)) (sym (add-one n))

pub so_far-all : (bs : List Board) (n : ℕ) → so_far bs n n ≡ report_bytes bs n
unfolding report_bytes
so_far-all bs n = refl

-- ---- the report as a frame

pub report_frame_lem : (bs : List Board) (n v : ℕ) (d : List ℕ) → v ≡ 0x00 → d ≡ padded max_report (report_bytes bs n)
    → record { version = v; command = 0xF9; payload = take (1 + 7 * n) d } ≡ report_frame bs n
unfolding report_frame
report_frame_lem bs n v d ev ed =
    let bytes = report_bytes bs n in
    ap₂ (λ (x : ℕ) (p : List ℕ). record { version = x; command = 0xF9; payload = p }) ev
    (ap (take (1 + 7 * n)) ed ∙ take_at bytes (zeros (max_report - length bytes)) (1 + 7 * n) (report_length_lem bs n))

module _ (bs : List Board) (n : ℕ) (room : List ℕ) (few : n ≤ max_boards) where
  listed : ltb max_boards n ≡ false
  listed = le-ltb max_boards n few

  report_payload : length (report_frame bs n).payload ≡ 1 + 7 * n
  unfolding report_frame
  report_payload = report_length_lem bs n

  pub size-listed : report_size bs n room ≡ written_size (report_frame bs n) room
  unfolding report_size
  size-listed = rw listed

  pub room-listed : report_room bs n room ≡ written_room (report_frame bs n) room
  unfolding report_room
  room-listed = rw listed

  -- where the room is wide enough: 8 + 7n, the report at the front and the rest of the room as it was
  module _ (wide : 8 + 7 * n ≤ length room) where
    report_writable : writable (report_frame bs n) room ≡ true
    report_writable = writable-fits (report_frame bs n) room (omega (arith, report_payload)) (omega (arith, report_payload))

    pub report_size_lem : report_size bs n room ≡ 8 + 7 * n
    report_size_lem = size-listed ∙ size-written (report_frame bs n) room report_writable ∙ omega (arith, report_payload)

    pub report_room_lem : report_room bs n room ≡ encode (report_frame bs n) ++ drop (8 + 7 * n) room
    report_room_lem =
        let size : 7 + length (report_frame bs n).payload ≡ 8 + 7 * n = omega (arith, report_payload) in
        room-listed ∙ room-written (report_frame bs n) room report_writable ∙ ap (λ (k : ℕ). encode (report_frame bs n) ++ drop k room) size

    -- it reads back as a whole frame
    report_whole : whole_at (report_room bs n room) ≡ true
    report_whole = ap whole_at room-listed ∙ whole-written (report_frame bs n) room report_writable

    report_reads_back : frame_at (report_room bs n room) ≡ report_frame bs n
    report_reads_back = ap frame_at room-listed ∙ frame-written (report_frame bs n) room report_writable

pub reports_read_back : ReportsReadBack
reports_read_back bs n room few wide =
    record {
      size = report_size_lem bs n room few wide;
      front = report_room_lem bs n room few wide;
      whole = report_whole bs n room few wide;
      reads_back = report_reads_back bs n room few wide;
    }
