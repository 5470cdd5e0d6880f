-- A reply as a frame: whether there is one, its fields, its size, and that it reads back. Assumes nothing.
use mathlib.Core.Path.{◌≡◌, refl, sym, ap, ◌∙◌}
use mathlib.Core.Bool.{true, false}
use mathlib.Core.List.{List, ◌++◌}
use Prim.Native.Nat.{ℕ, ◌≤◌}
use native.Mathlib.Omega.{arith}
use borrow.Author.Tests.{le-ltb, lt-ltb}
use lib.ListN.{length, take, drop, length-take}
use lib.Seq.{length-take-le, take_at}
use Rattle.fronts.specs.Frame.{frame_size, Frame, encode, frame_at}
use Rattle.frames.specs.Buffer.{whole_at, writable, written_size, written_room}
use Rattle.fronts.proofs.Sizes.{encode-size}
use Rattle.frames.proofs.Writes.{writable-fits}
use Rattle.frames.proofs.RoundTrips.{size-written, room-written, whole-written, frame-written}
use Rattle.commands.specs.declared.table.Row.{Row}
use Rattle.commands.specs.Table.{place_in_table, row_at}
use Rattle.commands.specs.Limits.{max_reply}
use Rattle.replies.specs.Replies.{reply_frame, has_reply, reply_size, reply_room}
use Rattle.replies.specs.ReplyFrames.{EveryReplyReadsBack}
use Rattle.commands.proofs.Rows.{reply-short}

-- the frame that a row makes of a command and a reply's data
abbrev pub by_row : Row → ℕ → List ℕ → Frame
by_row r command d = record { version = r.reply_version; command = command; payload = take r.reply_length d }

pub by_row_lem : (command : ℕ) (d : List ℕ) → reply_frame command d ≡ by_row (row_at (place_in_table command)) command d
unfolding reply_frame
by_row_lem command d = refl

pub no-reply : (command : ℕ) → (row_at (place_in_table command)).reply_length ≡ 0 → has_reply command ≡ false
unfolding has_reply
no-reply command e = le-ltb 0 (row_at (place_in_table command)).reply_length (omega arith)

pub some-reply : (command : ℕ) → ((row_at (place_in_table command)).reply_length ≡ 0 → ⊥) → has_reply command ≡ true
unfolding has_reply
some-reply command n = lt-ltb 0 (row_at (place_in_table command)).reply_length (omega arith)

-- without a reply nothing is written
pub unreplied_size : (command : ℕ) (d room : List ℕ) → has_reply command ≡ false → reply_size command d room ≡ 0
unfolding reply_size
unreplied_size command d room e = rw e

pub unreplied_room : (command : ℕ) (d room : List ℕ) → has_reply command ≡ false → reply_room command d room ≡ room
unfolding reply_room
unreplied_room command d room e = rw e

module _ (command : ℕ) (d room : List ℕ) (e : has_reply command ≡ true) where
  pub replied-size : reply_size command d room ≡ written_size (reply_frame command d) room
  unfolding reply_size
  replied-size = rw e

  pub replied-room : reply_room command d room ≡ written_room (reply_frame command d) room
  unfolding reply_room
  replied-room = rw e

  payload-short : length (reply_frame command d).payload ≤ max_reply
  unfolding reply_frame
  payload-short = omega (arith, length-take (row_at (place_in_table command)).reply_length d, reply-short (place_in_table command))

  -- the room of a call is wide enough for every reply
  module _ (wide : 33 ≤ length room) where
    reply-writable : writable (reply_frame command d) room ≡ true
    reply-writable = writable-fits (reply_frame command d) room (omega (arith, payload-short)) (omega (arith, payload-short))

    pub whole-size : reply_size command d room ≡ frame_size (length (reply_frame command d).payload)
    whole-size = replied-size ∙ size-written (reply_frame command d) room reply-writable

    pub reply-some : reply_size command d room ≡ 0 → ⊥
    reply-some z = omega (arith, whole-size)

    -- 7 + L, L being the table's
    pub reply-size : length d ≡ max_reply → reply_size command d room ≡ frame_size (row_at (place_in_table command)).reply_length
    unfolding reply_frame
    reply-size size =
        whole-size ∙ ap frame_size
        (length-take-le (row_at (place_in_table command)).reply_length d (omega (arith, reply-short (place_in_table command))))

    -- the reply stands at the front of the room, and the rest of the room stays
    pub reply-room : reply_room command d room ≡ encode (reply_frame command d) ++ drop (reply_size command d room) room
    reply-room =
        replied-room
        ∙ room-written (reply_frame command d) room reply-writable
        ∙ ap (λ (n : ℕ). encode (reply_frame command d) ++ drop n room) (sym whole-size)

    pub reply-front : take (reply_size command d room) (reply_room command d room) ≡ encode (reply_frame command d)
    reply-front =
        ap (take (reply_size command d room)) reply-room ∙ take_at (encode (reply_frame command d)) _ (reply_size command d room)
        (encode-size (reply_frame command d) ∙ sym whole-size)

    -- it reads back as the whole frame of that command, version and data
    pub reply-whole : whole_at (reply_room command d room) ≡ true
    reply-whole = ap whole_at replied-room ∙ whole-written (reply_frame command d) room reply-writable

    frame_back : frame_at (reply_room command d room) ≡ reply_frame command d
    frame_back = ap frame_at replied-room ∙ frame-written (reply_frame command d) room reply-writable

pub reply_reads_back : EveryReplyReadsBack
reply_reads_back command d room e wide =
    record {
      size = reply-size command d room e wide;
      stays = reply-room command d room e wide;
      front = reply-front command d room e wide;
      whole = reply-whole command d room e wide;
      reads_back = frame_back command d room e wide;
    }
