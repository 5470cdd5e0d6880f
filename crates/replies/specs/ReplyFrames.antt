-- The reply to each command as a frame: the table's version byte and length are those of the data built for it; and a reply in the room
-- of a call. Assumes nothing.
use Rattle.std.specs.Prelude.{◌≡◌, true, false, List, ◌++◌, ℕ, ◌≤◌, length, take, drop}
use Rattle.fronts.specs.Frame.{frame_size, Frame, encode, frame_at}
use Rattle.sequences.specs.Padding.{padded}
use Rattle.commands.specs.Table.{row_at, place_in_table}
use Rattle.commands.specs.Limits.{max_reply}
use Rattle.replies.specs.Replies.{reply_fa, reply_fb, reply_fc, reply_state, reply_frame, has_reply, reply_size, reply_room}
use Rattle.frames.specs.Buffer.{whole_at}

abbrev pub frame_with : ℕ → ℕ → List ℕ → Frame
frame_with version command d = record { version = version; command = command; payload = d }

pub record ReplyFrames : Type 0 where
  pub fa : (channel flag : ℕ) (version : List ℕ) → reply_frame 0xFA (padded max_reply (reply_fa channel flag version)) ≡ frame_with 0x00 0xFA
      (reply_fa channel flag version)
  pub fb : (channel state stored crc : ℕ) → reply_frame 0xFB (padded max_reply (reply_fb channel state stored crc)) ≡ frame_with 0x10 0xFB
      (reply_fb channel state stored crc)
  pub fc : (channel offset : ℕ) → reply_frame 0xFC (padded max_reply (reply_fc channel offset)) ≡ frame_with 0x00 0xFC (reply_fc channel offset)
  pub fd : (channel state : ℕ) → reply_frame 0xFD (padded max_reply (reply_state channel state)) ≡ frame_with 0x00 0xFD
      (reply_state channel state)
  pub fe : (channel state : ℕ) → reply_frame 0xFE (padded max_reply (reply_state channel state)) ≡ frame_with 0x00 0xFE
      (reply_state channel state)
  -- FA to FE have a reply, F9 none
  pub fa-replied : has_reply 0xFA ≡ true
  pub fb-replied : has_reply 0xFB ≡ true
  pub fc-replied : has_reply 0xFC ≡ true
  pub fd-replied : has_reply 0xFD ≡ true
  pub fe-replied : has_reply 0xFE ≡ true
  pub f9 : has_reply 0xF9 ≡ false

-- A reply in a call's room: 7 + L of the table's L; it stands at the front, the rest of the room stays, and it reads back as the whole
-- frame of that command, version and data.
pub record ReplyReadsBack (command : ℕ) (d room : List ℕ) : Type 0 where
  pub size : length d ≡ max_reply → reply_size command d room ≡ frame_size (row_at (place_in_table command)).reply_length
  pub stays : reply_room command d room ≡ encode (reply_frame command d) ++ drop (reply_size command d room) room
  pub front : take (reply_size command d room) (reply_room command d room) ≡ encode (reply_frame command d)
  pub whole : whole_at (reply_room command d room) ≡ true
  pub reads_back : frame_at (reply_room command d room) ≡ reply_frame command d

abbrev pub EveryReplyReadsBack : Type 0
EveryReplyReadsBack = (command : ℕ) (d room : List ℕ) → has_reply command ≡ true → 33 ≤ length room → ReplyReadsBack command d room
