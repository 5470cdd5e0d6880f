-- 01, "The six commands": the data of what the controller answers, and a reply as a frame. Assumes nothing.
use Rattle.std.specs.Prelude.{◌≡◌, Bool, cond, List, [], ◌∷◌, ◌++◌, ℕ, ltb, get_or, take}
use Rattle.fronts.specs.Frame.{Frame}
use Rattle.sequences.specs.Numbers.{bytes16, bytes32}
use Rattle.sequences.specs.Padding.{zeros}
use Rattle.frames.specs.Buffer.{written_size, written_room}
use Rattle.commands.specs.Limits.{max_packet}
use Rattle.commands.specs.Table.{place_in_table, row_at}

-- a version's three parts
abbrev pub parts : List ℕ → List ℕ
parts v = get_or v 0 0 ∷ get_or v 1 0 ∷ get_or v 2 0 ∷ []

-- FA: "channel, flag, version(3), Len2(2)"
unfoldable pub reply_fa : ℕ → ℕ → List ℕ → List ℕ
reply_fa channel flag version = channel ∷ flag ∷ parts version ++ bytes16 max_packet

-- FB: "channel, state, stored(4), CRC-32 of stored(4), MD5 field, 16 zero bytes"
unfoldable pub reply_fb : ℕ → ℕ → ℕ → ℕ → List ℕ
reply_fb channel state stored crc = channel ∷ state ∷ bytes32 stored ++ bytes32 crc ++ zeros 16

-- FC: "channel, offset(4)"
unfoldable pub reply_fc : ℕ → ℕ → List ℕ
reply_fc channel offset = channel ∷ bytes32 offset

-- FD and FE: "channel, state"
unfoldable pub reply_state : ℕ → ℕ → List ℕ
reply_state channel state = channel ∷ state ∷ []

-- the reply to a command: version byte and length are the table's
unfoldable pub reply_frame : ℕ → List ℕ → Frame
reply_frame command d =
    let r = row_at (place_in_table command) in
    record { version = r.reply_version; command = command; payload = take r.reply_length d }

-- F9 and commands outside the table have none
unfoldable pub has_reply : ℕ → Bool
has_reply command = ltb 0 (row_at (place_in_table command)).reply_length

unfoldable pub reply_size : ℕ → List ℕ → List ℕ → ℕ
reply_size command d room = cond (has_reply command) (written_size (reply_frame command d) room) 0

unfoldable pub reply_room : ℕ → List ℕ → List ℕ → List ℕ
reply_room command d room = cond (has_reply command) (written_room (reply_frame command d) room) room

-- the contract of writing a reply: what it gives, and the room as it leaves it
pub record ReplyWritten (command : ℕ) (d room : List ℕ) (size : ℕ) (after : List ℕ) : Type 0 where
  pub gives : size ≡ reply_size command d room
  pub leaves : after ≡ reply_room command d room
