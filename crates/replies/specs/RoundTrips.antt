-- The claim: reading a reply that was built gives its fields back, and it is the reply to that command. Assumes nothing.
use Rattle.std.specs.Prelude.{◌≡◌, true, List, ℕ, ◌<◌}
use Rattle.fronts.specs.Frame.{encode}
use Rattle.sequences.specs.Numbers.{max32}
use Rattle.sequences.specs.Padding.{padded}
use Rattle.frames.specs.Buffer.{data_at}
use Rattle.commands.specs.Limits.{max_reply, max_packet}
use Rattle.replies.specs.Replies.{reply_fa, reply_fb, reply_fc, reply_state, reply_frame}
use Rattle.replies.specs.ReplyFields.{is_reply, fields_fa, fields_fb, fields_fc, fields_state}

-- the bytes of a reply with this data, as the controller writes them
abbrev pub reply_bytes : ℕ → List ℕ → List ℕ
reply_bytes command d = encode (reply_frame command (padded max_reply d))

pub record RepliesReadBack : Type 0 where
  pub fa : (channel flag : ℕ) (version : List ℕ) → fields_fa
      (data_at (reply_bytes 0xFA (reply_fa channel flag version))) ≡ record { channel = channel; flag = flag; len2 = max_packet }
  pub fb : (channel state stored crc : ℕ) → stored < max32 → crc < max32
      → fields_fb (data_at (reply_bytes 0xFB (reply_fb channel state stored crc)))
      ≡ record { channel = channel; state = state; stored = stored; crc = crc }
  pub fc : (channel offset : ℕ) → offset < max32 → fields_fc
      (data_at (reply_bytes 0xFC (reply_fc channel offset))) ≡ record { channel = channel; offset = offset }
  pub fd : (channel state : ℕ) → fields_state (data_at (reply_bytes 0xFD (reply_state channel state)))
      ≡ record { channel = channel; state = state }
  pub fe : (channel state : ℕ) → fields_state (data_at (reply_bytes 0xFE (reply_state channel state)))
      ≡ record { channel = channel; state = state }
  -- they are the reply to that command
  pub fa-reply : (channel flag : ℕ) (version : List ℕ) → is_reply 0xFA (reply_bytes 0xFA (reply_fa channel flag version)) ≡ true
  pub fb-reply : (channel state stored crc : ℕ) → is_reply 0xFB (reply_bytes 0xFB (reply_fb channel state stored crc)) ≡ true
  pub fc-reply : (channel offset : ℕ) → is_reply 0xFC (reply_bytes 0xFC (reply_fc channel offset)) ≡ true
  pub fd-reply : (channel state : ℕ) → is_reply 0xFD (reply_bytes 0xFD (reply_state channel state)) ≡ true
  pub fe-reply : (channel state : ℕ) → is_reply 0xFE (reply_bytes 0xFE (reply_state channel state)) ≡ true
