-- 01, "The six commands": what the module's end reads in the controller's replies, d being a reply's data. Assumes nothing.
use Rattle.std.specs.Prelude.{Bool, ◌&&◌, List, ℕ, eqb, length}
use Rattle.frames.specs.Buffer.{data_at, alone_at, version_at, command_at}
use Rattle.replies.specs.declared.reply_fields.ReplyFA.{ReplyFA}
use Rattle.replies.specs.declared.reply_fields.ReplyFB.{ReplyFB}
use Rattle.replies.specs.declared.reply_fields.ReplyFC.{ReplyFC}
use Rattle.replies.specs.declared.reply_fields.ReplyState.{ReplyState}
use Rattle.commands.specs.Table.{place_in_table, row_at}
use Rattle.sequences.specs.Fields.{byte_at, number16_at, number32_at}

-- some bytes are one whole frame and nothing else, of this command, with the version byte and L of its reply
unfoldable pub is_reply : ℕ → List ℕ → Bool
is_reply command s =
    let r = row_at (place_in_table command) in
    alone_at s && (eqb (command_at s) command && (eqb (version_at s) r.reply_version && eqb (length (data_at s)) r.reply_length))

-- every reply begins with the channel
abbrev pub reply_channel : List ℕ → ℕ
reply_channel d = byte_at 0 d

-- FA: "channel, flag, version(3), Len2(2)"; the version is not read
unfoldable pub fields_fa : List ℕ → ReplyFA
fields_fa d = record { channel = byte_at 0 d; flag = byte_at 1 d; len2 = number16_at 5 d }

-- FB: "channel, state, stored(4), CRC-32 of stored(4), MD5 field"; the MD5 field is not read
unfoldable pub fields_fb : List ℕ → ReplyFB
fields_fb d = record { channel = byte_at 0 d; state = byte_at 1 d; stored = number32_at 2 d; crc = number32_at 6 d }

-- FC: "channel, offset(4)"
unfoldable pub fields_fc : List ℕ → ReplyFC
fields_fc d = record { channel = byte_at 0 d; offset = number32_at 1 d }

-- FD and FE: "channel, state"
unfoldable pub fields_state : List ℕ → ReplyState
fields_state d = record { channel = byte_at 0 d; state = byte_at 1 d }
