-- 01, "The six commands": the fields of what the module sends, in a frame's data d. Assumes nothing.
use Rattle.std.specs.Prelude.{cond, ◌||◌, List, [], ℕ, ◌-◌, ltb}
use Rattle.fronts.specs.Frame.{max_data}
use Rattle.sequences.specs.Fields.{byte_at, number16_at, number32_at, field_at}
use Rattle.requests.specs.declared.request.RequestFA.{RequestFA}
use Rattle.requests.specs.declared.request.RequestFB.{RequestFB}
use Rattle.requests.specs.declared.request.RequestFC.{RequestFC}
use Rattle.requests.specs.declared.request.RequestFD.{RequestFD}

-- every request but F9 begins with the channel
abbrev pub channel_of : List ℕ → ℕ
channel_of d = byte_at 0 d

-- FA: "channel, Len1(2)"
unfoldable pub request_fa : List ℕ → RequestFA
request_fa d = record { channel = channel_of d; len1 = number16_at 1 d }

-- FB: "channel, PID(8), version(3), MD5(16), length(4), CRC-32(4)"
unfoldable pub request_fb : List ℕ → RequestFB
request_fb d =
    record {
      channel = channel_of d;
      pid = field_at 1 8 d;
      version = field_at 9 3 d;
      md5 = field_at 12 16 d;
      length = number32_at 28 d;
      crc = number32_at 32 d;
    }

-- FC: "channel, offset(4)"
unfoldable pub request_fc : List ℕ → RequestFC
request_fc d = record { channel = channel_of d; offset = number32_at 1 d }

-- FD: "channel, number(2), n(2), CRC-16(2), n bytes"
unfoldable pub request_fd : List ℕ → RequestFD
request_fd d = record { channel = channel_of d; number = number16_at 1 d; size = number16_at 3 d; crc = number16_at 5 d }

-- FD's bytes where the frame has L data bytes
unfoldable pub packet_of : ℕ → List ℕ → List ℕ
packet_of L d = cond (ltb L 7 || ltb max_data L) [] (field_at 7 (L - 7) d)

-- where in the frame's data they begin; the empty part at its first byte
unfoldable pub packet_place : ℕ → ℕ
packet_place L = cond (ltb L 7 || ltb max_data L) 0 7
