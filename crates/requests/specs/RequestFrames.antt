-- 01, "The six commands": a request as the module's end builds it, field by field in the order of the table; the version byte is the
-- table's. Assumes nothing.
use Rattle.std.specs.Prelude.{List, [], ◌∷◌, ◌++◌, ℕ}
use Rattle.fronts.specs.Frame.{Frame}
use Rattle.sequences.specs.Numbers.{bytes16, bytes32}
use Rattle.requests.specs.declared.request.RequestFA.{RequestFA}
use Rattle.requests.specs.declared.request.RequestFB.{RequestFB}
use Rattle.requests.specs.declared.request.RequestFC.{RequestFC}
use Rattle.requests.specs.declared.request.RequestFD.{RequestFD}
use Rattle.commands.specs.Table.{place_in_table, row_at}

abbrev pub byte : ℕ → List ℕ
byte b = b ∷ []

-- FA: "channel, Len1(2)"
unfoldable pub data_fa : RequestFA → List ℕ
data_fa r = byte r.channel ++ bytes16 r.len1

-- FB: "channel, PID(8), version(3), MD5(16), length(4), CRC-32(4)"
abbrev pub named_fb : RequestFB → List ℕ
named_fb r = ((byte r.channel ++ r.pid) ++ r.version) ++ r.md5

unfoldable pub data_fb : RequestFB → List ℕ
data_fb r = (named_fb r ++ bytes32 r.length) ++ bytes32 r.crc

-- FC: "channel, offset(4)"
unfoldable pub data_fc : RequestFC → List ℕ
data_fc r = byte r.channel ++ bytes32 r.offset

-- FD: "channel, number(2), n(2), CRC-16(2), n bytes"; p is the packet's bytes
abbrev pub head_fd : RequestFD → List ℕ
head_fd r = ((byte r.channel ++ bytes16 r.number) ++ bytes16 r.size) ++ bytes16 r.crc

unfoldable pub data_fd : RequestFD → List ℕ → List ℕ
data_fd r p = head_fd r ++ p

-- FE: "channel"
unfoldable pub data_fe : ℕ → List ℕ
data_fe channel = byte channel

-- a command's request with this data
unfoldable pub request_frame : ℕ → List ℕ → Frame
request_frame command d = record { version = (row_at (place_in_table command)).version; command = command; payload = d }
