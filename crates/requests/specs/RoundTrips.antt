-- The claim: reading a request that was built gives its fields back. The fields are those that fit: numbers below 65,536 or
-- 4,294,967,296 by their size, a PID of eight bytes, a version of three, an MD5 of sixteen. Assumes nothing.
use Rattle.std.specs.Prelude.{◌≡◌, List, ℕ, ◌≤◌, ◌<◌, length}
use Rattle.frames.specs.declared.finished.FinishedFrame.{FinishedFrame}
use Rattle.sequences.specs.Numbers.{max16, max32}
use Rattle.frames.specs.Finished.{finished}
use Rattle.commands.specs.declared.table.Header.{Header}
use Rattle.commands.specs.declared.table.Header.TheVariants.{Right}
use Rattle.requests.specs.declared.request.RequestFA.{RequestFA}
use Rattle.requests.specs.declared.request.RequestFB.{RequestFB}
use Rattle.requests.specs.declared.request.RequestFC.{RequestFC}
use Rattle.requests.specs.declared.request.RequestFD.{RequestFD}
use Rattle.commands.specs.Limits.{max_packet}
use Rattle.commands.specs.Table.{header_of}
use Rattle.requests.specs.Requests.{channel_of, request_fa, request_fb, request_fc, request_fd, packet_of}
use Rattle.requests.specs.RequestFrames.{data_fa, data_fb, data_fc, data_fd, data_fe, request_frame}

pub record FitsFB (r : RequestFB) : Type 0 where
  pub pid : length r.pid ≡ 8
  pub version : length r.version ≡ 3
  pub md5 : length r.md5 ≡ 16
  pub size : r.length < max32
  pub crc : r.crc < max32

pub record FitsFD (r : RequestFD) : Type 0 where
  pub number : r.number < max16
  pub size : r.size < max16
  pub crc : r.crc < max16

-- the frame of a request as the controller's reader hands it on
abbrev pub sent : ℕ → List ℕ → FinishedFrame
sent command d = finished (request_frame command d)

abbrev pub header_in : FinishedFrame → Header
header_in f = header_of f.version f.command f.length

pub record RequestsReadBack : Type 0 where
  pub fa : (r : RequestFA) → r.len1 < max16 → request_fa (sent 0xFA (data_fa r)).bytes ≡ r
  pub fb : (r : RequestFB) → FitsFB r → request_fb (sent 0xFB (data_fb r)).bytes ≡ r
  pub fc : (r : RequestFC) → r.offset < max32 → request_fc (sent 0xFC (data_fc r)).bytes ≡ r
  pub fd : (r : RequestFD) (p : List ℕ) → FitsFD r → request_fd (sent 0xFD (data_fd r p)).bytes ≡ r
  pub packet : (r : RequestFD) (p : List ℕ) → length p ≤ max_packet
      → packet_of (sent 0xFD (data_fd r p)).length (sent 0xFD (data_fd r p)).bytes ≡ p
  pub fe : (channel : ℕ) → channel_of (sent 0xFE (data_fe channel)).bytes ≡ channel
  -- version byte and L are the table's
  pub fa-header : (r : RequestFA) → header_in (sent 0xFA (data_fa r)) ≡ Right
  pub fb-header : (r : RequestFB) → FitsFB r → header_in (sent 0xFB (data_fb r)) ≡ Right
  pub fc-header : (r : RequestFC) → header_in (sent 0xFC (data_fc r)) ≡ Right
  pub fd-header : (r : RequestFD) (p : List ℕ) → length p ≤ max_packet → header_in (sent 0xFD (data_fd r p)) ≡ Right
  pub fe-header : (channel : ℕ) → header_in (sent 0xFE (data_fe channel)) ≡ Right
