-- Document 02, K3: "it produces the next request and decides": an exchange, request by request, and the requests that begin one, by their
-- fields. Assumes nothing.
use Rattle.std.specs.Prelude.{List, [], ◌∷◌, ℕ, zero, suc, length}
use Rattle.crc.specs.Crc.{checksum, crc32}
use Rattle.fronts.specs.Frame.{Frame}
use Rattle.requests.specs.RequestFrames.{data_fa, data_fb, request_frame}
use Rattle.sender.specs.declared.decision.Decision.{Decision}
use Rattle.sender.specs.declared.decision.Decided.{Decided}
use Rattle.sender.specs.declared.sender.Offer.{Offer}
use Rattle.sender.specs.declared.sender.Sender.{Sender}
use Rattle.sender.specs.Requests.{request_of}

-- what was requested and decided, in order, and the sender at the end
pub record Exchange : Type 0 where
  pub requests : List Frame
  pub decisions : List Decision
  pub sender : Sender

-- n requests; `heard` is what comes of the reply or the silence after each
unfoldable pub exchange : (Sender → Decided) → ℕ → Sender → List ℕ → Exchange
exchange heard zero s image = record { requests = []; decisions = []; sender = s }
exchange heard (suc n) s image =
    let d = heard s in
    let rest = exchange heard n d.next image in
    record { requests = request_of s image ∷ rest.requests; decisions = d.decision ∷ rest.decisions; sender = rest.sender }

-- "00 FA: channel, size(2)"
abbrev pub frame_fa : Offer → Frame
frame_fa o = request_frame 0xFA (data_fa (record { channel = o.channel; len1 = o.size }))

-- "10 FB: channel, PID, version, MD5, length(4), CRC-32 of the lent image(4)"
abbrev pub frame_fb : Offer → List ℕ → Frame
frame_fb o image =
    request_frame 0xFB
    (data_fb
    (record {
      channel = o.channel;
      pid = o.pid;
      version = o.version;
      md5 = o.md5;
      length = length image;
      crc = checksum crc32 image;
    }))
