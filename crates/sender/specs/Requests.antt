-- docs/SENDER.md, "Next request": which request a record stands at, and the call that writes it. Assumes nothing.
use Rattle.std.specs.Prelude.{◌≡◌, Bool, false, cond, not, List, ℕ, ltb, eqb, length, take, drop, Option, MatchOption}
use Rattle.crc.specs.Crc.{checksum, crc16_modbus, crc32}
use Rattle.fronts.specs.Frame.{max_frame, Frame}
use Rattle.frames.specs.LiveReading.{no_frame}
use Rattle.frames.specs.Buffer.{written_size, written_room}
use Rattle.requests.specs.declared.request.RequestFA.{RequestFA}
use Rattle.requests.specs.declared.request.RequestFB.{RequestFB}
use Rattle.requests.specs.declared.request.RequestFC.{RequestFC}
use Rattle.requests.specs.declared.request.RequestFD.{RequestFD}
use Rattle.requests.specs.RequestFrames.{data_fa, data_fb, data_fc, data_fd, data_fe, request_frame}
use Rattle.sender.specs.declared.sender.Sender.{Sender}
use Rattle.sender.specs.declared.request.Requested.{Requested}
use Rattle.commands.specs.declared.outcome.Outcome.{Outcome}
use Rattle.commands.specs.Outcomes.{accepted, short_room, rules_broken, wrong_image, same_outcome}
use Rattle.sender.specs.Phases.{by_phase, is_final}
use Rattle.sender.specs.Senders.{next_size}
use Rattle.sender.specs.Rules.{breaks_rules}

-- ---- the requests

-- "00 FA: channel, size(2)"
abbrev pub asking_for : Sender → RequestFA
asking_for s = record { channel = s.offer.channel; len1 = s.offer.size }

-- "10 FB: channel, PID, version, MD5, length(4), CRC-32 of the lent image(4)"
abbrev pub telling_of : Sender → List ℕ → RequestFB
telling_of s image =
    let o = s.offer in
    record { channel = o.channel; pid = o.pid; version = o.version; md5 = o.md5; length = o.length; crc = checksum crc32 image }

-- "00 FC: channel, place(4)"
abbrev pub placing_at : Sender → RequestFC
placing_at s = record { channel = s.offer.channel; offset = s.position.place }

-- "10 FD: channel, number(2), n(2), CRC-16(2), the n image bytes from place on; n the smaller of the packet and length - place"
abbrev pub next_packet : Sender → List ℕ → List ℕ
next_packet s image = take (next_size s) (drop s.position.place image)

abbrev pub sending_of : Sender → List ℕ → RequestFD
sending_of s image =
    let n = s.position.number in
    record { channel = s.offer.channel; number = n; size = next_size s; crc = checksum crc16_modbus (next_packet s image) }

abbrev pub packet_frame : Sender → List ℕ → Frame
packet_frame s image = request_frame 0xFD (data_fd (sending_of s image) (next_packet s image))

-- "00 FE: channel"; in "done, given up" there is none
unfoldable pub request_of : Sender → List ℕ → Frame
request_of s image =
    by_phase s.position.phase
    (request_frame 0xFA (data_fa (asking_for s)))
    (request_frame 0xFB (data_fb (telling_of s image)))
    (request_frame 0xFC (data_fc (placing_at s)))
    (packet_frame s image)
    (request_frame 0xFE (data_fe s.offer.channel))
    no_frame
    no_frame

-- ---- the call

-- "9, 20", which every call checks; 0 where neither is given
unfoldable pub sender_refusal : Sender → ℕ → Outcome
sender_refusal s n = cond (breaks_rules s) rules_broken (cond (eqb n s.offer.length) accepted wrong_image)

-- the same as the checks hand it on: none where it is 0
abbrev pub RefusedWith : Outcome → Option Outcome → Type 0
RefusedWith refusal r = MatchOption r (refusal ≡ accepted) (λ outcome. (refusal ≡ outcome) × (same_outcome outcome accepted ≡ false))

-- 5: "room below 526 bytes, in every phase"
unfoldable pub request_outcome : Sender → List ℕ → List ℕ → Outcome
request_outcome s image room =
    let refusal = sender_refusal s (length image) in
    cond (same_outcome refusal accepted) (cond (ltb (length room) max_frame) short_room accepted) refusal

-- a request is written
abbrev pub writes : Sender → List ℕ → List ℕ → Bool
writes s image room = cond (same_outcome (request_outcome s image room) accepted) (not (is_final s.position.phase)) false

-- "The request stands at the front of the room; room past it stays."
unfoldable pub requested : Sender → List ℕ → List ℕ → Requested
requested s image room =
    record { outcome = request_outcome s image room; length = cond (writes s image room) (written_size (request_of s image) room) 0 }

unfoldable pub room_requested : Sender → List ℕ → List ℕ → List ℕ
room_requested s image room = cond (writes s image room) (written_room (request_of s image) room) room

-- the contract of the call: what it gives, and the room as it leaves it
abbrev pub RequestGiven : Sender → List ℕ → List ℕ → Requested → List ℕ → Type 0
RequestGiven s image room r after = (r ≡ requested s image room) × (after ≡ room_requested s image room)
