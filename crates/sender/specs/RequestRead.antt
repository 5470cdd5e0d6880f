-- docs/SENDER.md, "Next request": "The controller's reader, holding nothing and fed these bytes, takes all of them, drops none, and has
-- that version, command and data." And the fields that the controller then reads are the sender's. Assumes nothing.
use Rattle.std.specs.Prelude.{◌≡◌, false, List, ◌++◌, ℕ, ◌≤◌, ◌<◌, length, take, drop}
use Rattle.frames.specs.declared.reader.Reader.{Reader}
use Rattle.frames.specs.declared.finished.FinishedFrame.{FinishedFrame}
use Rattle.sequences.specs.Bytes.{Bytes}
use Rattle.fronts.specs.Frame.{max_frame, encode}
use Rattle.frames.specs.Finished.{finished}
use Rattle.frames.specs.LiveReading.{fed, fed_alone}
use Rattle.commands.specs.declared.table.Header.TheVariants.{Right}
use Rattle.requests.specs.Requests.{channel_of, request_fa, request_fb, request_fc, request_fd, packet_of}
use Rattle.sequences.specs.Numbers.{max16}
use Rattle.requests.specs.RoundTrips.{header_in}
use Rattle.sender.specs.declared.phase.Phase.{Phase}
use Rattle.sender.specs.declared.phase.Phase.TheVariants.{Asking, Telling, Placing, Sending, Ending, Done, GivenUp}
use Rattle.sender.specs.declared.sender.Offer.{Offer}
use Rattle.sender.specs.declared.sender.Sender.{Sender}
use Rattle.sender.specs.Phases.{is_final}
use Rattle.sender.specs.Rules.{breaks_rules}
use Rattle.sender.specs.Requests.{asking_for, telling_of, placing_at, next_packet, sending_of, request_of, requested, room_requested}

-- what the types of the fields say of them
pub record Typed (o : Offer) : Type 0 where
  pub pid : length o.pid ≡ 8
  pub version : length o.version ≡ 3
  pub md5 : length o.md5 ≡ 16
  pub size : o.size < max16

-- in each phase: the command of the finished frame f, and its fields as the controller reads them
abbrev pub FieldsIn : Phase → Sender → List ℕ → FinishedFrame → Type 0
FieldsIn Asking s image f = (f.command ≡ 0xFA) × (request_fa f.bytes ≡ asking_for s)
FieldsIn Telling s image f = (f.command ≡ 0xFB) × (request_fb f.bytes ≡ telling_of s image)
FieldsIn Placing s image f = (f.command ≡ 0xFC) × (request_fc f.bytes ≡ placing_at s)
FieldsIn Sending s image f =
    (f.command ≡ 0xFD) × ((request_fd f.bytes ≡ sending_of s image) × (packet_of f.length f.bytes ≡ next_packet s image))
FieldsIn Ending s image f = (f.command ≡ 0xFE) × (channel_of f.bytes ≡ s.offer.channel)
FieldsIn Done s image f = ⊥
FieldsIn GivenUp s image f = ⊥

-- what holds of a request that is written
pub record RequestRead (s : Sender) (image room : List ℕ) : Type 0 where
  -- it stands at the front of the room, and room past it stays
  pub stands : room_requested s image room ≡ encode (request_of s image) ++ drop (requested s image room).length room
  pub counts : (requested s image room).length ≡ length (encode (request_of s image))
  -- the controller's reader takes all of it, drops none and has it
  pub read : (r : Reader) → r.count ≡ 0
      → fed r (take (requested s image room).length (room_requested s image room)) ≡ fed_alone (request_of s image)
  -- the table takes its version byte and L, and its fields are the sender's
  pub header : header_in (finished (request_of s image)) ≡ Right
  pub fields : FieldsIn s.position.phase s image (finished (request_of s image))

abbrev pub RequestsRead : Type 0
RequestsRead =
    (s : Sender) (image room : List ℕ) → breaks_rules s ≡ false → Typed s.offer → Bytes image → length image ≡ s.offer.length
    → max_frame ≤ length room → is_final s.position.phase ≡ false → RequestRead s image room
