-- Every request that is written is read by the controller as that request. Assumes nothing.
use mathlib.Core.Path.{◌≡◌, refl, sym, ap, ap₂, subst, ◌∙◌}
use mathlib.Core.Bool.{false}
use mathlib.Core.List.{List, ◌++◌}
use Prim.Native.Nat.{ℕ, ◌*◌, ◌≤◌}
use native.Mathlib.Nat.{mul-le-mul_left}
use native.Mathlib.Omega.{arith}
use lib.ListN.{length, take, drop, length-take}
use Rattle.crc.proofs.Widths.{crc16_fits, crc32-fits}
use Rattle.sequences.specs.Bytes.{Bytes}
use Rattle.fronts.specs.Frame.{max_data, frame_size, Frame, encode}
use Rattle.frames.specs.Finished.{finished}
use Rattle.frames.specs.LiveReading.{no_frame, fed}
use Rattle.sequences.proofs.Bytes.{bytes_take, bytes_drop, bytes-at}
use Rattle.fronts.proofs.Sizes.{encode-size}
use Rattle.frames.proofs.Writes.{writable-fits}
use Rattle.frames.proofs.RoundTrips.{size-written, room-written}
use Rattle.frames.proofs.FedAlone.{fed-written}
use Rattle.commands.specs.declared.table.Header.TheVariants.{Right}
use Rattle.commands.specs.Limits.{min_packet, max_packet}
use Rattle.requests.specs.RequestFrames.{data_fa, data_fb, data_fc, data_fd, data_fe, request_frame}
use Rattle.requests.specs.RoundTrips.{FitsFB, FitsFD, sent, header_in}
use Rattle.requests.proofs.RoundTrips.{requests_read_back, request-payload, sent-command, size-fa, size-fb, size-fc, size-fd, size-fe}
use Rattle.sender.specs.declared.phase.Phase.{Phase}
use Rattle.sender.specs.declared.phase.Phase.TheVariants.{Asking, Telling, Placing, Sending, Ending, Done, GivenUp}
use Rattle.sender.specs.declared.sender.Sender.{Sender}
use Rattle.sender.specs.declared.request.Requested.{Requested}
use Rattle.sender.specs.Phases.{by_phase, is_final}
use Rattle.sender.specs.Senders.{packet_size, next_size}
use Rattle.sender.specs.Rules.{breaks_rules, NumberFits}
use Rattle.sender.specs.Requests.{asking_for, telling_of, placing_at, next_packet, sending_of, request_of, requested}
use Rattle.sender.specs.RequestRead.{Typed, FieldsIn, RequestsRead}
use Rattle.sender.proofs.RulesKept.{lawful}
use Rattle.sender.proofs.Packets.{packet-some, next-short}
use Rattle.sender.proofs.Refusals.{is-accepted}
use Rattle.sender.proofs.Requests.{request-written}

-- ---- numbers that fit their fields

-- "number × packet ≤ place < 1,048,576 ≤ 65,536 × packet"
pub number_fits : NumberFits
number_fits s ok is =
    let l = lawful s ok in
    let packet = packet-some s.offer.size l.least_size in
    let n = s.position.number in
    let least : n * min_packet ≤ n * packet_size s.offer.size = mul-le-mul_left n packet in
    omega (arith, l.numbered is, l.sending is, l.most-image)

module _ (s : Sender) (image : List ℕ) (ok : breaks_rules s ≡ false) (typed : Typed s.offer) (bytes : Bytes image) where
  fits-fb : FitsFB (telling_of s image)
  fits-fb =
      let l = lawful s ok in
      record {
        pid = typed.pid;
        version = typed.version;
        md5 = typed.md5;
        size = omega (arith, l.most-image);
        crc = crc32-fits image (λ i. bytes-at image i bytes);
      }

  fits-fd : s.position.phase ≡ Sending → FitsFD (sending_of s image)
  fits-fd is =
      let rest = drop s.position.place image in
      let packet : Bytes (next_packet s image) = bytes_take (next_size s) rest (bytes_drop s.position.place image bytes) in
      record {
        number = number_fits s ok is;
        size = omega (arith, next-short s);
        crc = crc16_fits (next_packet s image) (λ i. bytes-at (next_packet s image) i packet);
      }

  packet-short : length (next_packet s image) ≤ max_packet
  packet-short = omega (arith, next-short s, length-take (next_size s) (drop s.position.place image))

-- ---- the frame, phase by phase

-- what holds of a request
record Readable (p : Phase) (s : Sender) (image : List ℕ) (f : Frame) : Type 0 where
  pub small : length f.payload ≤ max_data
  pub header : header_in (finished f) ≡ Right
  pub fields : FieldsIn p s image (finished f)

-- of a request made of a command and data
made : (p : Phase) (s : Sender) (image : List ℕ) (command : ℕ) (d : List ℕ) → length d ≤ max_data → header_in (sent command d) ≡ Right
    → FieldsIn p s image (sent command d) → Readable p s image (request_frame command d)
made p s image command d small header fields =
    record { small = subst (λ (q : List ℕ). length q ≤ max_data) (sym (request-payload command d)) small; header = header; fields = fields }

module _ (s : Sender) (image : List ℕ) (ok : breaks_rules s ≡ false) (typed : Typed s.offer) (bytes : Bytes image) where
  -- the request of phase p
  readable : (p : Phase) → s.position.phase ≡ p → is_final p ≡ false → Readable p s image (by_phase p
      (request_frame 0xFA (data_fa (asking_for s)))
      (request_frame 0xFB (data_fb (telling_of s image)))
      (request_frame 0xFC (data_fc (placing_at s)))
      (request_frame 0xFD (data_fd (sending_of s image) (next_packet s image)))
      (request_frame 0xFE (data_fe s.offer.channel))
      no_frame
      no_frame)
  readable Asking is more =
      let q = asking_for s in
      made Asking s image 0xFA (data_fa q) (omega (arith, size-fa q)) (requests_read_back.fa-header q)
      (sent-command 0xFA (data_fa q), requests_read_back.fa q typed.size)
  readable Telling is more =
      let q = telling_of s image in
      let fits = fits-fb s image ok typed bytes in
      made Telling s image 0xFB (data_fb q) (omega (arith, size-fb q fits)) (requests_read_back.fb-header q fits)
      (sent-command 0xFB (data_fb q), requests_read_back.fb q fits)
  readable Placing is more =
      let q = placing_at s in
      let place = (lawful s ok).placing is in
      let most = (lawful s ok).most-image in
      made Placing s image 0xFC (data_fc q) (omega (arith, size-fc q)) (requests_read_back.fc-header q)
      (sent-command 0xFC (data_fc q), requests_read_back.fc q (omega arith))
  readable Sending is more =
      let q = sending_of s image in
      let p = next_packet s image in
      let short = packet-short s image ok typed bytes in
      made Sending s image 0xFD (data_fd q p) (omega (arith, size-fd q p)) (requests_read_back.fd-header q p short) (
        sent-command 0xFD (data_fd q p),
        (requests_read_back.fd q p (fits-fd s image ok typed bytes is), requests_read_back.packet q p short),
      )
  readable Ending is more =
      let q = s.offer.channel in
      made Ending s image 0xFE (data_fe q) (omega (arith, size-fe q)) (requests_read_back.fe-header q)
      (sent-command 0xFE (data_fe q), requests_read_back.fe q)
  readable Done is more = let z : ◌≡◌ {A = ℕ} 0 1 = cc in absurd (omega arith)
  readable GivenUp is more = let z : ◌≡◌ {A = ℕ} 0 1 = cc in absurd (omega arith)

  request-readable : is_final s.position.phase ≡ false → Readable s.position.phase s image (request_of s image)
  unfolding request_of
  request-readable more = readable s.position.phase refl more

pub requests-read : RequestsRead
requests-read s image room ok typed bytes size wide more =
    let f = request_of s image in
    let good = request-readable s image ok typed bytes more in
    let small = good.small in
    let writable-here = writable-fits f room small (omega arith) in
    let w = request-written s image room (is-accepted s (length image) ok size) wide more in
    let count : (requested s image room).length ≡ frame_size (length f.payload) =
    ap (λ (r : Requested). r.length) w.0 ∙ size-written f room writable-here in
    record {
      stands = w.1 ∙ room-written f room writable-here ∙ ap (λ (n : ℕ). encode f ++ drop n room) (sym count);
      counts = count ∙ sym (encode-size f);
      read = λ r none.
          ap₂ (λ (n : ℕ) (q : List ℕ). fed r (take n q)) (ap (λ (x : Requested). x.length) w.0) w.1
          ∙ fed-written f room writable-here r none;
      header = good.header;
      fields = good.fields;
    }
