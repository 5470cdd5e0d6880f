-- `sender::sender::Sender::sending` meets its contract. Assumes nothing.
use mathlib.Core.Path.{◌≡◌, ap, ap₂, ◌∙◌}
use mathlib.Core.List.{List}
use Prim.Native.Nat.{ℕ}
use lib.ListN.{take, drop}
use Rattle.crc.specs.Crc.{checksum, crc16_modbus}
use Rattle.frames.specs.declared.finished.FinishedFrame.{FinishedFrame}
use Rattle.frames.specs.Finished.{finished}
use Rattle.commands.specs.Limits.{max_packet}
use Rattle.requests.specs.RequestFrames.{data_fd, request_frame}
use Rattle.sender.specs.Requests.{next_packet, sending_of}
use Rattle.sender.proofs.Packets.{packet-whole}
use Rattle.sender.proofs.sender.Sender.sending.Goals as goal

pub returns : goal.returns
returns c =
    let a = c.args in
    let s = a.self in
    let image = a.image.now in
    let size = c.next_size-size in
    let part = c.part-packet in
    let crc = c.modbus in
    let made : ℕ → ℕ → List ℕ → FinishedFrame =
    λ n k q.
    finished (request_frame 0xFD (data_fd (record { channel = s.offer.channel; number = s.position.number; size = n; crc = k }) q)) in
    let packet : part.result.now ≡ next_packet s image =
    part.ensures ∙ ap (λ (n : ℕ). take n (drop s.position.place image)) size.ensures in
    c.fd.ensures
    ∙ ap (λ (q : List ℕ). made size.result crc.result (take max_packet q)) packet
    ∙ ap₂ (λ (n k : ℕ). made n k (take max_packet (next_packet s image))) size.ensures (crc.ensures ∙ ap (checksum crc16_modbus) packet)
    ∙ ap (λ (q : List ℕ). finished (request_frame 0xFD (data_fd (sending_of s image) q))) (packet-whole s image)
