-- `requests::request_frame::fd` meets its contract. Assumes nothing.
use mathlib.Core.Path.{refl, ◌∙◌}
use mathlib.Core.List.{[], ◌++◌}
use native.Mathlib.Omega.{arith}
use lib.ListN.{take, length-take}
use Rattle.commands.specs.Limits.{max_packet}
use Rattle.sequences.specs.Numbers.{bytes16}
use Rattle.requests.specs.RequestFrames.{byte, head_fd, data_fd}
use Rattle.requests.proofs.RequestFrames.{with_field}
use Rattle.requests.proofs.request_frame.fd.Goals as goal

pub returns : goal.returns
unfolding data_fd
returns c =
    let r = c.args.r in
    let p = c.args.packet.now in
    let d1 = byte r.channel in
    let d2 = d1 ++ bytes16 r.number in
    let d3 = d2 ++ bytes16 r.size in
    let f1 = c.with.ensures ∙ with_field 0xFD [] d1 c.empty.ensures refl (omega arith) in
    let f2 = c.with-2.ensures ∙ with_field 0xFD d1 (bytes16 r.number) f1 c.bytes16.ensures (omega arith) in
    let f3 = c.with-3.ensures ∙ with_field 0xFD d2 (bytes16 r.size) f2 c.bytes16-2.ensures (omega arith) in
    let f4 = c.with-4.ensures ∙ with_field 0xFD d3 (bytes16 r.crc) f3 c.bytes16-3.ensures (omega arith) in
    c.with-5.ensures ∙ with_field 0xFD (head_fd r) (take max_packet p) f4 c.front.ensures (omega (arith, length-take max_packet p))
