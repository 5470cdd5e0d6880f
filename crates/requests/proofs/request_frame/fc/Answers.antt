-- `requests::request_frame::fc` meets its contract. Assumes nothing.
use mathlib.Core.Path.{refl, ◌∙◌}
use mathlib.Core.List.{[]}
use native.Mathlib.Omega.{arith}
use Rattle.sequences.specs.Numbers.{bytes32}
use Rattle.requests.specs.RequestFrames.{byte, data_fc}
use Rattle.requests.proofs.RequestFrames.{with_field}
use Rattle.requests.proofs.request_frame.fc.Goals as goal

pub returns : goal.returns
unfolding data_fc
returns c =
    let r = c.args.r in
    let begun = c.with.ensures ∙ with_field 0xFC [] (byte r.channel)
    c.empty.ensures refl (omega arith) in
    c.with-2.ensures ∙ with_field 0xFC (byte r.channel) (bytes32 r.offset) begun
    c.bytes32.ensures (omega arith)
