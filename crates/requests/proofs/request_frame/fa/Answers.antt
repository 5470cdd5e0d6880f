-- `requests::request_frame::fa` meets its contract. Assumes nothing.
use mathlib.Core.Path.{refl, ◌∙◌}
use mathlib.Core.List.{[]}
use native.Mathlib.Omega.{arith}
use Rattle.sequences.specs.Numbers.{bytes16}
use Rattle.requests.specs.RequestFrames.{byte, data_fa}
use Rattle.requests.proofs.RequestFrames.{with_field}
use Rattle.requests.proofs.request_frame.fa.Goals as goal

pub returns : goal.returns
unfolding data_fa
returns c =
    let r = c.args.r in
    let begun = c.with.ensures ∙ with_field 0xFA [] (byte r.channel)
    c.empty.ensures refl (omega arith) in
    c.with-2.ensures ∙ with_field 0xFA (byte r.channel) (bytes16 r.len1) begun
    c.bytes16.ensures (omega arith)
