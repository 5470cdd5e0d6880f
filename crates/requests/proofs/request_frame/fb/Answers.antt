-- `requests::request_frame::fb` meets its contract. Assumes nothing.
use borrow.Author.Rules.{rules}
use mathlib.Core.Path.{◌≡◌, refl, ◌∙◌}
use mathlib.Core.List.{[], ◌++◌}
use native.Mathlib.Omega.{arith}
use lib.ListN.{length, length-append}
use Rattle.sequences.specs.Numbers.{bytes32}
use Rattle.requests.specs.RequestFrames.{byte, named_fb, data_fb}
use Rattle.requests.proofs.RequestFrames.{with_field}
use Rattle.requests.proofs.request_frame.fb.Goals as goal

pub returns : goal.returns
unfolding data_fb
returns c =
    let r = c.args.r in
    let good = c.well_formed in
    let pid : length r.pid ≡ 8 = search rules in
    let version : length r.version ≡ 3 = search rules in
    let md5 : length r.md5 ≡ 16 = search rules in
    let d1 = byte r.channel in
    let d2 = d1 ++ r.pid in
    let d3 = d2 ++ r.version in
    let d4 = named_fb r in
    let d5 = d4 ++ bytes32 r.length in
    let n2 = length-append d1 r.pid in
    let n3 = length-append d2 r.version in
    let n4 = length-append d3 r.md5 in
    let n5 = length-append d4 (bytes32 r.length) in
    let f1 = c.with.ensures ∙ with_field 0xFB [] d1 c.empty.ensures refl (omega arith) in
    let f2 = c.with-2.ensures ∙ with_field 0xFB d1 r.pid f1 refl (omega arith) in
    let f3 = c.with-3.ensures ∙ with_field 0xFB d2 r.version f2 refl (omega arith) in
    let f4 = c.with-4.ensures ∙ with_field 0xFB d3 r.md5 f3 refl (omega arith) in
    let f5 = c.with-5.ensures ∙ with_field 0xFB d4 (bytes32 r.length) f4 c.bytes32.ensures (omega arith) in
    c.with-6.ensures ∙ with_field 0xFB d5 (bytes32 r.crc) f5 c.bytes32-2.ensures (omega arith)
