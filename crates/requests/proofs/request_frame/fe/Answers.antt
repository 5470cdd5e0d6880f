-- `requests::request_frame::fe` meets its contract. Assumes nothing.
use mathlib.Core.Path.{refl, ◌∙◌}
use mathlib.Core.List.{[]}
use native.Mathlib.Omega.{arith}
use Rattle.requests.specs.RequestFrames.{byte, data_fe}
use Rattle.requests.proofs.RequestFrames.{with_field}
use Rattle.requests.proofs.request_frame.fe.Goals as goal

pub returns : goal.returns
unfolding data_fe
returns c =
    c.with.ensures ∙ with_field 0xFE [] (byte c.args.channel) c.empty.ensures refl
    (omega arith)
