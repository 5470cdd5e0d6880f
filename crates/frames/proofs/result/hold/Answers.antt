-- `frames::result::hold` meets its contract. Assumes nothing.
use mathlib.Core.Path.{◌≡◌, sym, ap₂, ◌∙◌}
use mathlib.Core.List.{List, [], ◌++◌}
use Prim.Native.Nat.{ℕ, ◌-◌}
use native.Mathlib.Omega.{arith}
use lib.ListN.{length, length-append}
use lib.Seq.{slice, length-slice}
use Rattle.fronts.specs.Frame.{max_frame}
use Rattle.sequences.proofs.Padding.{padded-more}
use Rattle.frames.proofs.result.hold.Goals as goal

pub returns : goal.returns
returns c =
    let o = c.args in
    let all = o.a.now ++ o.b.now in
    let s = slice o.from o.to all in
    let size : length s ≡ o.to - o.from = length-slice o.from o.to all (omega (arith, length-append o.a.now o.b.now)) in
    let held = c.copy.ensures ∙ padded-more max_frame [] s (omega (arith, size)) in
    ap₂ {A = List ℕ} {B = ℕ} (λ h n. record { held = h; count = n }) held (sym size)
