-- `ends::request` meets its contract. Assumes nothing.
use mathlib.Core.Path.{ap, ap₂}
use Rattle.link.specs.declared.frame.Way.TheVariants.{ToController}
use mathlib.Core.List.{List}
use Prim.Native.Nat.{ℕ}
use Rattle.sender.specs.declared.request.Requested.{Requested}
use Rattle.link.specs.declared.frame.Frame.{Frame}
use Rattle.ends.proofs.request.Goals as goal

pub returns : goal.returns
returns c =
    let e = c.request-length.ensures in
    let made : List ℕ → ℕ → Frame = λ b n. record { way = ToController; bytes = b; length = n } in
    ap₂ made e.1 (ap (λ (r : Requested). r.length) e.0)
