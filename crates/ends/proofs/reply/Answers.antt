-- `ends::reply` meets its contract. Assumes nothing.
use mathlib.Core.Path.{◌≡◌, ap, ◌∙◌}
use native.Mathlib.Omega.{arith}
use Rattle.link.specs.declared.frame.Way.TheVariants.{ToSender}
use mathlib.Core.List.{List, ◌++◌}
use Prim.Native.Nat.{ℕ}
use lib.ListN.{length, drop}
use lib.Seq.{take-length}
use Rattle.fronts.specs.Frame.{max_frame}
use Rattle.sequences.specs.Padding.{zeros}
use Rattle.link.specs.declared.frame.Frame.{Frame}
use Rattle.ends.proofs.reply.Goals as goal

pub returns : goal.returns
returns c =
    let a = c.args in
    let made : List ℕ → Frame = λ b. record { way = ToSender; bytes = b; length = a.length } in
    let all_copied : c.copy.result ≡ length a.room = omega (arith, c.copy.ensures.count) in
    ap made ((rw all_copied at c.copy.ensures.copied) ∙ ap (λ (s : List ℕ). s ++ drop (length a.room) (zeros max_frame)) (take-length a.room))
