-- `account::account::line_at` meets its contract. Assumes nothing.
use Rattle.std.proofs.Common.{ℕ, List, length, ap, subst, arith, length-take}
use Rattle.account.specs.Texts.{line_text, FrameText}
use Rattle.account.proofs.account.line_at.Goals as goal

pub frame-requires : goal.frame-requires
frame-requires c =
    let a = c.args in
    omega (arith, ap length c.front.ensures, length-take a.length a.room.now)

pub returns : goal.returns
returns c =
    let a = c.args in
    subst (λ (s : List ℕ). FrameText a.place a.command a.outcome s (line_text c.frame.result)) c.front.ensures
    c.frame.ensures
