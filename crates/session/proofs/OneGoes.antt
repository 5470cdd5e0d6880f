-- What a call answers to a lawful session with an area of the opened length, and the check in one go. Assumes nothing.
use mathlib.Core.Path.{◌≡◌, refl, sym, ap}
use mathlib.Core.Bool.{false, cond}
use mathlib.Core.List.{List}
use Prim.Native.Nat.{ℕ}
use borrow.Author.Tests.{eq-eqb}
use lib.ListN.{length}
use Rattle.frames.specs.declared.finished.FinishedFrame.{FinishedFrame}
use Rattle.transfer.specs.Transfers.{Effect}
use Rattle.ending.specs.FE.{ended_fe}
use Rattle.ending.specs.Portions.{right_crc}
use Rattle.session.specs.declared.session.Session.{Session}
use Rattle.session.specs.declared.answer.Answer.{Answer}
use Rattle.session.specs.Lawful.{unlawful}
use Rattle.session.specs.Answering.{stepped, reaction, answered}
use Rattle.session.specs.OneGo.{in_one_go, LawfulAsJudged}

pub as_judged : LawfulAsJudged
unfolding reaction
as_judged s f area ok size = rw (ok, eq-eqb (length area) s.opened size) refl

pub called_in_one_go : (s : Session) (f : FinishedFrame) (area : List ℕ) → unlawful s ≡ false → length area ≡ s.opened
    → let a = answered s f area in
    in_one_go s f area ≡ cond a.session.transfer.check.running
    (stepped a.session (ended_fe a.session.transfer (right_crc a.session.transfer area))) a
unfolding in_one_go
called_in_one_go s f area ok size =
    ap (λ (x : Effect Answer). let a = x.gives in cond a.session.transfer.check.running
    (stepped a.session (ended_fe a.session.transfer (right_crc a.session.transfer area))) a)
    (sym (as_judged s f area ok size))
