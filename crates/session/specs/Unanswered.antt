-- 01, "Outcome numbers": with 2, 3, 4 and 10, and 12 (document 02, K5), "frame used up, no reply, session same"; with 6 and 9 "all
-- unchanged". Assumes nothing.
use Rattle.std.specs.Prelude.{◌≡◌, None, List, ℕ}
use Rattle.frames.specs.declared.finished.FinishedFrame.{FinishedFrame}
use Rattle.commands.specs.Outcomes.{accepted}
use Rattle.session.specs.declared.session.Session.{Session}
use Rattle.session.specs.declared.answer.Answer.{Answer}
use Rattle.session.specs.Answering.{answered, area_after}

-- of an answer and the area that it leaves
pub record NothingChanged (s : Session) (area : List ℕ) (a : Answer) (after : List ℕ) : Type 0 where
  pub session : a.session ≡ s
  pub no-reply : a.reply ≡ None
  pub same_area : after ≡ area

-- The claim: with any outcome but 0.
abbrev pub Unanswered : Type 0
Unanswered =
    (s : Session) (f : FinishedFrame) (area : List ℕ) → ((answered s f area).outcome ≡ accepted → ⊥)
    → NothingChanged s area (answered s f area) (area_after s f area)
