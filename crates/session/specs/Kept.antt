-- What every answer keeps: a lawful session stays lawful, with the list and the length that it was opened with, and the area keeps its
-- length. Assumes nothing.
use Rattle.std.specs.Prelude.{◌≡◌, false, List, ℕ, length}
use Rattle.frames.specs.declared.finished.FinishedFrame.{FinishedFrame}
use Rattle.session.specs.declared.session.Session.{Session}
use Rattle.session.specs.declared.answer.Answer.{Answer}
use Rattle.session.specs.Lawful.{unlawful}
use Rattle.session.specs.Answering.{answered, area_after}

pub record StaysOpened (s : Session) (a : Answer) : Type 0 where
  pub lawful : unlawful a.session ≡ false
  pub same-list : a.session.boards ≡ s.boards
  pub same_count : a.session.count ≡ s.count
  pub same-opened : a.session.opened ≡ s.opened

-- The claim.
pub record AnswersKeep : Type 0 where
  pub session : (s : Session) (f : FinishedFrame) (area : List ℕ) → unlawful s ≡ false → StaysOpened s (answered s f area)
  pub area-size : (s : Session) (f : FinishedFrame) (area : List ℕ) → length (area_after s f area) ≡ length area
