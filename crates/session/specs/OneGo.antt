-- Document 02, K5: "the check in one go". An FE that gets as far as the CRC is answered at once, by the CRC-32 of the area's first
-- announced bytes as they stand, and "the check's own fields" are zeroed. No call does so; demands 2 and 3 compare with it. Assumes
-- nothing.
use Rattle.std.specs.Prelude.{◌≡◌, false, cond, List, ℕ, length}
use Rattle.frames.specs.declared.finished.FinishedFrame.{FinishedFrame}
use Rattle.ending.specs.FE.{ended_fe}
use Rattle.ending.specs.Portions.{right_crc}
use Rattle.session.specs.declared.session.Session.{Session}
use Rattle.session.specs.declared.answer.Answer.{Answer}
use Rattle.session.specs.Transfers.{own_transfer}
use Rattle.session.specs.Lawful.{unlawful}
use Rattle.session.specs.Answering.{stepped, judged, reaction}

-- what "How the session answers" says of a frame, the check in one go; s is a session whose check does not run: if one runs after the
-- frame, the frame was that FE
unfoldable pub in_one_go : Session → FinishedFrame → List ℕ → Answer
in_one_go s f area =
    let a = (judged s f area).gives in
    let t = own_transfer a.session in
    cond t.check.running (stepped a.session (ended_fe t (right_crc t area))) a

-- The claim: to a lawful session with an area of the opened length it makes no difference that a call first asks 9 and 6.
abbrev pub LawfulAsJudged : Type 0
LawfulAsJudged =
    (s : Session) (f : FinishedFrame) (area : List ℕ) → unlawful s ≡ false → length area ≡ s.opened → reaction s f area ≡ judged s f area
