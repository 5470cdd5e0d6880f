-- 01, "How the session answers": "FC, phase told or receiving, session's channel; else outcome 10. If offset equals stored, the reply
-- is that offset. Otherwise stored becomes 0 and the reply is 0. Phase receiving, next number 0." Document 02, K2: the last packet's
-- length is "0 after FC". Assumes nothing.
use Rattle.std.specs.Prelude.{cond, not, ◌||◌, ℕ, eqb}
use Rattle.image.specs.Progresses.{progress_from}
use Rattle.requests.specs.declared.request.RequestFC.{RequestFC}
use Rattle.replies.specs.Replies.{reply_fc}
use Rattle.transfer.specs.declared.phase.Phase.TheVariants.{Receiving}
use Rattle.transfer.specs.declared.state.Transfer.{Transfer}
use Rattle.transfer.specs.declared.state.Step.{Step}
use Rattle.transfer.specs.Phases.{told_or_receiving}
use Rattle.transfer.specs.Transfers.{other_channel, replied, unanswered}

-- from which offset the leg starts: that of the request, if so much is stored
abbrev pub start_of : Transfer → RequestFC → ℕ
start_of t r = cond (eqb r.offset t.progress.stored) t.progress.stored 0

-- "Phase receiving, next number 0"
abbrev pub started_at : Transfer → ℕ → Transfer
started_at t start =
    record {
      leg = record { phase = Receiving; channel = t.leg.channel; agreed = t.leg.agreed; next = 0 };
      progress = progress_from start;
      image = t.image;
      check = t.check;
    }

unfoldable pub answer_fc : Transfer → RequestFC → Step
answer_fc t r =
    cond (not (told_or_receiving t.leg.phase) || other_channel t r.channel)
    (unanswered t)
    (replied (started_at t (start_of t r)) (reply_fc r.channel (start_of t r)))
