-- 01, "How the session answers": "FA, any phase. Flag 1 if the board has no permit or Len1 is below 16; nothing changes. Else flag 0,
-- phase asked, session's channel this one, agreed size the smaller of Len1 and 512. Either reply carries the board's soft version and
-- Len2 = 512." Assumes nothing.
use Rattle.std.specs.Prelude.{Bool, cond, not, ◌||◌, ℕ, ltb}
use Rattle.requests.specs.declared.request.RequestFA.{RequestFA}
use Rattle.commands.specs.Limits.{min_packet, max_packet}
use Rattle.commands.specs.States.{granted, denied_fa}
use Rattle.replies.specs.Replies.{reply_fa}
use Rattle.transfer.specs.declared.phase.Phase.TheVariants.{Asked}
use Rattle.boards.specs.declared.board.Board.{Board}
use Rattle.transfer.specs.declared.state.Transfer.{Transfer}
use Rattle.transfer.specs.declared.state.Step.{Step}
use Rattle.transfer.specs.Transfers.{with_leg, replied}

abbrev pub refused_fa : Board → RequestFA → Bool
refused_fa b r = not b.permit || ltb r.len1 min_packet

-- the smaller of Len1 and 512
abbrev pub agreed_size : ℕ → ℕ
agreed_size len1 = cond (ltb len1 max_packet) len1 max_packet

-- "phase asked, session's channel this one, agreed size .."
abbrev pub asked : Transfer → RequestFA → Transfer
asked t r = with_leg t (record { phase = Asked; channel = r.channel; agreed = agreed_size r.len1; next = t.leg.next })

unfoldable pub answer_fa : Transfer → Board → RequestFA → Step
answer_fa t b r =
    cond (refused_fa b r)
    (replied t (reply_fa r.channel denied_fa b.soft))
    (replied (asked t r) (reply_fa r.channel granted b.soft))
