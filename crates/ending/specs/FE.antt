-- 01, "How the session answers": "FE (demand 2's "open" is phase receiving, "just accepted" is done). Not receiving or done, or
-- another channel: 03, nothing changes. Stored is not announced: 01, nothing changes. CRC-32 of the area's first announced bytes
-- differs: 03, phase idle, stored 0, identity all zero (its channel too). Otherwise 00, phase done." Document 02, K5: "An FE that gets
-- as far as the CRC starts a check (outcome 0, no reply)"; its end "gives the verdict and FE's reply, makes FE's changes and zeroes the
-- check's own fields". Assumes nothing.
use Rattle.std.specs.Prelude.{Bool, cond, not, ◌||◌, ◌&&◌, ℕ, eqb}
use Rattle.image.specs.Checks.{no_check, started_check}
use Rattle.commands.specs.States.{granted, incomplete_fe, refused_fe}
use Rattle.replies.specs.Replies.{reply_state}
use Rattle.transfer.specs.declared.phase.Phase.TheVariants.{Idle, Done}
use Rattle.transfer.specs.declared.state.Transfer.{Transfer}
use Rattle.transfer.specs.declared.state.Step.{Step}
use Rattle.transfer.specs.Phases.{receiving_or_done}
use Rattle.transfer.specs.Identities.{no_identity}
use Rattle.transfer.specs.Transfers.{with_phase, replaced, with_check, other_channel, replied, noted}

-- it "gets as far as the CRC"
abbrev pub reaches_crc : Transfer → ℕ → Bool
reaches_crc t channel = receiving_or_done t.leg.phase && (not (other_channel t channel) && eqb t.progress.stored t.image.announced)

unfoldable pub answer_fe : Transfer → ℕ → Step
answer_fe t channel =
    cond (not (receiving_or_done t.leg.phase) || other_channel t channel)
    (replied t (reply_state channel refused_fe))
    (cond (not (eqb t.progress.stored t.image.announced))
    (replied t (reply_state channel incomplete_fe))
    (noted (with_check t started_check)))

-- the end of the check, by whether the CRC-32 is the announced one. The reply's channel is FE's: the session's.
unfoldable pub ended_fe : Transfer → Bool → Step
ended_fe t right =
    let unchecked = with_check t no_check in
    cond right
    (replied (with_phase unchecked Done) (reply_state t.leg.channel granted))
    (replied (replaced unchecked Idle no_identity) (reply_state t.leg.channel refused_fe))
