-- 01, "How the session answers": "FB, any phase but idle, on the session's channel; else outcome 10. In order: PID differs, 01;
-- version not above the board's soft one, 02; length 0 or above the area's, 03. These set phase idle, change nothing else, and reply
-- with stored and CRC zero. Otherwise 00, phase told; if the identity is the one already held, stored stays, else the identity is
-- replaced and stored becomes 0. The CRC-32 replied is that of the area's first stored bytes at that moment." Assumes nothing.
use Rattle.std.specs.Prelude.{Bool, cond, not, ◌||◌, ◌&&◌, List, ℕ, ltb, eqb, length}
use Rattle.crc.specs.Crc.{checksum, crc32}
use Rattle.image.specs.Progresses.{first_stored}
use Rattle.requests.specs.declared.request.RequestFB.{RequestFB}
use Rattle.commands.specs.States.{granted, other_pid_fb, old_version_fb, bad_length_fb}
use Rattle.replies.specs.Replies.{reply_fb}
use Rattle.transfer.specs.declared.phase.Phase.TheVariants.{Idle, Told}
use Rattle.boards.specs.declared.board.Board.{Board}
use Rattle.transfer.specs.declared.state.Transfer.{Transfer}
use Rattle.transfer.specs.declared.state.Step.{Step}
use Rattle.transfer.specs.Phases.{idle}
use Rattle.sequences.specs.Comparing.{same}
use Rattle.transfer.specs.declared.identity.Identity.{Identity}
use Rattle.agreement.specs.Versions.{newer}
use Rattle.transfer.specs.Transfers.{with_phase, replaced, other_channel, replied, unanswered}

-- the identity that FB tells; the PID is not part of it
abbrev pub identity_of : RequestFB → Identity
identity_of r = record { channel = r.channel; version = r.version; announced = r.length; md5 = r.md5; crc = r.crc }

-- "the identity is the one already held"; "an MD5 sixteen, compared as they stand"
unfoldable pub same_identity : Identity → Identity → Bool
same_identity i j =
    eqb i.channel j.channel
    && (eqb i.announced j.announced && (eqb i.crc j.crc && (same i.version j.version && same i.md5 j.md5)))

-- the state replied, n being the area's length
unfoldable pub state_fb : Board → RequestFB → ℕ → ℕ
state_fb b r n =
    cond (not (same r.pid b.pid)) other_pid_fb
    (cond (not (newer r.version b.soft)) old_version_fb
    (cond (eqb r.length 0 || ltb n r.length) bad_length_fb granted))

-- what a granted FB leaves
unfoldable pub after_fb : Transfer → RequestFB → Transfer
after_fb t r = cond (same_identity (identity_of r) t.image) (with_phase t Told) (replaced t Told (identity_of r))

unfoldable pub grant_fb : Transfer → RequestFB → List ℕ → Step
grant_fb t r area =
    let next = after_fb t r in
    replied next (reply_fb r.channel granted next.progress.stored (checksum crc32 (first_stored next.progress area)))

unfoldable pub answer_fb : Transfer → Board → RequestFB → List ℕ → Step
answer_fb t b r area =
    cond (idle t.leg.phase || other_channel t r.channel)
    (unanswered t)
    (cond (eqb (state_fb b r (length area)) granted)
    (grant_fb t r area)
    (replied (with_phase t Idle) (reply_fb r.channel (state_fb b r (length area)) 0 0)))
