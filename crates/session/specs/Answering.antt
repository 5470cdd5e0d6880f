-- 01, "How the session answers": "First version byte, L and channel are checked (outcomes 2, 3, 4 below, in that order)." Document 02,
-- K5: "While a check runs, FA to FE get a new outcome 12 after 4, as 2." Then the transfer's answer to the command. Assumes nothing.
use Rattle.std.specs.Prelude.{cond, not, None, List, ℕ, ltb, eqb, length, get_or}
use Rattle.frames.specs.declared.finished.FinishedFrame.{FinishedFrame}
use Rattle.commands.specs.declared.table.Header.{Header}
use Rattle.commands.specs.declared.table.Header.TheVariants.{Unlisted, Wrong, Right}
use Rattle.commands.specs.Table.{header_of}
use Rattle.requests.specs.Requests.{channel_of, request_fa, request_fb, request_fc, request_fd, packet_of}
use Rattle.boards.specs.declared.board.Board.{Board}
use Rattle.transfer.specs.declared.state.Transfer.{Transfer}
use Rattle.transfer.specs.declared.state.Step.{Step}
use Rattle.transfer.specs.Transfers.{Effect, unwritten}
use Rattle.agreement.specs.FA.{answer_fa}
use Rattle.agreement.specs.FB.{answer_fb}
use Rattle.agreement.specs.FC.{answer_fc}
use Rattle.packets.specs.FD.{effect_fd}
use Rattle.ending.specs.FE.{answer_fe}
use Rattle.session.specs.declared.session.Session.{Session}
use Rattle.session.specs.declared.answer.Answer.{Answer}
use Rattle.commands.specs.declared.outcome.Outcome.{Outcome}
use Rattle.commands.specs.Outcomes.{accepted, unlisted_command, wrong_header, unlisted_channel, other_area, rules_broken, wrong_phase, check_runs}
use Rattle.boards.specs.Boards.{past_board, place_of}
use Rattle.session.specs.Transfers.{transfer_on, with_transfer}
use Rattle.session.specs.Lawful.{unlawful}

-- no reply, nothing changed
abbrev pub unchanged : Outcome → Session → Answer
unchanged outcome s = record { outcome = outcome; session = s; reply = None }

-- the transfer's answer; outcome 10 where there is none
abbrev pub stepped : Session → Step → Answer
stepped s x =
    record {
      outcome = cond x.answered accepted wrong_phase;
      session = with_transfer s x.transfer;
      reply = x.reply;
    }

-- the place in the list of the frame's channel
abbrev pub place_for : Session → FinishedFrame → ℕ
place_for s f = place_of s.boards s.count (channel_of f.bytes)

-- FA to FE; only FD writes into the area
unfoldable pub effect_of : Transfer → FinishedFrame → Board → List ℕ → Effect Step
effect_of t f b area =
    cond (eqb f.command 0xFA) (unwritten (answer_fa t b (request_fa f.bytes)) area)
    (cond (eqb f.command 0xFB) (unwritten (answer_fb t b (request_fb f.bytes) area) area)
    (cond (eqb f.command 0xFC) (unwritten (answer_fc t (request_fc f.bytes)) area)
    (cond (eqb f.command 0xFD) (effect_fd t (request_fd f.bytes) (packet_of f.length f.bytes) area)
    (unwritten (answer_fe t (channel_of f.bytes)) area))))

-- the transfer's part in what a frame does
abbrev pub within : Session → Effect Step → Effect Answer
within s x = record { gives = stepped s x.gives; area = x.area }

-- "F9: noted, no reply, nothing changes"; outcome 4 for a channel that is not in the list; "12 after 4"
unfoldable pub routed : Session → FinishedFrame → List ℕ → Effect Answer
routed s f area =
    cond (eqb f.command 0xF9) (unwritten (unchanged accepted s) area)
    (cond (ltb (place_for s f) s.count)
    (cond (transfer_on s (channel_of f.bytes)).check.running
    (unwritten (unchanged check_runs s) area)
    (within s (effect_of (transfer_on s (channel_of f.bytes)) f (get_or s.boards (place_for s f) past_board) area)))
    (unwritten (unchanged unlisted_channel s) area))

-- outcomes 2 and 3
abbrev pub by_header : {A : Type 0} → Header → A → A → A → A
by_header Unlisted unlisted wrong right = unlisted
by_header Wrong unlisted wrong right = wrong
by_header Right unlisted wrong right = right

abbrev pub header_of_frame : FinishedFrame → Header
header_of_frame f = header_of f.version f.command f.length

unfoldable pub judged : Session → FinishedFrame → List ℕ → Effect Answer
judged s f area =
    by_header (header_of_frame f) (unwritten (unchanged unlisted_command s) area) (unwritten (unchanged wrong_header s) area) (routed s f area)

-- what a finished frame does: "9, 6", then the frame
unfoldable pub reaction : Session → FinishedFrame → List ℕ → Effect Answer
reaction s f area =
    cond (unlawful s) (unwritten (unchanged rules_broken s) area)
    (cond (not (eqb (length area) s.opened)) (unwritten (unchanged other_area s) area) (judged s f area))

-- the answer to it, and the area after it
abbrev pub answered : Session → FinishedFrame → List ℕ → Answer
answered s f area = (reaction s f area).gives

abbrev pub area_after : Session → FinishedFrame → List ℕ → List ℕ
area_after s f area = (reaction s f area).area
