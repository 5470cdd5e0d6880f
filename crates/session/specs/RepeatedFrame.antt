-- Document 02, K2, "A lost reply must not cost the whole leg", at the session: a frame FD whose packet was taken is answered 00 when it
-- comes again and changes nothing, whatever came in between that left session and area as they are; a frame FD that differs in a field or
-- a byte, the next packet aside, is not answered 00. Which frames leave both as they are is a claim of its own. Assumes nothing.
use Rattle.std.specs.Prelude.{◌≡◌, true, false, Some, List, [], ◌∷◌, ℕ, ◌+◌, length, get_or}
use Rattle.frames.specs.declared.finished.FinishedFrame.{FinishedFrame}
use Rattle.sequences.specs.Padding.{padded}
use Rattle.requests.specs.declared.request.RequestFD.{RequestFD}
use Rattle.commands.specs.declared.table.Header.TheVariants.{Right}
use Rattle.requests.specs.Requests.{channel_of, request_fa, request_fd, packet_of}
use Rattle.commands.specs.Limits.{max_reply}
use Rattle.replies.specs.Replies.{reply_state}
use Rattle.packets.specs.FD.{state_fd, takes}
use Rattle.session.specs.declared.session.Session.{Session}
use Rattle.session.specs.declared.answer.Answer.{Answer}
use Rattle.commands.specs.Outcomes.{accepted}
use Rattle.commands.specs.States.{granted}
use Rattle.session.specs.Transfers.{transfer_on}
use Rattle.session.specs.Lawful.{unlawful}
use Rattle.session.specs.Answering.{place_for, header_of_frame, answered, area_after}
use Rattle.boards.specs.declared.board.Board.{Board}
use Rattle.boards.specs.Boards.{past_board}
use Rattle.agreement.specs.FA.{refused_fa}
use Rattle.ending.specs.FE.{reaches_crc}

-- the fields and the bytes of an FD
abbrev pub fields_of : FinishedFrame → RequestFD
fields_of f = request_fd f.bytes

abbrev pub packet_in : FinishedFrame → List ℕ
packet_in f = packet_of f.length f.bytes

-- what a frame comes to, and leaves
pub record SessionAndArea : Type 0 where
  pub session : Session
  pub area : List ℕ

abbrev pub answer_at : SessionAndArea → FinishedFrame → Answer
answer_at x f = answered x.session f x.area

abbrev pub then_frame : SessionAndArea → FinishedFrame → SessionAndArea
then_frame x f = record { session = (answer_at x f).session; area = area_after x.session f x.area }

abbrev pub then_frames : SessionAndArea → List FinishedFrame → SessionAndArea
then_frames x [] = x
then_frames x (f ∷ fs) = then_frames (then_frame x f) fs

-- the frame is an FD whose packet is taken here
pub record TakenHere (x : SessionAndArea) (f : FinishedFrame) : Type 0 where
  pub command : f.command ≡ 0xFD
  pub header : header_of_frame f ≡ Right
  pub taken : takes (transfer_on x.session (fields_of f).channel) (fields_of f) (packet_in f) x.area ≡ true

-- frames that leave session and area as they are, each of them
abbrev pub LeaveAlone : SessionAndArea → List FinishedFrame → Type 0
LeaveAlone x [] = Unit
LeaveAlone x (f ∷ fs) = (then_frame x f ≡ x) × LeaveAlone x fs

-- outcome 0, and a reply to an FD with this state
abbrev pub AnswersWith : Answer → RequestFD → ℕ → Type 0
AnswersWith a r state = (a.outcome ≡ accepted) × (a.reply ≡ Some (padded max_reply (reply_state r.channel state)))

-- what holds once frame f was taken at x and the frames fs came after it
pub record FrameRepeated (x : SessionAndArea) (f : FinishedFrame) (fs : List FinishedFrame) : Type 0 where
  pub unmoved : then_frames (then_frame x f) fs ≡ then_frame x f
  pub answered_00 : AnswersWith (answer_at (then_frames (then_frame x f) fs) f) (fields_of f) granted
  pub unchanged : then_frame (then_frames (then_frame x f) fs) f ≡ then_frame x f
  -- of the frames FD with another number than the next only f is answered 00, by fields and bytes
  pub itself_alone : (g : FinishedFrame) → g.command ≡ 0xFD → ((fields_of g).number ≡ (fields_of f).number + 1 → ⊥)
      → AnswersWith (answer_at (then_frames (then_frame x f) fs) g) (fields_of g) granted
      → (fields_of g ≡ fields_of f) × (packet_in g ≡ packet_in f)

abbrev pub RepeatedFrame : Type 0
RepeatedFrame =
    (x : SessionAndArea) (f : FinishedFrame) (fs : List FinishedFrame) → unlawful x.session ≡ false
    → length x.area ≡ x.session.opened
    → TakenHere x f → LeaveAlone (then_frame x f) fs → FrameRepeated x f fs

-- the board of the frame's channel
abbrev pub board_for : SessionAndArea → FinishedFrame → Board
board_for x f = get_or x.session.boards (place_for x.session f) past_board

-- Among such frames are those with an outcome that is not 0; F9; FA with flag 1; every FD but the next packet, itself included, and every
-- FD with another state than 00; FE with 03 at once or 01.
pub record LeavingAlone (x : SessionAndArea) (f : FinishedFrame) : Type 0 where
  pub outcome : ((answer_at x f).outcome ≡ accepted → ⊥) → then_frame x f ≡ x
  pub f9 : f.command ≡ 0xF9 → then_frame x f ≡ x
  pub fa : f.command ≡ 0xFA → refused_fa (board_for x f) (request_fa f.bytes) ≡ true → then_frame x f ≡ x
  pub fd : f.command ≡ 0xFD → ((fields_of f).number ≡ (transfer_on x.session (fields_of f).channel).leg.next → ⊥) → then_frame x f ≡ x
  pub fd-refused : f.command ≡ 0xFD
      → (state_fd (transfer_on x.session (fields_of f).channel) (fields_of f) (packet_in f) x.area ≡ granted → ⊥) → then_frame x f ≡ x
  pub fe : f.command ≡ 0xFE → reaches_crc (transfer_on x.session (channel_of f.bytes)) (channel_of f.bytes) ≡ false
      → then_frame x f ≡ x

abbrev pub FramesLeavingAlone : Type 0
FramesLeavingAlone = (x : SessionAndArea) (f : FinishedFrame) → LeavingAlone x f
