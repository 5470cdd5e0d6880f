-- 01, "Outcome numbers", and document 02: which number is which. Assumes nothing.
use Rattle.std.specs.Prelude.{◌≡◌, ◌↔◌, Bool, true, eqb, ℕ}
use Rattle.commands.specs.declared.outcome.Outcome.{Outcome}
use Rattle.commands.specs.declared.outcome.Outcome.TheVariants.{Accepted, NoFrameYet, UnlistedCommand, WrongHeader, UnlistedChannel, ShortRoom, OtherArea, BadArea, BadList, RulesBroken, WrongPhase, ShortReportRoom, CheckRuns, NoCheckRuns, Unfinished, WrongImage, WrongReply}

-- "a frame answered, or F9 noted"
abbrev pub accepted : Outcome
accepted = Accepted

-- "no whole frame yet"
abbrev pub no_frame_yet : Outcome
no_frame_yet = NoFrameYet

-- "command not in the table"
abbrev pub unlisted_command : Outcome
unlisted_command = UnlistedCommand

-- "version byte or L wrong (FD: L below 7)"
abbrev pub wrong_header : Outcome
wrong_header = WrongHeader

-- "channel not in the list (F9 exempt)"
abbrev pub unlisted_channel : Outcome
unlisted_channel = UnlistedChannel

-- "reply room below 33 bytes"; docs/SENDER.md, of the sending end: "next request: room below 526 bytes"
abbrev pub short_room : Outcome
short_room = ShortRoom

-- "area's length is not the opened one"
abbrev pub other_area : Outcome
other_area = OtherArea

-- "opening: area's length not 1 to 1,048,576"
abbrev pub bad_area_length : Outcome
bad_area_length = BadArea

-- "opening: list breaks its rules"
abbrev pub bad_boards : Outcome
bad_boards = BadList

-- "record breaks its rules"
abbrev pub rules_broken : Outcome
rules_broken = RulesBroken

-- "FB or FC in a wrong phase or channel"
abbrev pub wrong_phase : Outcome
wrong_phase = WrongPhase

-- "outward F9: room below 8 + 7n"
abbrev pub short_report_room : Outcome
short_report_room = ShortReportRoom

-- 02, K5: "While a check runs, FA to FE get a new outcome 12 after 4"
abbrev pub check_runs : Outcome
check_runs = CheckRuns

-- 02, K5: "18 when no check runs"
abbrev pub no_check_runs : Outcome
no_check_runs = NoCheckRuns

-- 02, K5: "before that it is 19"
abbrev pub unfinished : Outcome
unfinished = Unfinished

-- 02, K3, as docs/SENDER.md has it for the sending end: "opening: size below 16, or the image empty or above 1,048,576. Calls: the
-- image's length is not the record's"
abbrev pub wrong_image : Outcome
wrong_image = WrongImage

-- likewise: "not exactly one whole frame; or phase done or given up; or a field that document 01 never gives there"
abbrev pub wrong_reply : Outcome
wrong_reply = WrongReply

-- the number of each
abbrev pub outcome_number : Outcome → ℕ
outcome_number Accepted = 0
outcome_number NoFrameYet = 1
outcome_number UnlistedCommand = 2
outcome_number WrongHeader = 3
outcome_number UnlistedChannel = 4
outcome_number ShortRoom = 5
outcome_number OtherArea = 6
outcome_number BadArea = 7
outcome_number BadList = 8
outcome_number RulesBroken = 9
outcome_number WrongPhase = 10
outcome_number ShortReportRoom = 11
outcome_number CheckRuns = 12
outcome_number NoCheckRuns = 18
outcome_number Unfinished = 19
outcome_number WrongImage = 20
outcome_number WrongReply = 21

-- outcomes are told apart by their numbers
abbrev pub same_outcome : Outcome → Outcome → Bool
same_outcome a b = eqb (outcome_number a) (outcome_number b)

-- The claim: no two outcomes have the same number.
abbrev pub OutcomesDiffer : Type 0
OutcomesDiffer = (a b : Outcome) → (same_outcome a b ≡ true) ↔ (a ≡ b)
