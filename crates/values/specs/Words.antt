-- docs/CONSOLE.md: the words of the lines. Assumes nothing.
use Rattle.std.specs.Prelude.{List, ℕ}
use Rattle.image.specs.declared.check.Verdict.{Verdict}
use Rattle.image.specs.declared.check.Verdict.TheVariants.{Unfinished, Right, Wrong}
use Rattle.sender.specs.declared.decision.Decision.{Decision}
use Rattle.sender.specs.declared.decision.Decision.TheVariants.{Nothing, GoOn, SendAgain, NewLeg, Done, GivenUp}
use Rattle.sender.specs.declared.phase.Phase as sender-phase
use Rattle.sender.specs.declared.phase.Phase.TheVariants.{Asking, Telling, Placing, Sending, Ending}
use Rattle.text.specs.Ascii.{ascii}
use Rattle.transfer.specs.declared.phase.Phase.{Phase}
use Rattle.transfer.specs.declared.phase.Phase.TheVariants.{Idle, Asked, Told, Receiving}

-- "V is `unfinished`, `right` or `wrong`"
abbrev pub verdict_word : Verdict → List ℕ
verdict_word Unfinished = ascii "unfinished"
verdict_word Right = ascii "right"
verdict_word Wrong = ascii "wrong"

-- "D is `none`, `go-on`, `send-again`, `new-leg`, `done` or `given-up`"
abbrev pub decision_told : Decision → List ℕ
decision_told Nothing = ascii "none"
decision_told GoOn = ascii "go-on"
decision_told SendAgain = ascii "send-again"
decision_told NewLeg = ascii "new-leg"
decision_told Done = ascii "done"
decision_told GivenUp = ascii "given-up"

-- "idle, asked, told, receiving, done"
abbrev pub phase_name : Phase → List ℕ
phase_name Idle = ascii "idle"
phase_name Asked = ascii "asked"
phase_name Told = ascii "told"
phase_name Receiving = ascii "receiving"
phase_name Phase.Done = ascii "done"

-- "asking, telling, placing, sending, ending, done, given-up"
abbrev pub sender_phase_name : sender-phase.Phase → List ℕ
sender_phase_name Asking = ascii "asking"
sender_phase_name Telling = ascii "telling"
sender_phase_name Placing = ascii "placing"
sender_phase_name Sending = ascii "sending"
sender_phase_name Ending = ascii "ending"
sender_phase_name sender-phase.Phase.Done = ascii "done"
sender_phase_name sender-phase.Phase.GivenUp = ascii "given-up"
