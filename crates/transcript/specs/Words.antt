-- The words of the lines. Assumes nothing.
use Rattle.std.specs.Prelude.{Bool, true, false, List, ℕ}
use Rattle.link.specs.declared.frame.Way.{Way}
use Rattle.link.specs.declared.frame.Way.TheVariants.{ToController, ToSender}
use Rattle.sender.specs.declared.decision.Decision.{Decision}
use Rattle.sender.specs.declared.decision.Decision.TheVariants.{Nothing, GoOn, SendAgain, NewLeg, Done, GivenUp}
use Rattle.text.specs.Ascii.{ascii}
use Rattle.transfer.specs.declared.phase.Phase.{Phase}
use Rattle.transfer.specs.declared.phase.Phase.TheVariants.{Idle, Asked, Told, Receiving}

-- "`->` is to the controller, `<-` to the sender"
abbrev pub arrow : Way → List ℕ
arrow ToController = ascii "-> "
arrow ToSender = ascii "<- "

-- "the script lost it (l), or all places were taken"; "it was under way when a new leg began"; "it was under way when the turns ended"
abbrev pub lost : List ℕ
lost = ascii "lost"

abbrev pub dropped : List ℕ
dropped = ascii "dropped"

abbrev pub left : List ℕ
left = ascii "left"

-- "DECISION is one of `none`, `go on`, `send again`, `new leg`, `done`, `given up`", and ends its line
abbrev pub decision_word : Decision → List ℕ
decision_word Nothing = ascii " none\n"
decision_word GoOn = ascii " go on\n"
decision_word SendAgain = ascii " send again\n"
decision_word NewLeg = ascii " new leg\n"
decision_word Done = ascii " done\n"
decision_word GivenUp = ascii " given up\n"

-- "PHASE: idle, asked, told, receiving, done"
abbrev pub phase_word : Phase → List ℕ
phase_word Idle = ascii "idle"
phase_word Asked = ascii "asked"
phase_word Told = ascii "told"
phase_word Receiving = ascii "receiving"
phase_word Phase.Done = ascii "done"

-- "NOT": "the area's first N bytes are not the image's first N"
abbrev pub as_in_image : Bool → List ℕ
as_in_image true = ascii ", as in the image\n"
as_in_image false = ascii ", NOT as in the image\n"

-- ---- at the end

abbrev pub sender_end : Bool → List ℕ
sender_end true = ascii "sender done\n"
sender_end false = ascii "sender given up\n"

-- "(its first M bytes)"
abbrev pub area_end : Bool → List ℕ
area_end true = ascii "area equals the image\n"
area_end false = ascii "area differs from the image\n"
