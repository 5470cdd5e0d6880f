-- docs/EXCHANGE.md, "The link": what a turn does, step by step in its words. The letters are the script's. Assumes nothing.
use Rattle.std.specs.Prelude.{cond, List, [], ℕ, eqb, length, take}
use Rattle.sequences.specs.Comparing.{begins_with}
use Rattle.commands.specs.Outcomes.{outcome_number}
use Rattle.bench.specs.Calls.{fresh_room, most_read}
use Rattle.session.specs.Transfers.{own_transfer}
use Rattle.controller.specs.declared.call.Called.{Called}
use Rattle.controller.specs.declared.portion.Portioned.{Portioned}
use Rattle.controller.specs.declared.record.Record.{Record}
use Rattle.controller.specs.Records.{is_checking}
use Rattle.controller.specs.Calls.{fed_call}
use Rattle.controller.specs.Portions.{portion_call}
use Rattle.sender.specs.declared.decision.Decision.{Decision}
use Rattle.sender.specs.declared.decision.Decision.TheVariants.{Nothing, GoOn, SendAgain, NewLeg, Done, GivenUp}
use Rattle.sender.specs.declared.decision.Decided.{Decided}
use Rattle.sender.specs.Replies.{after_reply}
use Rattle.sender.specs.Silences.{after_silence}
use Rattle.link.specs.declared.frame.Frame.{Frame}
use Rattle.link.specs.declared.frame.Way.{Way}
use Rattle.link.specs.declared.frame.Way.TheVariants.{ToController, ToSender}
use Rattle.link.specs.declared.link.Link.{Link}
use Rattle.link.specs.declared.script.Script.{Script}
use Rattle.link.specs.Links.{frame_under_way, passed}
use Rattle.link.specs.Scripts.{is_silence, letter_of, used_up}
use Rattle.ends.specs.Ends.{frame_bytes, request_sent, reply_sent}
use Rattle.transcript.specs.Words.{dropped}
use Rattle.transcript.specs.Lines.{at_controller_texts, at_sender_texts, silence_texts, stored_texts}
use Rattle.carrier.specs.Sending.{Carried, told, sending}
use Rattle.carrier.specs.Clearing.{cleared}
use Rattle.dialogue.specs.Dialogues.{Dialogue, Turn, carrying, staying, preceded, with_sender, with_controller, with_link}
use Rattle.dialogue.specs.Dialogues.{with_script, ending}

-- ---- what the sender does

-- "it asks for its request and sends it"
abbrev pub request_turn : Dialogue → List ℕ → List ℕ → Turn
request_turn x image letters = carrying x (sending x.link x.script x.memory (request_sent x.sender image) letters)

-- a frame is sent after something else was carried
abbrev pub then_sent : Carried → Frame → List ℕ → Carried
then_sent k f letters = told k.texts (sending k.link k.script k.memory f letters)

-- "all frames under way are dropped, then it asks for its request (FA) and sends it"
abbrev pub new_leg : Dialogue → List ℕ → List ℕ → Turn
new_leg x image letters = carrying x (then_sent (cleared x.link x.script x.memory dropped) (request_sent x.sender image) letters)

-- "What the sender then does, by its decision": none: "nothing"; go on, send again: "it asks for its request and sends it"; new
-- leg: "all frames under way are dropped, then it asks for its request (FA) and sends it"; done, given up: "the turns end"
abbrev pub by_decision : Decision → Dialogue → List ℕ → List ℕ → Turn
by_decision Nothing x image letters = staying x
by_decision GoOn x image letters = request_turn x image letters
by_decision SendAgain x image letters = request_turn x image letters
by_decision NewLeg x image letters = new_leg x image letters
by_decision Done x image letters = staying (ending x)
by_decision GivenUp x image letters = staying (ending x)

-- with the sender that its call gave
unfoldable pub after_decision : Decided → Dialogue → List ℕ → List ℕ → Turn
after_decision d x image letters = by_decision d.decision (with_sender x d.next) image letters

-- "Told silence: the silence call"
abbrev pub silence_told : Dialogue → List ℕ → List ℕ → Turn
silence_told x image letters =
    let d = after_silence x.sender (length image) in
    preceded (silence_texts (outcome_number d.outcome) d.decision) (after_decision d x image letters)

-- "Arriving at the sender: the reply call"
abbrev pub at_sender : Dialogue → Frame → List ℕ → List ℕ → Turn
at_sender x f image letters =
    let d = after_reply x.sender image (frame_bytes f) in
    preceded (at_sender_texts f (outcome_number d.outcome) d.decision) (after_decision d x image letters)

-- ---- what the controller does

-- "if there is a reply it is sent"
unfoldable pub answering : Link → Script → List ℕ → List ℕ → ℕ → List ℕ → Carried
answering l s memory room n letters =
    cond (eqb n 0) (record { link = l; script = s; memory = memory; texts = [] }) (sending l s memory (reply_sent room n) letters)

-- "the controller's stored length"
abbrev pub stored_length : Record → ℕ
stored_length r = (own_transfer r.session).progress.stored

-- "After a frame that arrived at the controller and changed the stored length, or whose end check did": its line
unfoldable pub stored_change : Record → Record → List ℕ → List ℕ → List (List ℕ)
stored_change before now image area =
    let n = stored_length now in
    cond (eqb n (stored_length before)) [] (stored_texts n (length image) (begins_with image (take n area)))

-- what a call on the controller leaves: its record and area, the `stored` line, then the reply in its room
abbrev pub after_call : Dialogue → Record → List ℕ → List ℕ → ℕ → List ℕ → List ℕ → Turn
after_call x next area room n image letters =
    preceded (stored_change x.controller next image area)
    (carrying (with_controller x next area) (answering x.link x.script x.memory room n letters))

-- "The line of an arrival comes first, then the `stored` line, then whatever the sending that follows from it prints"
abbrev pub after_fed : Dialogue → Frame → Called → List ℕ → List ℕ → List ℕ → List ℕ → Turn
after_fed x f c room area image letters =
    preceded (at_controller_texts f (outcome_number c.outcome)) (after_call x c.next area room c.reply_length image letters)

-- "Arriving at the controller: the frame's bytes are fed in one call ..; if there is a reply it is sent."
abbrev pub at_controller : Dialogue → Frame → List ℕ → List ℕ → Turn
at_controller x f image letters =
    let k = fed_call (frame_bytes f) x.controller fresh_room x.area in
    after_fed x f k.called k.room k.area image letters

-- "it has no line of its own"; "The reply to an FE that starts the end check is sent with the verdict."
abbrev pub after_portioned : Dialogue → Portioned → List ℕ → List ℕ → List ℕ → Turn
after_portioned x p room image letters = after_call x p.next x.area room p.reply_length image letters

-- "the turn is a portion of it, of at most 8,192 bytes"
abbrev pub check_portion : Dialogue → List ℕ → List ℕ → Turn
check_portion x image letters =
    let k = portion_call most_read x.controller fresh_room x.area in
    after_portioned x k.called k.room image letters

-- ---- the turn

abbrev pub by_way : Way → Dialogue → Frame → List ℕ → List ℕ → Turn
by_way ToController x f image letters = at_controller x f image letters
by_way ToSender x f image letters = at_sender x f image letters

-- "the oldest frame under way arrives at its end"
unfoldable pub arrived : Dialogue → List ℕ → List ℕ → Turn
arrived x image letters =
    let f = frame_under_way x.link x.memory 0 in
    by_way f.way (with_link x (passed x.link)) f image letters

-- the four steps: "If the controller's end check runs ..", "Otherwise, if the script's next letter is `s`, it is used up and silence is
-- told to the sender", "Otherwise, if nothing is under way, silence is told to the sender", "Otherwise the oldest frame .."
unfoldable pub turn_of : Dialogue → List ℕ → List ℕ → Turn
turn_of x image letters =
    cond (is_checking x.controller) (check_portion x image letters)
    (cond (is_silence (letter_of x.script letters)) (silence_told (with_script x (used_up x.script)) image letters)
    (cond (eqb x.link.count 0) (silence_told x image letters) (arrived x image letters)))
