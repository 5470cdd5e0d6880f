-- docs/CONSOLE.md, "Output": the lines in parts, each given as the texts that are put for it, one behind the other. Assumes nothing.
use Rattle.std.specs.Prelude.{List, [], ◌∷◌, ◌++◌, ℕ, take}
use Rattle.commands.specs.Outcomes.{outcome_number}
use Rattle.controller.specs.declared.call.Called.{Called}
use Rattle.controller.specs.declared.portion.Portioned.{Portioned}
use Rattle.controller.specs.declared.record.Record.{Record}
use Rattle.sender.specs.declared.decision.Decided.{Decided}
use Rattle.sender.specs.declared.sender.Sender.{Sender}
use Rattle.text.specs.Ascii.{ascii}
use Rattle.text.specs.Decimals.{decimal}
use Rattle.text.specs.Hex.{hex_byte}
use Rattle.values.specs.Bytes.{bytes_texts}
use Rattle.values.specs.Spans.{span_texts}
use Rattle.values.specs.Words.{verdict_word, decision_told}
use Rattle.changes.specs.RecordChanges.{record_texts}
use Rattle.changes.specs.SenderChanges.{sender_texts}

-- "beginning with the number of its input line .. and a space"; the space stands before the name
abbrev pub begun_texts : ℕ → List ℕ → List (List ℕ)
begun_texts number name = decimal number ∷ name ∷ []

-- a field with a number; the name has a space before it and `=` behind it
abbrev pub count_texts : List ℕ → ℕ → List (List ℕ)
count_texts name n = name ∷ decimal n ∷ []

-- `OUTCOME taken=N dropped=N command=XX length=N`
abbrev pub reading_texts : Called → List (List ℕ)
reading_texts c =
    decimal (outcome_number c.outcome) ∷ []
    ++ count_texts (ascii " taken=") c.taken
    ++ count_texts (ascii " dropped=") c.dropped
    ++ (ascii " command=" ∷ hex_byte c.command ∷ [])
    ++ count_texts (ascii " length=") c.data_length

-- `reply=BYTES past=SPAN`: "what the call says that it wrote to the front of the room, as it stands there now"; "`past` looks at the lent
-- room behind the reply, or behind the frame, its places counted from the room's first byte"
abbrev pub room_texts : List ℕ → ℕ → List ℕ → List ℕ → List (List ℕ)
room_texts name n kept room = name ∷ [] ++ bytes_texts (take n room) ++ ascii " past=" ∷ [] ++ span_texts kept room n

-- `OUTCOME taken=N dropped=N command=XX length=N reply=BYTES past=SPAN area=SPAN`: "`area` looks at the lent area"
abbrev pub called_texts : Called → List ℕ → List ℕ → List ℕ → List ℕ → List (List ℕ)
called_texts c kept room kept_area area =
    reading_texts c
    ++ room_texts (ascii " reply=") c.reply_length kept room
    ++ ascii " area=" ∷ []
    ++ span_texts kept_area area 0

-- `OUTCOME count=N verdict=V reply=BYTES past=SPAN`
abbrev pub portioned_texts : Portioned → List ℕ → List ℕ → List (List ℕ)
portioned_texts p kept room =
    decimal (outcome_number p.outcome) ∷ []
    ++ count_texts (ascii " count=") p.count
    ++ (ascii " verdict=" ∷ verdict_word p.verdict ∷ [])
    ++ room_texts (ascii " reply=") p.reply_length kept room

-- "Nothing stands behind the last field but the newline."
abbrev pub line_end : List (List ℕ)
line_end = ascii "\n" ∷ []

-- `OUTCOME frame=BYTES past=SPAN`
abbrev pub framed_texts : ℕ → ℕ → List ℕ → List ℕ → List (List ℕ)
framed_texts outcome n kept room = decimal outcome ∷ [] ++ room_texts (ascii " frame=") n kept room ++ line_end

-- `OUTCOME decision=D`
abbrev pub decided_texts : Decided → List (List ℕ)
decided_texts d = decimal (outcome_number d.outcome) ∷ ascii " decision=" ∷ decision_told d.decision ∷ []

-- `CHANGES`, the last field
abbrev pub changed_texts : Record → Record → List (List ℕ)
changed_texts before after = ascii " " ∷ [] ++ record_texts before after ++ line_end

abbrev pub sender_changed_texts : Sender → Sender → List (List ℕ)
sender_changed_texts before after = ascii " " ∷ [] ++ sender_texts before after ++ line_end
