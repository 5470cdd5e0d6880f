-- docs/CONSOLE.md, "Fields of the sender's record .., in the order in which they are told". Assumes nothing.
use Rattle.std.specs.Prelude.{List, [], ◌∷◌, ◌++◌, ℕ}
use Rattle.sender.specs.declared.sender.Offer.{Offer}
use Rattle.sender.specs.declared.sender.Position.{Position}
use Rattle.sender.specs.declared.sender.Sender.{Sender}
use Rattle.sender.specs.declared.sender.Tries.{Tries}
use Rattle.text.specs.Ascii.{ascii}
use Rattle.values.specs.Fields.{number_field, phase_field, bytes_field}
use Rattle.values.specs.Words.{sender_phase_name}

-- `channel`, `pid`, `version`, `md5`, `size`, `length`
abbrev pub offer_fields : Offer → Offer → List (List ℕ)
offer_fields before after =
    number_field (ascii " channel=") before.channel after.channel
    ++ bytes_field (ascii " pid=") before.pid after.pid
    ++ bytes_field (ascii " version=") before.version after.version
    ++ bytes_field (ascii " md5=") before.md5 after.md5
    ++ number_field (ascii " size=") before.size after.size
    ++ number_field (ascii " length=") before.length after.length

-- `phase`, `place`, `number`
abbrev pub position_fields : Position → Position → List (List ℕ)
position_fields before after =
    phase_field (sender_phase_name before.phase) (sender_phase_name after.phase)
    ++ number_field (ascii " place=") before.place after.place
    ++ number_field (ascii " number=") before.number after.number

-- `silences`; `legs`, "new legs begun"
abbrev pub tries_fields : Tries → Tries → List (List ℕ)
tries_fields before after =
    number_field (ascii " silences=") before.silences after.silences
    ++ number_field (ascii " legs=") before.new_legs after.new_legs

-- "CHANGES is `|`, then for each field of the record that is another than before the command a space and `field=value`"
abbrev pub sender_texts : Sender → Sender → List (List ℕ)
sender_texts before after =
    ascii "|" ∷ []
    ++ offer_fields before.offer after.offer
    ++ position_fields before.position after.position
    ++ tries_fields before.tries after.tries
