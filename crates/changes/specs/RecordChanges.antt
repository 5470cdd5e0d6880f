-- docs/CONSOLE.md, "Fields of the record, in the order in which they are told". Assumes nothing.
use Rattle.std.specs.Prelude.{List, [], ◌∷◌, ◌++◌, ℕ}
use Rattle.boards.specs.Boards.{max_boards}
use Rattle.controller.specs.declared.record.Record.{Record}
use Rattle.frames.specs.declared.reader.Reader.{Reader}
use Rattle.image.specs.declared.check.Check.{Check}
use Rattle.session.specs.declared.session.Session.{Session}
use Rattle.text.specs.Ascii.{ascii}
use Rattle.transfer.specs.declared.identity.Identity.{Identity}
use Rattle.transfer.specs.declared.state.Leg.{Leg}
use Rattle.transfer.specs.declared.state.Transfer.{Transfer}
use Rattle.changes.specs.BoardLists.{board_fields}
use Rattle.values.specs.Fields.{bit_of, number_field, phase_field, bytes_field, four_bytes_field, held_field}
use Rattle.values.specs.Words.{phase_name}

-- `boards`, "how many boards the list has"; `board0` .. `board9`; `opened`, "the opened length"
abbrev pub opening_fields : Session → Session → List (List ℕ)
opening_fields before after =
    number_field (ascii " boards=") before.count after.count
    ++ board_fields before.boards after.boards max_boards
    ++ number_field (ascii " opened=") before.opened after.opened

-- `holding`, "how many bytes are held"; `held`, "the 526 places for held bytes"
abbrev pub reader_fields : Reader → Reader → List (List ℕ)
reader_fields before after = number_field (ascii " holding=") before.count after.count ++ held_field before.held after.held

-- `phase`; `channel`, "the session's channel"; `agreed`, "the agreed packet size"; `next`, "the next packet number"
abbrev pub leg_fields : Leg → Leg → List (List ℕ)
leg_fields before after =
    phase_field (phase_name before.phase) (phase_name after.phase)
    ++ number_field (ascii " channel=") before.channel after.channel
    ++ number_field (ascii " agreed=") before.agreed after.agreed
    ++ number_field (ascii " next=") before.next after.next

-- `image-channel`, "the identity's channel"; its `version`; `announced`, "the announced length"; its `md5`; `crc`, its CRC-32
abbrev pub identity_fields : Identity → Identity → List (List ℕ)
identity_fields before after =
    number_field (ascii " image-channel=") before.channel after.channel
    ++ bytes_field (ascii " version=") before.version after.version
    ++ number_field (ascii " announced=") before.announced after.announced
    ++ bytes_field (ascii " md5=") before.md5 after.md5
    ++ four_bytes_field (ascii " crc=") before.crc after.crc

-- `checking`, "whether an end check runs"; `read`, "how many bytes it has read"; `register`, "the CRC-32's register"
abbrev pub check_fields : Check → Check → List (List ℕ)
check_fields before after =
    number_field (ascii " checking=") (bit_of before.running) (bit_of after.running)
    ++ number_field (ascii " read=") before.read after.read
    ++ four_bytes_field (ascii " register=") before.register after.register

-- the leg; `stored`, "the stored length"; the identity; `last`, "the length of the packet accepted last"; the end check
abbrev pub transfer_fields : Transfer → Transfer → List (List ℕ)
transfer_fields before after =
    leg_fields before.leg after.leg
    ++ number_field (ascii " stored=") before.progress.stored after.progress.stored
    ++ identity_fields before.image after.image
    ++ number_field (ascii " last=") before.progress.last after.progress.last
    ++ check_fields before.check after.check

-- "CHANGES is `|`, then for each field of the record that is another than before the command a space and `field=value`"
abbrev pub record_texts : Record → Record → List (List ℕ)
record_texts before after =
    ascii "|" ∷ []
    ++ opening_fields before.session after.session
    ++ reader_fields before.reader after.reader
    ++ transfer_fields before.session.transfer after.session.transfer
