-- docs/CONSOLE.md, "Commands" and "Output": what each command does to the desk and to the memories, and the line that it is answered with.
-- p is the phrase and b the bytes that it brought, at the front. Assumes nothing.
use Rattle.std.specs.Prelude.{◌≡◌, Bool, false, cond, List, [], ◌∷◌, ◌++◌, ℕ, ◌+◌, eqb, ltb, length, take}
use Rattle.answers.specs.Answers.{begun_texts, called_texts, portioned_texts, framed_texts, decided_texts, changed_texts, sender_changed_texts}
use Rattle.answers.specs.Answers.{line_end}
use Rattle.commands.specs.Outcomes.{outcome_number}
use Rattle.controller.specs.Records.{no_record, opened_record}
use Rattle.controller.specs.Calls.{CallLeaves, fed_call, quieted_call}
use Rattle.controller.specs.declared.call.Called.{Called}
use Rattle.controller.specs.Portions.{PortionLeaves, portion_call}
use Rattle.controller.specs.OutwardReport.{reported, room_reported}
use Rattle.fields.specs.Choices.{set_to}
use Rattle.fields.specs.Fields.{board_said, placed, record_set}
use Rattle.fields.specs.SenderFields.{offer_said, sender_set}
use Rattle.fronts.specs.Frame.{max_frame}
use Rattle.phrases.specs.declared.phrase.Phrase.{Phrase}
use Rattle.phrases.specs.Messages.{trouble_texts}
use Rattle.phrases.specs.Places.{room_at, area_at, image_at, set_held_at}
use Rattle.sender.specs.declared.decision.Decided.{Decided}
use Rattle.sender.specs.Senders.{no_sender}
use Rattle.sender.specs.Opening.{opened_sender}
use Rattle.sender.specs.Requests.{requested, room_requested}
use Rattle.text.specs.Ascii.{ascii}
use Rattle.text.specs.Decimals.{decimal}
use Rattle.text.specs.declared.output.Output.{Output}
use Rattle.desk.specs.declared.desk.Desk.{Desk}
use Rattle.desk.specs.Desks.{with_record, with_sender, with_list, lending}
use Rattle.desk.specs.Lent.{lent_length, left_as}
use Rattle.desk.specs.Telling.{DeskTold}

-- "the memory has no place for the last of them": n bytes from place `at` on, of so many
abbrev pub is_past : ℕ → ℕ → ℕ → Bool
is_past size at n = ltb size (at + n)

-- a line of nothing but its number and a text, which has a space before it
abbrev pub line_texts : ℕ → List ℕ → List (List ℕ)
line_texts number text = begun_texts number text ++ line_end

abbrev pub ok_text : List ℕ
ok_text = ascii " ok"

-- "`the bytes go past the end`"
abbrev pub past_text : List ℕ
past_text = ascii " bad the bytes go past the end"

-- "answered with its number, `bad` and the first of these that fits"
abbrev pub bad_texts : ℕ → Phrase → List (List ℕ)
bad_texts number p = begun_texts number (ascii " bad ") ++ trouble_texts p ++ line_end

-- ---- the memories and the list

-- `write ..`: "puts the bytes into the room, from place AT on"
abbrev pub write_texts : ℕ → ℕ → List ℕ → List ℕ → List (List ℕ)
write_texts number at new memory = line_texts number (cond (is_past (length memory) at (length new)) past_text ok_text)

module _ (d : Desk) where
  -- "lends the first N bytes of the room from now on"
  abbrev pub lent : ℕ → ℕ → Desk
  lent command n =
      lending d (set_to command room_at n d.room) (set_to command area_at n d.area) (set_to command image_at n d.image)

  -- "a board of the list"
  abbrev pub boarded : Phrase → List ℕ → Desk
  boarded p b = with_list d (placed d.list p.first (board_said p.second b))

-- ---- the controller's calls

abbrev pub feed_name : List ℕ
feed_name = ascii " feed "

abbrev pub quiet_name : List ℕ
quiet_name = ascii " quiet "

module _ (d : Desk) where
  -- the part of a memory that is lent
  abbrev pub lent_room : List ℕ → List ℕ
  lent_room room = take (lent_length d.room) room

  abbrev pub lent_area : List ℕ → List ℕ
  lent_area area = take (lent_length d.area) area

  -- the room with another part lent, the area with another
  abbrev pub room_left : List ℕ → List ℕ → List ℕ
  room_left x room = left_as x (lent_length d.room) room

  abbrev pub area_left : List ℕ → List ℕ → List ℕ
  area_left x area = left_as x (lent_length d.area) area

  -- the feeding call, the quiet call and the portion call on what is lent
  abbrev pub fed_lent : List ℕ → List ℕ → List ℕ → CallLeaves
  fed_lent fed room area = fed_call fed d.record (lent_room room) (lent_area area)

  abbrev pub quieted_lent : List ℕ → List ℕ → CallLeaves
  quieted_lent room area = quieted_call d.record (lent_room room) (lent_area area)

  abbrev pub portion_lent : ℕ → List ℕ → List ℕ → PortionLeaves
  portion_lent most room area = portion_call most d.record (lent_room room) (take d.area area)

  -- the outward F9
  abbrev pub report_room : List ℕ → List ℕ
  report_room room = room_left (room_reported d.record (lent_room room)) room

  -- "opening, with the list's first COUNT boards and an area of LENGTH"
  abbrev pub open_desk : Phrase → Desk
  open_desk p = with_record d (opened_record d.list p.first p.second).next

module _ (d : Desk) (number : ℕ) where
  -- `open OUTCOME CHANGES`
  abbrev pub open_texts : Phrase → List (List ℕ)
  open_texts p =
      let o = opened_record d.list p.first p.second in
      begun_texts number (ascii " open ") ++ decimal (outcome_number o.outcome) ∷ [] ++ changed_texts d.record o.next

  -- a line of feeding or quiet, which gave c: room and area before and after, as far as they were lent
  abbrev pub call_texts : List ℕ → Called → List ℕ → List ℕ → List ℕ → List ℕ → List (List ℕ)
  call_texts name c room room' area area' =
      begun_texts number name ++ called_texts c room room' area area' ++ changed_texts d.record c.next

  -- feeding or quiet, of which x is left: the desk has its record, room and area are as it left them, and that is told
  pub record CallDone (name : List ℕ) (x : CallLeaves) (room area : List ℕ) (o : Output) (r : Desk) (room' area' : List ℕ) (o' : Output) :
      Type 0 where
    pub leaves-room : room' ≡ room_left d x.room room
    pub leaves-area : area' ≡ area_left d x.area area
    pub tells :
        DeskTold o (with_record d x.called.next)
        (call_texts name x.called (lent_room d room) (lent_room d (room_left d x.room room)) (lent_area d area)
        (lent_area d (area_left d x.area area)))
        r o'

  -- a line of a portion
  abbrev pub portion_texts : PortionLeaves → List ℕ → List (List ℕ)
  portion_texts x room =
      begun_texts number (ascii " portion ")
      ++ portioned_texts x.called (lent_room d room) (lent_room d (room_left d x.room room))
      ++ changed_texts d.record x.called.next

  pub record PortionDone (x : PortionLeaves) (room : List ℕ) (o : Output) (r : Desk) (room' : List ℕ) (o' : Output) : Type 0 where
    pub leaves-room : room' ≡ room_left d x.room room
    pub tells : DeskTold o (with_record d x.called.next) (portion_texts x room) r o'

  -- `report OUTCOME frame=BYTES past=SPAN`
  abbrev pub report_texts : List ℕ → List (List ℕ)
  report_texts room =
      let x = reported d.record (lent_room d room) in
      begun_texts number (ascii " report ") ++ framed_texts (outcome_number x.outcome) x.length (lent_room d room) (lent_room d (report_room d room))

  -- `show CHANGES`, "since the all-zero record"
  abbrev pub show_texts : List (List ℕ)
  show_texts = begun_texts number (ascii " show") ++ changed_texts no_record d.record

-- ---- the sender's calls

abbrev pub reply_name : List ℕ
reply_name = ascii " sender reply "

abbrev pub silence_name : List ℕ
silence_name = ascii " sender silence "

module _ (d : Desk) where
  -- "opening of the sender", with an image of n bytes
  abbrev pub sender_open_desk : ℕ → List ℕ → ℕ → Desk
  sender_open_desk size b n = with_sender d (opened_sender (offer_said size b n)).sender

  abbrev pub request_room : List ℕ → List ℕ → List ℕ
  request_room image room = room_left d (room_requested d.sender image (lent_room d room)) room

module _ (d : Desk) (number : ℕ) where
  -- `sender open OUTCOME CHANGES`
  abbrev pub sender_open_texts : ℕ → List ℕ → ℕ → List (List ℕ)
  sender_open_texts size b n =
      let o = opened_sender (offer_said size b n) in
      begun_texts number (ascii " sender open ") ++ decimal (outcome_number o.outcome) ∷ [] ++ sender_changed_texts d.sender o.sender

  -- `sender request OUTCOME frame=BYTES past=SPAN`
  abbrev pub request_texts : List ℕ → List ℕ → List (List ℕ)
  request_texts image room =
      let x = requested d.sender image (lent_room d room) in
      begun_texts number (ascii " sender request ")
      ++ framed_texts (outcome_number x.outcome) x.length (lent_room d room) (lent_room d (request_room d image room))

  -- `sender reply OUTCOME decision=D CHANGES`, `sender silence OUTCOME decision=D CHANGES`
  abbrev pub decision_texts : List ℕ → Decided → List (List ℕ)
  decision_texts name x = begun_texts number name ++ decided_texts x ++ sender_changed_texts d.sender x.next

  abbrev pub Decides : List ℕ → Decided → Output → Desk → Output → Type 0
  Decides name x o r o' = DeskTold o (with_sender d x.next) (decision_texts name x) r o'

  -- `sender show CHANGES`, "since the all-zero record"
  abbrev pub sender_show_texts : List (List ℕ)
  sender_show_texts = begun_texts number (ascii " sender show") ++ sender_changed_texts no_sender d.sender

-- ---- fields set by hand

-- "`set held`: the memory has no place for the last of them"
abbrev pub is_past_held : Phrase → Bool
is_past_held p = cond (eqb p.command set_held_at) (is_past max_frame p.first p.count) false

module _ (d : Desk) where
  abbrev pub set_desk : Phrase → List ℕ → Desk
  set_desk p b = cond (is_past_held p) d (with_record d (record_set p b d.record))

  abbrev pub sender_set_desk : Phrase → List ℕ → Desk
  sender_set_desk p b = with_sender d (sender_set p b d.sender)

module _ (d : Desk) (number : ℕ) where
  -- `set CHANGES`
  abbrev pub set_texts : Phrase → List ℕ → List (List ℕ)
  set_texts p b =
      cond (is_past_held p) (line_texts number past_text)
      (begun_texts number (ascii " set") ++ changed_texts d.record (record_set p b d.record))

  -- `sender set CHANGES`
  abbrev pub sender_set_texts : Phrase → List ℕ → List (List ℕ)
  sender_set_texts p b = begun_texts number (ascii " sender set") ++ sender_changed_texts d.sender (sender_set p b d.sender)
