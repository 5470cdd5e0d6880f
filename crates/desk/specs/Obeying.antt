-- docs/CONSOLE.md, "Commands": which command does what. p is the phrase, b the bytes that it brought, at the front. Assumes nothing.
use Rattle.std.specs.Prelude.{◌≡◌, cond, List, ℕ, eqb, ltb, length, take}
use Rattle.controller.specs.Calls.{CallLeaves}
use Rattle.phrases.specs.declared.phrase.Phrase.{Phrase}
use Rattle.phrases.specs.Places.{write_room_at, write_area_at, write_image_at, board_command_at, open_at, feed_at, quiet_at, portion_at, report_at}
use Rattle.phrases.specs.Places.{set_boards_at, sender_open_at, sender_request_at, sender_reply_at, sender_silence_at, sender_set_channel_at}
use Rattle.sender.specs.Replies.{after_reply}
use Rattle.sender.specs.Silences.{after_silence}
use Rattle.sequences.specs.Places.{written_at}
use Rattle.text.specs.declared.output.Output.{Output}
use Rattle.desk.specs.declared.desk.Desk.{Desk}
use Rattle.desk.specs.Desks.{is_bad, with_record, with_sender}
use Rattle.desk.specs.Telling.{DeskTold}
use Rattle.desk.specs.Effects.{line_texts, ok_text, bad_texts, write_texts, lent, boarded, feed_name, quiet_name, lent_room, lent_area}
use Rattle.desk.specs.Effects.{room_left, area_left, fed_lent, quieted_lent, portion_lent, report_room, open_desk, open_texts, call_texts}
use Rattle.desk.specs.Effects.{portion_texts, report_texts, show_texts, reply_name, silence_name, sender_open_desk, request_room}
use Rattle.desk.specs.Effects.{sender_open_texts, request_texts, decision_texts, sender_show_texts, set_desk, sender_set_desk, set_texts}
use Rattle.desk.specs.Effects.{sender_set_texts}

-- the desk and the three memories after a command, and the line that it is answered with
pub record DeskEffect : Type 0 where
  pub desk : Desk
  pub texts : List (List ℕ)
  pub room : List ℕ
  pub area : List ℕ
  pub image : List ℕ

-- the contract: all of it is the definition's, and the line stands behind those that wait
pub record Done (e : DeskEffect) (o : Output) (r : Desk) (room area image : List ℕ) (o' : Output) : Type 0 where
  pub tells : DeskTold o e.desk e.texts r o'
  pub leaves-room : room ≡ e.room
  pub leaves-area : area ≡ e.area
  pub leaves-image : image ≡ e.image

module _ (d : Desk) (number : ℕ) (p : Phrase) (b room area image : List ℕ) where
  -- the bytes that the phrase brought
  abbrev pub brought : List ℕ
  brought = take p.count b

  -- the memories stay
  abbrev pub telling : Desk → List (List ℕ) → DeskEffect
  telling after texts = record { desk = after; texts = texts; room = room; area = area; image = image }

  -- `write ..`, `board`, `room`, `area`, `image`
  unfoldable pub remembered : DeskEffect
  remembered =
      cond (eqb p.command write_room_at)
      (record {
        desk = d;
        texts = write_texts number p.first brought room;
        room = written_at room p.first brought;
        area = area;
        image = image;
      })
      (cond (eqb p.command write_area_at)
      (record {
        desk = d;
        texts = write_texts number p.first brought area;
        room = room;
        area = written_at area p.first brought;
        image = image;
      })
      (cond (eqb p.command write_image_at)
      (record {
        desk = d;
        texts = write_texts number p.first brought image;
        room = room;
        area = area;
        image = written_at image p.first brought;
      })
      (cond (eqb p.command board_command_at) (telling (boarded d p b) (line_texts number ok_text))
      (telling (lent d p.command p.first) (line_texts number ok_text)))))

  -- feeding or quiet, of which x is left
  abbrev pub called_effect : List ℕ → CallLeaves → DeskEffect
  called_effect name x =
      record {
        desk = with_record d x.called.next;
        texts =
            call_texts d number name x.called (lent_room d room) (lent_room d (room_left d x.room room)) (lent_area d area)
            (lent_area d (area_left d x.area area));
        room = room_left d x.room room;
        area = area_left d x.area area;
        image = image;
      }

  abbrev pub portion_effect : DeskEffect
  portion_effect =
      let x = portion_lent d p.first room area in
      record {
        desk = with_record d x.called.next;
        texts = portion_texts d number x room;
        room = room_left d x.room room;
        area = area;
        image = image;
      }

  abbrev pub report_effect : DeskEffect
  report_effect = record { desk = d; texts = report_texts d number room; room = report_room d room; area = area; image = image }

  -- `portion`, `report`, `show`
  unfoldable pub watched : DeskEffect
  watched =
      cond (eqb p.command portion_at) portion_effect
      (cond (eqb p.command report_at) report_effect (telling d (show_texts d number)))

  -- `open`, `feed`, `quiet`, and those
  unfoldable pub controlled : DeskEffect
  controlled =
      cond (eqb p.command open_at) (telling (open_desk d p) (open_texts d number p))
      (cond (eqb p.command feed_at) (called_effect feed_name (fed_lent d brought room area))
      (cond (eqb p.command quiet_at) (called_effect quiet_name (quieted_lent d room area)) watched))

  -- the image as far as it is lent
  abbrev pub lent_image : List ℕ
  lent_image = take d.image image

  abbrev pub request_effect : DeskEffect
  request_effect =
      record {
        desk = d;
        texts = request_texts d number lent_image room;
        room = request_room d lent_image room;
        area = area;
        image = image;
      }

  -- `sender open`, `sender request`, `sender reply`, `sender silence`, `sender show`
  unfoldable pub sent : DeskEffect
  sent =
      let replied = after_reply d.sender lent_image brought in
      let unheard = after_silence d.sender (length lent_image) in
      cond (eqb p.command sender_open_at)
      (telling (sender_open_desk d p.first b (length lent_image)) (sender_open_texts d number p.first b (length lent_image)))
      (cond (eqb p.command sender_request_at) request_effect
      (cond (eqb p.command sender_reply_at) (telling (with_sender d replied.next) (decision_texts d number reply_name replied))
      (cond (eqb p.command sender_silence_at) (telling (with_sender d unheard.next) (decision_texts d number silence_name unheard))
      (telling d (sender_show_texts d number)))))

  -- a command, by its place in the table; "A line that is no command changes nothing"
  unfoldable pub obeyed : DeskEffect
  obeyed =
      cond (is_bad p.trouble) (telling d (bad_texts number p))
      (cond (ltb p.command open_at) remembered
      (cond (ltb p.command set_boards_at) controlled
      (cond (ltb p.command sender_open_at) (telling (set_desk d p b) (set_texts d number p b))
      (cond (ltb p.command sender_set_channel_at) sent (telling (sender_set_desk d p b) (sender_set_texts d number p b))))))

-- the controller's calls are not lent the image, which can be any
abbrev pub ControlDone : Desk → ℕ → Phrase → List ℕ → List ℕ → List ℕ → Output → Desk → List ℕ → List ℕ → Output → Type 0
ControlDone d number p b room area o r room' area' o' =
    (image : List ℕ) → Done (controlled d number p b room area image) o r room' area' image o'

abbrev pub WatchDone : Desk → ℕ → Phrase → List ℕ → List ℕ → List ℕ → Output → Desk → List ℕ → Output → Type 0
WatchDone d number p b room area o r room' o' =
    (image : List ℕ) → Done (watched d number p b room area image) o r room' area image o'

-- nor the sender's the area
abbrev pub SentDone : Desk → ℕ → Phrase → List ℕ → List ℕ → List ℕ → Output → Desk → List ℕ → Output → Type 0
SentDone d number p b room image o r room' o' =
    (area : List ℕ) → Done (sent d number p b room area image) o r room' area image o'
