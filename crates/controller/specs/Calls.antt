-- One call of feeding or quiet: everything that it gives and leaves, on every outcome. Assumes nothing.
use Rattle.std.specs.Prelude.{◌≡◌, cond, not, Option, None, Some, List, [], ◌∷◌, ℕ, ltb, eqb, length, take}
use Rattle.frames.specs.declared.reader.Reader.{Reader}
use Rattle.frames.specs.declared.reader.Fed.{Fed}
use Rattle.frames.specs.LiveReading.{fed, quieted}
use Rattle.replies.specs.Replies.{reply_size, reply_room}
use Rattle.session.specs.declared.session.Session.{Session}
use Rattle.session.specs.declared.answer.Answer.{Answer}
use Rattle.commands.specs.declared.outcome.Outcome.{Outcome}
use Rattle.commands.specs.Outcomes.{accepted, no_frame_yet, short_room, other_area, rules_broken}
use Rattle.session.specs.Answering.{answered, area_after}
use Rattle.controller.specs.declared.record.Record.{Record}
use Rattle.controller.specs.declared.call.Called.{Called}
use Rattle.commands.specs.Outcomes.{same_outcome}
use Rattle.controller.specs.Records.{unlawful_record}

-- "reply room below 33 bytes"
abbrev pub min_room : ℕ
min_room = 33

-- "Calls check 9, 6, 5"; 0 where the call is not refused
unfoldable pub refusal_of : Record → ℕ → ℕ → Outcome
refusal_of r room area =
    cond (unlawful_record r) rules_broken
    (cond (not (eqb area r.session.opened)) other_area
    (cond (ltb room min_room) short_room accepted))

-- what a call gives, and the room and the area as it leaves them
pub record CallLeaves : Type 0 where
  pub called : Called
  pub room : List ℕ
  pub area : List ℕ

-- "on outcomes 5, 6 and 9 all four are 0"; "no byte taken, all unchanged"
abbrev pub refused_call : Outcome → Record → Called
refused_call outcome r = record { outcome = outcome; reply_length = 0; taken = 0; dropped = 0; command = 0; data_length = 0; next = r }

-- "A call without a reply .. gives length 0"
abbrev pub reply_size_of : Option (List ℕ) → ℕ → List ℕ → ℕ
reply_size_of None command room = 0
reply_size_of (Some d) command room = reply_size command d room

abbrev pub reply_room_of : Option (List ℕ) → ℕ → List ℕ → List ℕ
reply_room_of None command room = room
reply_room_of (Some d) command room = reply_room command d room

pub record ReplyLeft (reply : Option (List ℕ)) (command : ℕ) (room : List ℕ) (size : ℕ) (after : List ℕ) : Type 0 where
  pub gives : size ≡ reply_size_of reply command room
  pub leaves : after ≡ reply_room_of reply command room

-- the reading ended at a frame, and the session answers it
abbrev pub answered_call : Fed → Answer → List ℕ → Called
answered_call f a room =
    record {
      outcome = a.outcome;
      reply_length = reply_size_of a.reply f.frame.command room;
      taken = f.taken;
      dropped = f.dropped;
      command = f.frame.command;
      data_length = f.frame.length;
      next = record { reader = f.next; session = a.session };
    }

-- outcome 1: "no whole frame yet"; "no reply; record differs in held bytes only"
abbrev pub waiting_call : Fed → Session → Called
waiting_call f s =
    record {
      outcome = no_frame_yet;
      reply_length = 0;
      taken = f.taken;
      dropped = f.dropped;
      command = 0;
      data_length = 0;
      next = record { reader = f.next; session = s };
    }

unfoldable pub finished_call : Fed → Session → List ℕ → List ℕ → CallLeaves
finished_call f s room area =
    let a = answered s f.frame area in
    cond f.found
    (record {
      called = answered_call f a room;
      room = reply_room_of a.reply f.frame.command room;
      area = area_after s f.frame area;
    })
    (record { called = waiting_call f s; room = room; area = area })

-- a call that reads by `reads`
unfoldable pub called_by : (Reader → Fed) → Record → List ℕ → List ℕ → CallLeaves
called_by reads r room area =
    let code = refusal_of r (length room) (length area) in
    cond (same_outcome code accepted) (finished_call (reads r.reader) r.session room area)
    (record { called = refused_call code r; room = room; area = area })

-- feeding some bytes
abbrev pub fed_call : List ℕ → Record → List ℕ → List ℕ → CallLeaves
fed_call new r room area = called_by (λ reader. fed reader new) r room area

-- quiet
abbrev pub quieted_call : Record → List ℕ → List ℕ → CallLeaves
quieted_call r room area = called_by quieted r room area

-- a call's reply, of this length at the front of the room; none of length 0
abbrev pub reply_in : ℕ → List ℕ → List (List ℕ)
reply_in n room = cond (eqb n 0) [] (take n room ∷ [])

-- the contract: all of it is the definition's
pub record Leaves (x : CallLeaves) (c : Called) (room area : List ℕ) : Type 0 where
  pub gives : c ≡ x.called
  pub leaves-room : room ≡ x.room
  pub leaves-area : area ≡ x.area
