-- Document 02, K5: a portion call: everything that it gives and leaves, on every outcome. Assumes nothing.
use Rattle.std.specs.Prelude.{◌≡◌, cond, List, ℕ, length}
use Rattle.frames.specs.LiveReading.{Call}
use Rattle.image.specs.declared.check.Verdict.TheVariants.{Unfinished}
use Rattle.session.specs.declared.check.Checked.{Checked}
use Rattle.commands.specs.declared.outcome.Outcome.{Outcome}
use Rattle.commands.specs.Outcomes.{accepted}
use Rattle.session.specs.Checking.{checked}
use Rattle.controller.specs.declared.record.Record.{Record}
use Rattle.controller.specs.declared.portion.Portioned.{Portioned}
use Rattle.commands.specs.Outcomes.{same_outcome}
use Rattle.controller.specs.Calls.{refusal_of, reply_size_of, reply_room_of}

-- what a portion call gives, and the room as it leaves it; the area is only read
pub record PortionLeaves : Type 0 where
  pub called : Portioned
  pub room : List ℕ

-- "count 0, unfinished, nothing changed"
abbrev pub refused_portion : Outcome → Record → Portioned
refused_portion outcome r = record { outcome = outcome; reply_length = 0; count = 0; verdict = Unfinished; next = r }

-- the session's part, with a reply of this length; it leaves the held bytes and "what stands past the held bytes"
abbrev pub portioned_by : Record → Checked → ℕ → Portioned
portioned_by r c size =
    record {
      outcome = c.outcome;
      reply_length = size;
      count = c.count;
      verdict = c.verdict;
      next = record { reader = r.reader; session = c.session };
    }

-- "FE's reply" in the room
abbrev pub checked_portion : Checked → Record → List ℕ → PortionLeaves
checked_portion c r room =
    record {
      called = portioned_by r c (reply_size_of c.reply 0xFE room);
      room = reply_room_of c.reply 0xFE room;
    }

-- "refuse 9, 6, 5, then 18 when no check runs": 18 is the session's
unfoldable pub portion_call : ℕ → Record → List ℕ → List ℕ → PortionLeaves
portion_call most r room area =
    let code = refusal_of r (length room) (length area) in
    cond (same_outcome code accepted) (checked_portion (checked r.session most area) r room)
    (record { called = refused_portion code r; room = room })

-- a call of a list: feeding, offered a first part of the bytes not yet taken, or quiet; or a portion, with its largest number
pub data CallKind : Type 0 where
  line_call : Call → CallKind
  portion : ℕ → CallKind

-- the contract: all of it is the definition's
pub record PortionLeft (x : PortionLeaves) (p : Portioned) (room : List ℕ) : Type 0 where
  pub gives : p ≡ x.called
  pub leaves-room : room ≡ x.room
