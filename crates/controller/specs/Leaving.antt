-- 01, "Outcome numbers": what a feeding or quiet call leaves, outcome by outcome, and when it gives 9, 6 and 5. Document 02, K5: what a
-- portion call leaves, and when it gives each of its outcomes. And that a lawful record stays lawful. Assumes nothing.
use Rattle.std.specs.Prelude.{◌≡◌, true, false, ◌↔◌, ◌⊎◌, List, [], ◌∷◌, ◌++◌, ℕ, ◌+◌, ◌≤◌, ◌<◌, length, drop}
use Rattle.std.proofs.Math.Seq.{slice}
use Rattle.fronts.specs.Frame.{encode}
use Rattle.frames.specs.LiveReading.{Call, held_bytes, holding, called, fed_by}
use Rattle.commands.specs.States.{granted, refused_fe}
use Rattle.replies.specs.Replies.{reply_state}
use Rattle.image.specs.declared.check.Check.{Check}
use Rattle.boards.specs.declared.board.Board.{Board}
use Rattle.image.specs.declared.check.Verdict.{Verdict}
use Rattle.image.specs.declared.check.Verdict.TheVariants.{Unfinished, Right, Wrong}
use Rattle.transfer.specs.declared.state.Transfer.{Transfer}
use Rattle.image.specs.Checks.{no_check, portion_size, read_on, verdict_of}
use Rattle.transfer.specs.Transfers.{with_check}
use Rattle.ending.specs.Portions.{unread, step_by}
use Rattle.session.specs.Transfers.{own_transfer, with_transfer}
use Rattle.session.specs.declared.session.Session.{Session}
use Rattle.boards.specs.Boards.{max_boards}
use Rattle.commands.specs.declared.outcome.Outcome.{Outcome}
use Rattle.commands.specs.Outcomes.{accepted, short_room, other_area, rules_broken, no_check_runs, unfinished}
use Rattle.session.specs.Checking.{outcome_of}
use Rattle.controller.specs.declared.record.Record.{Record}
use Rattle.controller.specs.Records.{unlawful_record, is_checking, opened_record}
use Rattle.controller.specs.Calls.{min_room, refusal_of, CallLeaves, refused_call, called_by, reply_in}
use Rattle.controller.specs.Portions.{PortionLeaves, refused_portion, portion_call}

-- 5, 6, 9: "no byte taken, all unchanged"
pub record AllUnchanged (r : Record) (room area : List ℕ) (x : CallLeaves) : Type 0 where
  pub gives : x.called ≡ refused_call x.called.outcome r
  pub same-room : x.room ≡ room
  pub same_area : x.area ≡ area

-- 1: "no reply; record differs in held bytes only"; 2, 3, 4, 10, and 12 (document 02, K5): "frame used up, no reply, session same"
pub record SessionUnchanged (r : Record) (room area : List ℕ) (x : CallLeaves) : Type 0 where
  pub no-reply : x.called.reply_length ≡ 0
  pub same-session : x.called.next.session ≡ r.session
  pub same-room : x.room ≡ room
  pub same_area : x.area ≡ area

-- "as 5"
abbrev pub IsRefusal : Outcome → Type 0
IsRefusal n = (n ≡ short_room) ⊎ ((n ≡ other_area) ⊎ (n ≡ rules_broken))

-- "Calls check 9, 6, 5": "Outcome 9 is given exactly when" the record breaks its rules, and 6 and 5 exactly when theirs are broken and
-- nothing before them is
pub record Refuses (r : Record) (room area : List ℕ) (outcome : Outcome) : Type 0 where
  pub nine : (outcome ≡ rules_broken) ↔ (unlawful_record r ≡ true)
  pub six : unlawful_record r ≡ false → (outcome ≡ other_area) ↔ (length area ≡ r.session.opened → ⊥)
  pub five : unlawful_record r ≡ false → length area ≡ r.session.opened → (outcome ≡ short_room) ↔ (length room < min_room)

-- of a call on the record r, the bytes `rest` being not yet taken
pub record OutcomesLeave (c : Call) (rest : List ℕ) (r : Record) (room area : List ℕ) (x : CallLeaves) : Type 0 where
  pub refuses : Refuses r room area x.called.outcome
  pub refused : IsRefusal x.called.outcome → AllUnchanged r room area x
  -- "A call with any other outcome leaves zeros past the held bytes."
  pub holds : (IsRefusal x.called.outcome → ⊥) → x.called.next.reader ≡ holding (called c (held_bytes r.reader) rest).held
  pub unanswered : (IsRefusal x.called.outcome → ⊥) → (x.called.outcome ≡ accepted → ⊥) → SessionUnchanged r room area x

abbrev pub Leaving : Type 0
Leaving =
    (c : Call) (rest : List ℕ) (r : Record) (room area : List ℕ) → OutcomesLeave c rest r room area (called_by (fed_by c rest) r room area)

-- ---- a portion call

abbrev pub IsPortionRefusal : Outcome → Type 0
IsPortionRefusal n = IsRefusal n ⊎ (n ≡ no_check_runs)

abbrev pub checking_on : Session → Check → Session
checking_on s c = with_transfer s (with_check (own_transfer s) c)

-- the frame FE, channel, state
abbrev pub state_frame : ℕ → ℕ → List ℕ
state_frame channel state = encode (record { version = 0x00; command = 0xFE; payload = reply_state channel state })

-- "CRC-32 .. differs: 03 .. Otherwise 00"; nobody asks before the verdict
abbrev pub verdict_state : Verdict → ℕ
verdict_state Unfinished = refused_fe
verdict_state Right = granted
verdict_state Wrong = refused_fe

-- a portion call that is not refused, on a running check of the transfer t
pub record Counted (most : ℕ) (t : Transfer) (area : List ℕ) (x : PortionLeaves) : Type 0 where
  -- "the smaller of the largest number and what is left unread": as many bytes as the definition's check reads on by
  pub amount : x.called.count ≡ portion_size most (unread t)
  pub bytes : x.called.count ≡ length (slice t.check.read (t.check.read + x.called.count) area)
  pub says : x.called.verdict ≡ verdict_of (read_on t.check x.called.count area) t.image.announced t.image.crc
  -- what becomes of the transfer, "FE's changes" included
  pub becomes : own_transfer x.called.next.session ≡ (step_by x.called.verdict t (read_on t.check x.called.count area)).transfer
  -- 0 with the verdict, "before that it is 19"
  pub number : x.called.outcome ≡ outcome_of x.called.verdict

pub record PortionOutcomes (most : ℕ) (r : Record) (room area : List ℕ) (x : PortionLeaves) : Type 0 where
  -- "refuse 9, 6, 5, then 18 when no check runs"
  pub refuses : Refuses r room area x.called.outcome
  pub eighteen : unlawful_record r ≡ false → length area ≡ r.session.opened → min_room ≤ length room
      → (x.called.outcome ≡ no_check_runs) ↔ (is_checking r ≡ false)
  -- "count 0, unfinished, nothing changed"
  pub refused : IsPortionRefusal x.called.outcome → x ≡ record { called = refused_portion x.called.outcome r; room = room }
  -- 19: no reply, and the check's own fields alone change
  pub unfinished : x.called.outcome ≡ unfinished
      → (x.called.reply_length ≡ 0) × ((x.room ≡ room)
      × (x.called.next ≡ record {
        reader = r.reader;
        session =
            checking_on r.session (own_transfer x.called.next.session).check;
      }))
  -- "The call that reads the last byte gives the verdict and FE's reply .. and zeroes the check's own fields (outcome 0)"
  pub finished : x.called.outcome ≡ accepted
      → ((own_transfer x.called.next.session).check ≡ no_check)
      × (reply_in x.called.reply_length x.room ≡ state_frame (own_transfer r.session).leg.channel
      (verdict_state x.called.verdict) ∷ [])
  -- "Room past a reply .. stay"
  pub past_reply : x.called.outcome ≡ accepted
      → x.room ≡ state_frame (own_transfer r.session).leg.channel (verdict_state x.called.verdict) ++ drop
      x.called.reply_length room
  -- list and opened length stay on every outcome
  pub same-list : x.called.next.session ≡ with_transfer r.session (own_transfer x.called.next.session)
  -- "reports how many image bytes it read in this call"
  pub counted : refusal_of r (length room) (length area) ≡ accepted → is_checking r ≡ true
      → Counted most (own_transfer r.session) area x
  -- "Portion calls leave what stands past the held bytes", and the held ones
  pub same_reader : x.called.next.reader ≡ r.reader

abbrev pub PortionLeaving : Type 0
PortionLeaving = (most : ℕ) (r : Record) (room area : List ℕ) → PortionOutcomes most r room area (portion_call most r room area)

-- ---- a lawful record stays lawful

pub record LawfulKept : Type 0 where
  pub by-opening : (bs : List Board) (n area : ℕ) → length bs ≡ max_boards → (opened_record bs n area).outcome ≡ accepted
      → unlawful_record (opened_record bs n area).next ≡ false
  pub by-reading : (c : Call) (rest : List ℕ) (r : Record) (room area : List ℕ) → unlawful_record r ≡ false
      → unlawful_record (called_by (fed_by c rest) r room area).called.next ≡ false
  pub by-portion : (most : ℕ) (r : Record) (room area : List ℕ) → unlawful_record r ≡ false
      → unlawful_record (portion_call most r room area).called.next ≡ false
