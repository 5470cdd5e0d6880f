-- The course of an end check: the calls that come while it runs, what comes of them, and that it ends. Document 02, K5: "each portion call
-- is given a largest number of bytes, reports how many image bytes it read in this call, and says unfinished, right or wrong. That count is
-- the smaller of the largest number and what is left unread. The call that reads the last byte gives the verdict". Assumes nothing.
use Rattle.std.specs.Prelude.{◌≡◌, Bool, true, false, cond, not, ◌&&◌, ◌↔◌, List, [], ◌∷◌, ◌++◌, ℕ, ◌+◌, ◌*◌, ◌≤◌, ◌<◌, ltb, eqb, length, take, replicate}
use Rattle.frames.specs.declared.finished.FinishedFrame.{FinishedFrame}
use Rattle.frames.specs.LiveReading.{Call, fed_by}
use Rattle.image.specs.declared.check.Verdict.{Verdict}
use Rattle.image.specs.declared.check.Verdict.TheVariants.{Unfinished, Right, Wrong}
use Rattle.ending.specs.Portions.{unread}
use Rattle.session.specs.Transfers.{own_transfer}
use Rattle.session.specs.declared.session.Session.{Session}
use Rattle.commands.specs.declared.outcome.Outcome.{Outcome}
use Rattle.commands.specs.Outcomes.{accepted, unlisted_command, wrong_header, unlisted_channel, check_runs}
use Rattle.session.specs.Answering.{place_for, by_header, header_of_frame}
use Rattle.controller.specs.declared.record.Record.{Record}
use Rattle.controller.specs.Records.{unlawful_record, is_checking}
use Rattle.controller.specs.Calls.{min_room, refusal_of, CallLeaves, called_by, reply_in}
use Rattle.controller.specs.Portions.{portion_call, CallKind, line_call, portion}

-- ---- the calls

-- a call of any kind: the bytes not yet taken, its room, and the memory that it lends as the area
pub record Later : Type 0 where
  pub kind : CallKind
  pub untaken : List ℕ
  pub room : List ℕ
  pub memory : List ℕ

-- neither 6 nor 5: memory of the opened length, and a room of 33 bytes at least
abbrev pub lends_enough : ℕ → Later → Bool
lends_enough opened c = eqb (length c.memory) opened && not (ltb (length c.room) min_room)

-- "a largest number of bytes"; feeding and quiet read none of the image
abbrev pub largest : CallKind → ℕ
largest (line_call call) = 0
largest (portion n) = n

-- the largest numbers of the portion calls that lend enough, added up
abbrev pub bytes_asked : ℕ → List Later → ℕ
bytes_asked opened [] = 0
bytes_asked opened (c ∷ cs) = cond (lends_enough opened c) (largest c.kind) 0 + bytes_asked opened cs

-- "nobody else changing .. image bytes": a call that is not refused lends memory with the area's first n bytes
abbrev pub LendSameImage : ℕ → List ℕ → List Later → Type 0
LendSameImage n area [] = Unit
LendSameImage n area (c ∷ cs) = (lends_enough (length area) c ≡ true → take n c.memory ≡ take n area) × LendSameImage n area cs

-- While a check runs, feeding and quiet change neither the session nor the room nor what is lent as the area, and have no reply; a portion
-- call is lent the area for reading only. So it is for others alone to leave the image's bytes as they are.
pub record LeavesCheck (r : Record) (room memory : List ℕ) (y : CallLeaves) : Type 0 where
  pub same-session : y.called.next.session ≡ r.session
  pub no-reply : y.called.reply_length ≡ 0
  pub same-room : y.room ≡ room
  pub same_memory : y.area ≡ memory

abbrev pub WhileChecking : Type 0
WhileChecking =
    (call : Call) (untaken : List ℕ) (r : Record) (room memory : List ℕ) → is_checking r ≡ true
    → LeavesCheck r room memory (called_by (fed_by call untaken) r room memory)

-- A frame that comes while a check runs: 2 and 3 by the table; "F9: noted"; "FA to FE get a new outcome 12 after 4".
abbrev pub met_by : Session → FinishedFrame → Outcome
met_by s f =
    by_header (header_of_frame f) unlisted_command wrong_header
    (cond (eqb f.command 0xF9) accepted (cond (ltb (place_for s f) s.count) check_runs unlisted_channel))

abbrev pub FrameMeetsCheck : Type 0
FrameMeetsCheck =
    (call : Call) (untaken : List ℕ) (r : Record) (room area : List ℕ)
    → refusal_of r (length room) (length area) ≡ accepted → is_checking r ≡ true
    → let f = fed_by call untaken r.reader in
    f.found ≡ true → (called_by (fed_by call untaken) r room area).called.outcome ≡ met_by r.session f.frame

-- and 12 is given by no other call: only by one that is not refused and found a frame, while a check runs
abbrev pub OnlyWhileChecking : Type 0
OnlyWhileChecking =
    (call : Call) (untaken : List ℕ) (r : Record) (room area : List ℕ)
    → (called_by (fed_by call untaken) r room area).called.outcome ≡ check_runs
    → (refusal_of r (length room) (length area) ≡ accepted) × (((fed_by call untaken r.reader).found ≡ true) × (is_checking r ≡ true))

-- ---- what comes of them

-- where the check stands: the record, the counts of the portion calls added up, the replies of all calls, and what was said last
pub record Course : Type 0 where
  pub at : Record
  pub read : ℕ
  pub replies : List (List ℕ)
  pub verdict : Verdict

abbrev pub course_from : Record → Course
course_from r = record { at = r; read = 0; replies = []; verdict = Unfinished }

-- after one call more
abbrev pub course_after : CallKind → Later → Course → Course
course_after (line_call call) c x =
    let y = called_by (fed_by call c.untaken) x.at c.room c.memory in
    record {
      at = y.called.next;
      read = x.read;
      replies = x.replies ++ reply_in y.called.reply_length y.room;
      verdict = x.verdict;
    }
course_after (portion n) c x =
    let y = portion_call n x.at c.room c.memory in
    record {
      at = y.called.next;
      read = x.read + y.called.count;
      replies = x.replies ++ reply_in y.called.reply_length y.room;
      verdict = y.called.verdict;
    }

abbrev pub is_given : Verdict → Bool
is_given Unfinished = false
is_given Right = true
is_given Wrong = true

-- after some calls; those that come after the verdict are left out
abbrev pub course : List Later → Course → Course
course [] x = x
course (c ∷ cs) x = let y = course cs (course_after c.kind c x) in cond (is_given x.verdict) x y

-- ---- it ends

-- of a check with n bytes unread, once m were asked for
pub record Ends (n m : ℕ) (x : Course) : Type 0 where
  -- as long as these are fewer: unfinished, and the counts add up to them
  pub before : m < n → (x.verdict ≡ Unfinished) × (x.read ≡ m)
  -- from then on: the verdict was given, the counts up to it add up to what was unread, and no check runs
  pub finally : n ≤ m → (is_given x.verdict ≡ true) × ((x.read ≡ n) × (is_checking x.at ≡ false))

-- a lawful record whose check runs, and every list of calls, whatever memory they lend: after an end request, whose check has read
-- nothing, the counts at the verdict add up to the announced length
abbrev pub CheckEnds : Type 0
CheckEnds =
    (r : Record) → unlawful_record r ≡ false → is_checking r ≡ true → (cs : List Later)
    → Ends (unread (own_transfer r.session)) (bytes_asked r.session.opened cs) (course cs (course_from r))

-- in portions of k bytes it is finished by the m-th exactly when m times k is not below what was unread: by that divided by k, rounded up;
-- in portions of no bytes never
abbrev pub EndsInPortions : Type 0
EndsInPortions =
    (r : Record) → unlawful_record r ≡ false → is_checking r ≡ true → (k m : ℕ) (c : Later) → c.kind ≡ portion k
    → lends_enough r.session.opened c ≡ true
    → (is_given (course (replicate m c) (course_from r)).verdict ≡ true) ↔ (unread (own_transfer r.session) ≤ m * k)
