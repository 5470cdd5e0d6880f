-- DEMAND 3: stray bytes cost nothing but themselves. 01, "Demand 3's runs", as one claim about a whole list of calls. Document 02, K5:
-- "Demand 3's list gains the portion calls, refused ones included, and its plain run checks in one go, then zeroes the check's own fields;
-- its runs start with no check running, finish each before the next feeding or quiet call not refused, and have not ended while one runs".
-- Assumes nothing.
use Rattle.std.specs.Prelude.{◌≡◌, Bool, true, false, not, Option, None, Some, ◌&&◌, ◌||◌, List, [], ◌∷◌, ◌++◌, ℕ, ◌+◌, length, take, drop}
use Rattle.sequences.specs.Bytes.{Bytes}
use Rattle.fronts.specs.Frame.{Frame, encode}
use Rattle.frames.specs.Finished.{finished}
use Rattle.frames.specs.LiveReading.{Call, feeding, quiet, due}
use Rattle.frames.specs.Series.{Series}
use Rattle.frames.specs.PlainRun.{Plain, plain, Begins}
use Rattle.replies.specs.Replies.{reply_frame}
use Rattle.session.specs.declared.session.Session.{Session}
use Rattle.session.specs.declared.answer.Answer.{Answer}
use Rattle.commands.specs.declared.outcome.Outcome.{Outcome}
use Rattle.commands.specs.Outcomes.{accepted, short_room, other_area, rules_broken}
use Rattle.session.specs.Answering.{judged}
use Rattle.session.specs.OneGo.{in_one_go}
use Rattle.controller.specs.declared.record.Record.{Record}
use Rattle.commands.specs.Outcomes.{same_outcome}
use Rattle.controller.specs.Records.{unlawful_record, is_checking, holding_nothing}
use Rattle.controller.specs.Calls.{refusal_of, CallLeaves, fed_call, quieted_call, reply_in}
use Rattle.controller.specs.Portions.{PortionLeaves, portion_call, CallKind, line_call, portion}
use Rattle.session.specs.Lawful.{unlawful}

-- ---- "The plain run: fed the series' frames alone, one at a time."

-- "State: the starting record without held bytes, and the starting area."
pub record State : Type 0 where
  pub session : Session
  pub area : List ℕ

-- "its plain run checks in one go"
abbrev pub answer_to : State → Frame → Answer
answer_to s f = in_one_go s.session (finished f) s.area

-- "Step: what "How the session answers" says of that frame, new state and reply"
abbrev pub step_to : State → Frame → State
step_to s f = record { session = (answer_to s f).session; area = (judged s.session (finished f) s.area).area }

-- the reply to a command as the bytes of a frame, where there is one
abbrev pub frames_of : ℕ → Option (List ℕ) → List (List ℕ)
frames_of command None = []
frames_of command (Some d) = encode (reply_frame command d) ∷ []

-- "with outcome 2, 3, 4 or 10 no reply"; F9 has none either
abbrev pub reply_to : State → Frame → List (List ℕ)
reply_to s f = frames_of f.command (answer_to s f).reply

abbrev pub plain_run : Record → List ℕ → List Frame → Plain State (List ℕ)
plain_run r area fs = plain step_to reply_to (record { session = r.session; area = area }) fs

-- ---- "The list: feeding and quiet calls", and portion calls

-- what is lent as the area: the area, or other memory
pub data Lent : Type 0 where
  own : Lent
  other : List ℕ → Lent

-- a call of the list, its room, and what is lent
pub record Listed : Type 0 where
  pub kind : CallKind
  pub room : List ℕ
  pub lends : Lent

-- where a run stands
pub record Place : Type 0 where
  pub at : Record
  pub area : List ℕ
  pub untaken : List ℕ
  pub replies : List (List ℕ)
  pub dropped : ℕ
  -- "a quiet call that was not refused came"
  pub quieted : Bool

-- "the first on a lawful record with nothing held and an area of the opened length"
pub record RunStart (r : Record) (area : List ℕ) : Type 0 where
  pub lawful : unlawful_record r ≡ false
  pub nothing-held : r.reader.count ≡ 0
  pub size : length area ≡ r.session.opened
  pub no-check : is_checking r ≡ false

abbrev pub start : Record → List ℕ → List ℕ → Place
start r area bytes = record { at = r; area = area; untaken = bytes; replies = []; dropped = 0; quieted = false }

abbrev pub lent : Lent → List ℕ → List ℕ
lent own area = area
lent (other memory) area = memory

-- "each later one on both as the last left them": what was lent is the area only if it was
abbrev pub area_left : Lent → List ℕ → List ℕ → List ℕ
area_left own left area = left
area_left (other memory) left area = area

-- a check runs
abbrev pub checking : Place → Bool
checking p = is_checking p.at

-- what the contracts of `feed` and `quiet` say of the call, and that of `portion`; "a feeding call is offered any first part of the bytes
-- not yet taken, even none"
abbrev pub leaves_of : Call → Listed → Place → CallLeaves
leaves_of (feeding n) c p = fed_call (take n p.untaken) p.at c.room (lent c.lends p.area)
leaves_of quiet c p = quieted_call p.at c.room (lent c.lends p.area)

abbrev pub portion_leaves_of : ℕ → Listed → Place → PortionLeaves
portion_leaves_of most c p = portion_call most p.at c.room (lent c.lends p.area)

-- the outcome of the call
abbrev pub outcome_in : CallKind → Listed → Place → Outcome
outcome_in (line_call k) c p = (leaves_of k c p).called.outcome
outcome_in (portion most) c p = (portion_leaves_of most c p).called.outcome

-- 9, 6 and 5: the call is refused
abbrev pub is_refusal : Outcome → Bool
is_refusal n = same_outcome n rules_broken || (same_outcome n other_area || same_outcome n short_room)

-- not refused, by what is lent; by its outcome it is the same (`RefusedMeans`)
abbrev pub is_accepted : Listed → Place → Bool
is_accepted c p = same_outcome (refusal_of p.at (length c.room) (length (lent c.lends p.area))) accepted

abbrev pub is_quiet : Call → Bool
is_quiet (feeding n) = false
is_quiet quiet = true

-- where the run stands after one call more
abbrev pub after : CallLeaves → Lent → Bool → Place → Place
after x lends quieted p =
    record {
      at = x.called.next;
      area = area_left lends x.area p.area;
      untaken = drop x.called.taken p.untaken;
      replies = p.replies ++ reply_in x.called.reply_length x.room;
      dropped = p.dropped + x.called.dropped;
      quieted = quieted;
    }

abbrev pub after_portion : PortionLeaves → Place → Place
after_portion x p =
    record {
      at = x.called.next;
      area = p.area;
      untaken = p.untaken;
      replies = p.replies ++ reply_in x.called.reply_length x.room;
      dropped = p.dropped;
      quieted = p.quieted;
    }

abbrev pub next_by : CallKind → Listed → Place → Place
next_by (line_call k) c p = after (leaves_of k c p) c.lends (p.quieted || (is_quiet k && is_accepted c p)) p
next_by (portion most) c p = after_portion (portion_leaves_of most c p) p

abbrev pub next : Listed → Place → Place
next c p = next_by c.kind c p

abbrev pub run : List Listed → Place → Place
run [] p = p
run (c ∷ cs) p = run cs (next c p)

-- "lent memory of another length as its area"
abbrev pub of_other_length : Lent → Place → Type 0
of_other_length own p = Unit
of_other_length (other memory) p = length memory ≡ length p.area → ⊥

-- "Quiet, unless refused, comes only once every byte is taken"; a run finishes each check "before the next feeding or quiet call not
-- refused"
abbrev pub due_by : CallKind → Place → Type 0
due_by (line_call k) p = due k p.untaken × (checking p ≡ false)
due_by (portion most) p = Unit

abbrev pub Allowed : Listed → Place → Type 0
Allowed c p = of_other_length c.lends p × (is_accepted c p ≡ true → due_by c.kind p)

abbrev pub AllAllowed : List Listed → Place → Type 0
AllAllowed [] p = Unit
AllAllowed (c ∷ cs) p = Allowed c p × AllAllowed cs (next c p)

-- "the run has ended once a quiet call that was not refused came and nothing is held"; runs "have not ended while one runs"
pub record Ended (p : Place) : Type 0 where
  pub quiet_came : p.quieted ≡ true
  pub nothing-held : p.at.reader.count ≡ 0
  pub no-check : checking p ≡ false

-- ---- the claim

-- at the end, replies, area and record are the plain run's, "Its record at the end holds nothing, with zeros in the held places", and
-- the dropped counts add up to the n stray bytes
pub record AsPlainRun (x : Plain State (List ℕ)) (n : ℕ) (p : Place) : Type 0 where
  pub same-replies : p.replies ≡ x.replies
  pub same_area : p.area ≡ x.state.area
  pub same_record : p.at ≡ holding_nothing x.state.session
  pub all-dropped : p.dropped ≡ n

-- after every list the replies so far are the first of the plain run's, and once the run has ended it is as the plain run
pub record StrayFree (x : Plain State (List ℕ)) (n : ℕ) (p : Place) : Type 0 where
  pub so_far : Begins p.replies x.replies
  pub at_end : Ended p → AsPlainRun x n p

-- a list of calls after which the run has ended
pub record Ending (p : Place) : Type 0 where
  pub calls : List Listed
  pub rules : AllAllowed calls p
  pub ended : Ended (run calls p)

-- two runs end with the same replies, area and record
pub record EqualAtEnd (p q : Place) : Type 0 where
  pub replies : p.replies ≡ q.replies
  pub area : p.area ≡ q.area
  pub record_at_end : p.at ≡ q.at

pub record Demand3 : Type 0 where
  -- every series of frames fs with n stray bytes, every start, every list of calls
  pub strays_cost_nothing :
      (r : Record) (area : List ℕ) → RunStart r area → {b : List ℕ} {fs : List Frame} {n : ℕ} → Series b fs n → Bytes b
      → (calls : List Listed) → AllAllowed calls (start r area b) → StrayFree (plain_run r area fs) n (run calls (start r area b))
  -- the same frames from the same start, with other stray bytes or none, end alike
  pub other-strays :
      (r : Record) (area : List ℕ) → RunStart r area → {b b' : List ℕ} {fs : List Frame} {n n' : ℕ} → Series b fs n → Bytes b
      → Series b' fs n' → Bytes b'
      → (calls calls' : List Listed) → AllAllowed calls (start r area b) → AllAllowed calls' (start r area b')
      → Ended (run calls (start r area b)) → Ended (run calls' (start r area b'))
      → EqualAtEnd (run calls (start r area b)) (run calls' (start r area b'))
  -- after every list of calls the run of any bytes can be brought to its end, so that nothing is claimed of an empty set
  pub ends :
      (r : Record) (area : List ℕ) → RunStart r area → (b : List ℕ) → Bytes b
      → (calls : List Listed) → AllAllowed calls (start r area b) → Ending (run calls (start r area b))

-- ---- what its definitions mean

-- The claim: a call of the list is refused exactly when its outcome is 9, 6 or 5. A portion's 18 is no refusal here; it changes nothing
-- either.
abbrev pub RefusedMeans : Type 0
RefusedMeans = (c : Listed) (p : Place) → is_accepted c p ≡ not (is_refusal (outcome_in c.kind c p))

-- The claim: the plain run's record stays lawful, its area of the opened length and no check runs. So no frame of it would meet 9, 6 or 12,
-- and it makes no difference that a call first asks 9 and 6 (`LawfulAsJudged`).
pub record StaysLawful (s : State) : Type 0 where
  pub lawful : unlawful s.session ≡ false
  pub size : length s.area ≡ s.session.opened
  pub no-check : s.session.transfer.check.running ≡ false

abbrev pub PlainRunLawful : Type 0
PlainRunLawful = (r : Record) (area : List ℕ) → RunStart r area → (fs : List Frame) → StaysLawful (plain_run r area fs).state
