-- What one feeding or quiet call of a run makes of the place where the run stands. Assumes nothing.
use mathlib.Core.Path.{◌≡◌, refl, sym, ap, ap₂, ◌∙◌}
use mathlib.Core.Bool.{Bool, true, false, ◌&&◌, ◌||◌}
use mathlib.Core.List.{List, [], ◌++◌, append-nil}
use Rattle.std.specs.Prelude.{Option, None, Some, is_some}
use Prim.Native.Nat.{ℕ, ◌+◌, ◌≤◌}
use native.Mathlib.Omega.{arith}
use borrow.Author.Tests.{ne_eqb}
use lib.ListN.{length, drop}
use Rattle.frames.specs.declared.reader.Reader.{Reader}
use Rattle.frames.specs.declared.reader.Fed.{Fed}
use Rattle.fronts.specs.Frame.{Frame}
use Rattle.frames.specs.Finished.{finished}
use Rattle.frames.specs.LiveReading.{CallResult, Call, feeding, quiet, called, fed_by, held_bytes, holding, handed_back}
use Rattle.frames.proofs.FinishedFrames.{finished-command}
use Rattle.frames.proofs.Calls.{call-accepted}
use Rattle.frames.proofs.Remains.{state_after, replies_of}
use Rattle.replies.specs.Replies.{has_reply}
use Rattle.replies.proofs.Replies.{reply-some, reply-front}
use Rattle.session.specs.declared.answer.Answer.{Answer}
use Rattle.session.specs.Answering.{answered, area_after}
use Rattle.session.proofs.TableFrames.{replied-command}
use Rattle.commands.specs.declared.outcome.Outcome.{Outcome}
use Rattle.commands.specs.Outcomes.{accepted}
use Rattle.controller.specs.declared.record.Record.{Record}
use Rattle.commands.specs.Outcomes.{same_outcome}
use Rattle.controller.specs.Calls.{min_room, refusal_of, CallLeaves, refused_call, reply_size_of, reply_room_of, reply_in}
use Rattle.controller.specs.Calls.{finished_call, called_by}
use Rattle.controller.specs.Portions.{line_call}
use Rattle.controller.specs.Demand3.{State, Lent, own, other, Listed, Place, lent, is_accepted, is_quiet, after, next}
use Rattle.controller.specs.Demand3.{frames_of, leaves_of}
use Rattle.controller.proofs.Refusals.{lawful_record, accepted-of}
use Rattle.commands.proofs.Outcomes.{same-true}

abbrev pub state_of : Place → State
state_of p = record { session = p.at.session; area = p.area }

abbrev pub held_of : Place → List ℕ
held_of p = held_bytes p.at.reader

-- ---- what the session answers to a frame; the plain run's step differs from it where a check starts

abbrev pub given : State → Frame → Answer
given s f = answered s.session (finished f) s.area

abbrev pub given_state : State → Frame → State
given_state s f = record { session = (given s f).session; area = area_after s.session (finished f) s.area }

abbrev pub given_reply : State → Frame → List (List ℕ)
given_reply s f = frames_of f.command (given s f).reply

-- where a run stands after a call that read c
abbrev pub landed : CallResult → Bool → Place → Place
landed c quieted p =
    record {
      at = record { reader = holding c.held; session = (state_after given_state given_reply c (state_of p)).session };
      area = (state_after given_state given_reply c (state_of p)).area;
      untaken = drop c.taken p.untaken;
      replies = p.replies ++ replies_of given_state given_reply c (state_of p);
      dropped = p.dropped + c.dropped;
      quieted = quieted;
    }

-- ---- the reply in the room

pub reply_in_lem : (reply : Option (List ℕ)) (command : ℕ) (room : List ℕ) → (is_some reply ≡ true → has_reply command ≡ true)
    → min_room ≤ length room
    → reply_in (reply_size_of reply command room) (reply_room_of reply command room) ≡ frames_of command reply
reply_in_lem None command room has wide = refl
reply_in_lem (Some d) command room has wide =
    simp (ne_eqb _ 0 (reply-some command d room (has refl) wide), reply-front command d room (has refl) wide)

finish-landed : (c : CallResult) (p : Place) (room : List ℕ) (quieted : Bool) → min_room ≤ length room
    → after (finished_call (handed_back c) p.at.session room p.area) own quieted p ≡ landed c quieted p
unfolding finished_call
finish-landed c p room quieted wide = go c.found refl
  where
    go : (b : Bool) → c.found ≡ b → after (finished_call (handed_back c) p.at.session room p.area) own quieted p ≡ landed c quieted p
    go true e =
        let a = answered p.at.session (finished c.frame) p.area in
        let has = replied-command p.at.session (finished c.frame) p.area in
        let y = reply_in_lem a.reply c.frame.command room
        (λ z. ap has_reply (sym (finished-command c.frame)) ∙ has z) wide in
        simp (e, finished-command c.frame, y)
    go false e = simp e

-- ---- a call that is refused changes nothing

unmoved : (quieted : Bool) (p : Place) → quieted ≡ p.quieted
    → record {
      at = p.at;
      area = p.area;
      untaken = p.untaken;
      replies = p.replies ++ [];
      dropped = p.dropped + 0;
      quieted = quieted;
    } ≡ p
unmoved quieted p e =
    let d : p.dropped + 0 ≡ p.dropped = omega arith in
    ap (λ (x : List (List ℕ)). record {
      at = p.at;
      area = p.area;
      untaken = p.untaken;
      replies = x;
      dropped = p.dropped + 0;
      quieted = quieted;
    }) (append-nil p.replies)
    ∙ ap₂ (λ (x : ℕ) (y : Bool). record {
      at = p.at;
      area = p.area;
      untaken = p.untaken;
      replies = p.replies;
      dropped = x;
      quieted = y;
    }) d e

refused-place : (k : Outcome) (room : List ℕ) (lends : Lent) (quieted : Bool) (p : Place) → quieted ≡ p.quieted
    → after (record { called = refused_call k p.at; room = room; area = lent lends p.area }) lends quieted p ≡ p
refused-place k room own quieted p e = unmoved quieted p e
refused-place k room (other memory) quieted p e = unmoved quieted p e

or_not : (a b : Bool) → (a || (b && false)) ≡ a
or_not true b = refl
or_not false true = refl
or_not false false = refl

pub calling_refused : (reads : Reader → Fed) (r : Record) (room area : List ℕ) → same_outcome (refusal_of r (length room) (length area)) accepted ≡ false
    → called_by reads r room area ≡ record { called = refused_call (refusal_of r (length room) (length area)) r; room = room; area = area }
unfolding called_by
calling_refused reads r room area e = rw e

pub calling_accepted : (reads : Reader → Fed) (r : Record) (room area : List ℕ) → same_outcome (refusal_of r (length room) (length area)) accepted ≡ true
    → called_by reads r room area ≡ finished_call (reads r.reader) r.session room area
unfolding called_by
calling_accepted reads r room area e = rw e

-- a call of the list that reads
abbrev pub lending : Call → List ℕ → Lent → Listed
lending k room lends = record { kind = line_call k; room = room; lends = lends }

-- the two kinds of it as one
pub leaves_by : (k : Call) (c : Listed) (p : Place)
    → leaves_of k c p ≡ called_by (fed_by k p.untaken) p.at c.room (lent c.lends p.area)
leaves_by (feeding n) c p = refl
leaves_by quiet c p = refl

pub next-refused : (k : Call) (room : List ℕ) (lends : Lent) (p : Place) → is_accepted (lending k room lends) p ≡ false
    → next (lending k room lends) p ≡ p
next-refused k room lends p e =
    let c = lending k room lends in
    let q = ap (λ (x : Bool). p.quieted || (is_quiet k && x)) e ∙ or_not p.quieted (is_quiet k) in
    ap (λ (x : CallLeaves). after x lends (p.quieted || (is_quiet k && is_accepted c p)) p)
    (leaves_by k c p ∙ calling_refused (fed_by k p.untaken) p.at room (lent lends p.area) e)
    ∙ refused-place (refusal_of p.at (length room) (length (lent lends p.area))) room lends
    (p.quieted || (is_quiet k && is_accepted c p)) p q

-- ---- a call that is not refused, on the area itself

abbrev pub on_own : Call → List ℕ → Listed
on_own c room = lending c room own

pub next-landed : (k : Call) (room : List ℕ) (p : Place) → is_accepted (on_own k room) p ≡ true
    → next (on_own k room) p ≡ landed (called k (held_of p) p.untaken) (p.quieted || (is_quiet k && is_accepted (on_own k room) p)) p
next-landed k room p e =
    let a = accepted-of p.at (length room) (length p.area) (same-true _ _ e) in
    let q = p.quieted || (is_quiet k && is_accepted (on_own k room) p) in
    ap (λ (x : CallLeaves). after x own q p)
    (leaves_by k (on_own k room) p ∙ calling_accepted (fed_by k p.untaken) p.at room p.area e)
    ∙ ap (λ (f : Fed). after (finished_call f p.at.session room p.area) own q p)
    (call-accepted k p.untaken p.at.reader (lawful_record p.at a.lawful).count)
    ∙ finish-landed (called k (held_of p) p.untaken) p room q a.wide
