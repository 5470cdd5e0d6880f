-- What every call of a run keeps: the plain run is what was replied, what is due, and what is still to come. Assumes nothing.
use mathlib.Core.Path.{◌≡◌, refl, sym, ap, ◌∙◌, subst}
use mathlib.Core.Bool.{Bool, true, false, cond, ◌&&◌, ◌||◌}
use mathlib.Core.Logic.{⊎_elim}
use mathlib.Core.List.{List, [], ◌++◌, append-nil, append_assoc}
use Prim.Native.Nat.{ℕ, ◌+◌, ◌≤◌, ◌<◌}
use native.Mathlib.Omega.{arith}
use borrow.Author.Tests.{eq-eqb}
use lib.ListN.{length, drop, length-take}
use lib.Seq.{drop-nil}
use Rattle.fronts.specs.Frame.{max_frame, Frame}
use Rattle.sequences.specs.Padding.{padded}
use Rattle.frames.specs.Finished.{finished}
use Rattle.frames.specs.LiveReading.{CallResult, Call, feeding, quiet, called, due}
use Rattle.sequences.proofs.Orders.{lt_or_le}
use Rattle.sequences.proofs.Conditionals.{of-both}
use Rattle.frames.proofs.Calls.{call-keeps, held-again}
use Rattle.frames.proofs.Remains.{Remains, state_after, replies_of, remains-called}
use Rattle.transfer.specs.declared.state.Transfer.{Transfer}
use Rattle.transfer.specs.declared.state.Step.{Step}
use Rattle.transfer.specs.Transfers.{with_check}
use Rattle.image.specs.Checks.{read_on}
use Rattle.ending.specs.Portions.{unread, will_say}
use Rattle.session.specs.declared.session.Session.{Session}
use Rattle.session.specs.declared.check.Checked.{Checked}
use Rattle.session.specs.Lawful.{unlawful}
use Rattle.session.specs.Checking.{refused_check, checked}
use Rattle.session.specs.Transfers.{with_transfer}
use Rattle.session.proofs.Kept.{answer_keeps, area-size}
use Rattle.session.proofs.Checks.{due_of, unended, finished-by}
use Rattle.commands.specs.Outcomes.{accepted, no_check_runs}
use Rattle.controller.specs.declared.record.Record.{Record}
use Rattle.commands.specs.Outcomes.{same_outcome}
use Rattle.controller.specs.Calls.{min_room, refusal_of}
use Rattle.controller.specs.Portions.{PortionLeaves, refused_portion, checked_portion, portion_call, CallKind, line_call, portion}
use Rattle.controller.specs.Demand3.{State, step_to, frames_of, reply_to, Lent, own, other, Listed, Place, lent, checking, is_accepted}
use Rattle.controller.specs.Demand3.{is_quiet, after_portion, next, Allowed}
use Rattle.controller.proofs.Refusals.{accepted-of}
use Rattle.controller.proofs.Steps.{state_of, held_of, given_state, given_reply, landed, on_own, next-refused, next-landed}
use Rattle.controller.proofs.Settling.{settled_state, due_reply, Good, verdict-reply, ended-still, landed_settled, landed-reply}
use Rattle.commands.proofs.Outcomes.{same-true}

pub given-good : (s : State) (f : Frame) → Good s → Good (given_state s f)
given-good s f g =
    let k = answer_keeps s.session (finished f) s.area g.lawful in
    record { lawful = k.lawful; size = area-size s.session (finished f) s.area ∙ g.size ∙ sym k.same-opened }

-- ---- a portion call

pub portion-refused : (most : ℕ) (r : Record) (room area : List ℕ) → same_outcome (refusal_of r (length room) (length area)) accepted ≡ false
    → portion_call most r room area ≡ record { called = refused_portion (refusal_of r (length room) (length area)) r; room = room }
unfolding portion_call
portion-refused most r room area e = rw e

pub portion-accepted : (most : ℕ) (r : Record) (room area : List ℕ) → same_outcome (refusal_of r (length room) (length area)) accepted ≡ true
    → portion_call most r room area ≡ checked_portion (checked r.session most area) r room
unfolding portion_call
portion-accepted most r room area e = rw e

-- outcome 18
pub no-check : (s : Session) (most : ℕ) (area : List ℕ) → unlawful s ≡ false → length area ≡ s.opened → s.transfer.check.running ≡ false
    → checked s most area ≡ refused_check no_check_runs s
unfolding checked
no-check s most area ok size still = rw (ok, eq-eqb (length area) s.opened size, still)

-- where a run stands with another transfer and some replies more
abbrev moved : Place → Transfer → List (List ℕ) → Place
moved p t more =
    record {
      at = record { reader = p.at.reader; session = with_transfer p.at.session t };
      area = p.area;
      untaken = p.untaken;
      replies = p.replies ++ more;
      dropped = p.dropped;
      quieted = p.quieted;
    }

unmoved : (p : Place) → moved p p.at.session.transfer [] ≡ p
unmoved p =
    ap (λ (x : List (List ℕ)). record {
      at = p.at;
      area = p.area;
      untaken = p.untaken;
      replies = x;
      dropped = p.dropped;
      quieted = p.quieted;
    }) (append-nil p.replies)

-- ---- what a running check is to the state

module _ (s : State) where
  pub running_settled : s.session.transfer.check.running ≡ true
      → settled_state s ≡ record { session = with_transfer s.session (due_of s.session s.area).transfer; area = s.area }
  running_settled e =
      ap (λ (x : Bool). cond x (record { session = with_transfer s.session (due_of s.session s.area).transfer; area = s.area })
      s) e

  running-due : s.session.transfer.check.running ≡ true
      → due_reply s ≡ frames_of 0xFE (due_of s.session s.area).reply
  running-due e = ap (λ (x : Bool). cond x (frames_of 0xFE (due_of s.session s.area).reply) []) e

  pub still_settled : s.session.transfer.check.running ≡ false → settled_state s ≡ s
  still_settled e =
      ap (λ (x : Bool). cond x (record { session = with_transfer s.session (due_of s.session s.area).transfer; area = s.area })
      s) e

  pub still-due : s.session.transfer.check.running ≡ false → due_reply s ≡ []
  still-due e = ap (λ (x : Bool). cond x (frames_of 0xFE (due_of s.session s.area).reply) []) e

module _ (s₀ : State) (fs : List Frame) (n : ℕ) where
  abbrev Left : List (List ℕ) → ℕ → State → List ℕ → List ℕ → Type 0
  Left so_far d s h r = Remains step_to reply_to s₀ fs n so_far d s h r

  pub record Keeps (p : Place) : Type 0 where
    pub good : Good (state_of p)
    pub count : p.at.reader.count ≤ max_frame
    pub remains : Left (p.replies ++ due_reply (state_of p)) p.dropped (settled_state (state_of p)) (held_of p) p.untaken
    pub after-quiet : p.quieted ≡ true → (p.untaken ≡ []) × (p.at.reader.held ≡ padded max_frame (held_of p))

  -- the same, of equal replies and states
  remains_as : {x y : List (List ℕ)} {d : ℕ} {s u : State} {h r : List ℕ} → x ≡ y → s ≡ u → Left x d s h r → Left y d u h r
  remains_as {x} {y} {d} {s} {u} {h} {r} e f m = subst (λ (z : State). Left y d z h r) f (subst (λ (w : List (List ℕ)). Left w d s h r) e m)

  -- while no check runs nothing is due
  pub still-remains : (p : Place) → Keeps p → checking p ≡ false → Left p.replies p.dropped (state_of p) (held_of p) p.untaken
  still-remains p k still =
      remains_as (ap (λ (x : List (List ℕ)). p.replies ++ x) (still-due (state_of p) still) ∙ append-nil p.replies)
      (still_settled (state_of p) still) k.remains

  -- ---- a call that reads

  landed-keeps : (c : CallResult) (quieted : Bool) (p : Place) → Keeps p → checking p ≡ false
      → length c.held ≤ max_frame
      → Left (p.replies ++ replies_of step_to reply_to c (state_of p)) (p.dropped + c.dropped) (state_after step_to reply_to c (state_of p))
      c.held (drop c.taken p.untaken)
      → (quieted ≡ true → drop c.taken p.untaken ≡ []) → Keeps (landed c quieted p)
  landed-keeps c quieted p k still small m q =
      let e = held-again c.held in
      let given = replies_of given_state given_reply c (state_of p) in
      let more = due_reply (state_of (landed c quieted p)) in
      record {
        good = of-both Good c.found (given_state (state_of p) c.frame) (state_of p) (given-good (state_of p) c.frame k.good)
            k.good;
        count = small;
        remains =
            subst (λ (x : List ℕ). Left ((p.replies ++ given) ++ more) (p.dropped + c.dropped)
            (settled_state (state_of (landed c quieted p))) x (drop c.taken p.untaken)) (sym e)
            (remains_as (ap (λ (x : List (List ℕ)). p.replies ++ x) (sym (landed-reply c quieted p k.good still))
            ∙ sym (append_assoc p.replies given more))
            (sym (landed_settled c quieted p k.good still)) m);
        after-quiet = λ t. (q t, ap (padded max_frame) (sym e));
      }

  -- once quiet came, nothing is left to take
  none_left : (k : Call) (a : Bool) (p : Place) (t : ℕ) → Keeps p → due k p.untaken → (p.quieted || (is_quiet k && a)) ≡ true
      → drop t p.untaken ≡ []
  none_left (feeding m) a p t i u q = ap (drop t) (i.after-quiet (sym (or_false p.quieted) ∙ q)).0 ∙ drop-nil t
    where
      or_false : (b : Bool) → (b || false) ≡ b
      or_false true = refl
      or_false false = refl
  none_left quiet a p t i u q = ap (drop t) u ∙ drop-nil t

  landed-call : (k : Call) (room : List ℕ) (p : Place) → Keeps p → is_accepted (on_own k room) p ≡ true → due k p.untaken
      → checking p ≡ false → Keeps (next (on_own k room) p)
  landed-call k room p i e u still =
      let h = held_of p in
      let r = p.untaken in
      let c = called k h r in
      let keeps = call-keeps k h r in
      let m = still-remains p i still in
      subst Keeps (sym (next-landed k room p e))
      (landed-keeps c (p.quieted || (is_quiet k && is_accepted (on_own k room) p)) p i still
      (keeps.small (omega (arith, length-take p.at.reader.count p.at.reader.held, i.count)))
      (remains-called step_to reply_to k h r u m)
      (none_left k (is_accepted (on_own k room) p) p c.taken i u))

  -- ---- a portion

  -- another transfer, with replies and state that come to the same
  moved_keeps : (p : Place) (t : Transfer) (more : List (List ℕ)) → Keeps p → unlawful (with_transfer p.at.session t) ≡ false
      → due_reply (state_of p) ≡ more ++ due_reply (state_of (moved p t more))
      → settled_state (state_of p) ≡ settled_state (state_of (moved p t more)) → Keeps (moved p t more)
  moved_keeps p t more k ok e f =
      record {
        good = record { lawful = ok; size = k.good.size };
        count = k.count;
        remains =
            remains_as (ap (λ (x : List (List ℕ)). p.replies ++ x) e
            ∙ sym (append_assoc p.replies more (due_reply (state_of (moved p t more))))) f k.remains;
        after-quiet = k.after-quiet;
      }

  module _ (most : ℕ) (room : List ℕ) (p : Place) (k : Keeps p) (wide : min_room ≤ length room) where
    abbrev s : Session
    s = p.at.session

    abbrev after : Place
    after = after_portion (checked_portion (checked s most p.area) p.at room) p

    -- by what the session's part is
    after_is : (c : Checked) → checked s most p.area ≡ c → after ≡ after_portion (checked_portion c p.at room) p
    after_is c e = ap (λ (x : Checked). after_portion (checked_portion x p.at room) p) e

    unchecked-keeps : checking p ≡ false → Keeps after
    unchecked-keeps still = subst Keeps (sym (after_is _ (no-check s most p.area k.good.lawful k.good.size still) ∙ unmoved p)) k

    unended-keeps : checking p ≡ true → most < unread s.transfer → Keeps after
    unended-keeps runs h =
        let x = unended s most p.area k.good.lawful k.good.size runs h in
        let t = with_check s.transfer (read_on s.transfer.check most p.area) in
        let u : State = record { session = with_transfer s t; area = p.area } in
        subst Keeps (sym (after_is _ x.is))
        (moved_keeps p t [] k x.lawful-on
        (running-due (state_of p) runs ∙ ap (λ (y : Step). frames_of 0xFE y.reply) (sym x.same-due)
        ∙ sym (running-due u runs))
        (running_settled (state_of p) runs ∙ ap (λ (y : Step). record { session = with_transfer s y.transfer; area = p.area })
        (sym x.same-due) ∙ sym (running_settled u runs)))

    ended-keeps : checking p ≡ true → unread s.transfer ≤ most → Keeps after
    ended-keeps runs h =
        let x = finished-by s most p.area k.good.lawful k.good.size runs h in
        let d = due_of s p.area in
        let still = ended-still s.transfer (will_say s.transfer p.area) in
        let u : State = record { session = with_transfer s d.transfer; area = p.area } in
        let more = frames_of 0xFE d.reply in
        let replies = verdict-reply s.transfer (will_say s.transfer p.area) room wide in
        subst Keeps
        (sym (after_is _ x.is
        ∙ ap (λ (y : List (List ℕ)). record {
          at = record { reader = p.at.reader; session = with_transfer s d.transfer };
          area = p.area;
          untaken = p.untaken;
          replies = p.replies ++ y;
          dropped = p.dropped;
          quieted = p.quieted;
        }) replies))
        (moved_keeps p d.transfer more k x.lawful-after
        (running-due (state_of p) runs ∙ sym (ap (λ (y : List (List ℕ)). more ++ y) (still-due u still) ∙ append-nil more))
        (running_settled (state_of p) runs ∙ sym (still_settled u still)))

    checked-keeps : Keeps after
    checked-keeps = go (checking p) refl
      where
        go : (b : Bool) → checking p ≡ b → Keeps after
        go false e = unchecked-keeps e
        go true e = ⊎_elim (unended-keeps e) (ended-keeps e) (lt_or_le most (unread s.transfer))

  -- ---- any call

  accepted-keeps : (kind : CallKind) (room : List ℕ) (lends : Lent) (p : Place) → Keeps p
      → Allowed (record { kind = kind; room = room; lends = lends }) p
      → is_accepted (record { kind = kind; room = room; lends = lends }) p ≡ true
      → Keeps (next (record { kind = kind; room = room; lends = lends }) p)
  accepted-keeps (line_call k) room own p i a e = landed-call k room p i e (a.1 e).0 (a.1 e).1
  accepted-keeps (portion most) room own p i a e =
      subst Keeps (sym (ap (λ (x : PortionLeaves). after_portion x p) (portion-accepted most p.at room p.area e)))
      (checked-keeps most room p i (accepted-of p.at (length room) (length p.area) (same-true _ _ e)).wide)
  -- memory of another length is refused
  accepted-keeps kind room (other memory) p i a e =
      absurd (a.0 ((accepted-of p.at (length room) (length memory) (same-true _ _ e)).size ∙ sym i.good.size))

  refused-keeps : (kind : CallKind) (room : List ℕ) (lends : Lent) (p : Place) → Keeps p
      → is_accepted (record { kind = kind; room = room; lends = lends }) p ≡ false
      → Keeps (next (record { kind = kind; room = room; lends = lends }) p)
  refused-keeps (line_call k) room lends p i e = subst Keeps (sym (next-refused k room lends p e)) i
  refused-keeps (portion most) room lends p i e =
      subst Keeps (sym (ap (λ (x : PortionLeaves). after_portion x p) (portion-refused most p.at room (lent lends p.area) e)
      ∙ unmoved p)) i

  pub next-keeps : (c : Listed) (p : Place) → Keeps p → Allowed c p → Keeps (next c p)
  next-keeps c p i a = go (is_accepted c p) refl
    where
      go : (b : Bool) → is_accepted c p ≡ b → Keeps (next c p)
      go true e = accepted-keeps c.kind c.room c.lends p i a e
      go false e = refused-keeps c.kind c.room c.lends p i e
