-- While an end check runs: feeding and quiet leave it as it is, and which calls are refused. Assumes nothing.
use mathlib.Core.Path.{◌≡◌, refl, sym, ap, ◌∙◌, subst}
use mathlib.Core.Bool.{Bool, true, false, not}
use mathlib.Core.List.{List}
use Rattle.std.specs.Prelude.{Option}
use Prim.Native.Nat.{ℕ, ◌≤◌}
use native.Mathlib.Omega.{arith}
use lib.Dec.{ltb, eqb}
use lib.ListN.{length, length-take}
use Rattle.frames.specs.declared.reader.Fed.{Fed}
use Rattle.fronts.specs.Frame.{max_frame}
use Rattle.frames.specs.Finished.{finished}
use Rattle.frames.specs.LiveReading.{CallResult, Call, called, fed_by, held_bytes, handed_back}
use Rattle.frames.proofs.Calls.{call-accepted, call-keeps}
use Rattle.sequences.proofs.Conditionals.{of-both}
use Rattle.session.specs.declared.session.Session.{Session}
use Rattle.transfer.specs.Transfers.{Effect}
use Rattle.session.specs.declared.answer.Answer.{Answer}
use Rattle.commands.specs.declared.outcome.Outcome.{Outcome}
use Rattle.commands.specs.Outcomes.{accepted, check_runs}
use Rattle.session.specs.Lawful.{unlawful}
use Rattle.session.specs.Answering.{answered}
use Rattle.session.proofs.Checks.{running-same, running-answers, still-answers}
use Rattle.controller.specs.declared.record.Record.{Record}
use Rattle.controller.specs.declared.call.Called.{Called}
use Rattle.commands.specs.Outcomes.{same_outcome}
use Rattle.controller.specs.Records.{unlawful_record, is_checking}
use Rattle.controller.specs.Calls.{min_room, refusal_of, CallLeaves, reply_size_of, reply_room_of, answered_call, finished_call, called_by}
use Rattle.controller.specs.CheckCourse.{Later, lends_enough, LeavesCheck, WhileChecking, FrameMeetsCheck, OnlyWhileChecking}
use Rattle.controller.proofs.Refusals.{lawful_record, record_accepted, accepted-of}
use Rattle.controller.proofs.Steps.{calling_refused, calling_accepted}
use Rattle.commands.proofs.Outcomes.{same-true, is-same}
use Rattle.commands.proofs.Outcomes.{same-false}

-- a lawful record refuses a call exactly where it does not lend enough
pub enough : (r : Record) (c : Later) → unlawful_record r ≡ false
    → same_outcome (refusal_of r (length c.room) (length c.memory)) accepted ≡ lends_enough r.session.opened c
unfolding refusal_of
enough r c ok = go (eqb (length c.memory) r.session.opened) (ltb (length c.room) min_room) refl refl
  where
    go : (a b : Bool) → eqb (length c.memory) r.session.opened ≡ a → ltb (length c.room) min_room ≡ b
        → same_outcome (refusal_of r (length c.room) (length c.memory)) accepted ≡ lends_enough r.session.opened c
    go true true ea eb = simp (ok, ea, eb)
    go true false ea eb = simp (ok, ea, eb)
    go false b ea eb = simp (ok, ea)

-- ---- feeding and quiet

-- the record stays lawful, too
pub record LeavesLawful (r : Record) (room memory : List ℕ) (x : CallLeaves) : Type 0 where
  pub leaves : LeavesCheck r room memory x
  pub lawful-next : unlawful_record x.called.next ≡ false

finished-leaves : (call : Call) (untaken : List ℕ) (r : Record) (room memory : List ℕ) → unlawful_record r ≡ false → is_checking r ≡ true
    → LeavesLawful r room memory (finished_call (handed_back (called call (held_bytes r.reader) untaken)) r.session room memory)
unfolding finished_call
finished-leaves call untaken r room memory ok runs = go x.found refl
  where
    x : CallResult
    x = called call (held_bytes r.reader) untaken

    small : length x.held ≤ max_frame
    small =
        (call-keeps call (held_bytes r.reader) untaken).small
        (omega (arith, length-take r.reader.count r.reader.held, (lawful_record r ok).count))

    go : (b : Bool) → x.found ≡ b → LeavesLawful r room memory (finished_call (handed_back x) r.session room memory)
    go true e =
        let s = r.session in
        let f = finished x.frame in
        let y = running-same s f memory runs in
        rw e
        (record {
          leaves =
              record {
                same-session = y.same-session;
                no-reply = ap (λ (x : Option (List ℕ)). reply_size_of x f.command room) y.no-reply;
                same-room = ap (λ (x : Option (List ℕ)). reply_room_of x f.command room) y.no-reply;
                same_memory = y.same_area;
              };
          lawful-next = record_accepted _
              (record {
                count = small;
                session = subst (λ (u : Session). unlawful u ≡ false) (sym y.same-session)
                    (lawful_record r ok).session;
              });
        })
    go false e =
        rw e
        (record {
          leaves = record { same-session = refl; no-reply = refl; same-room = refl; same_memory = refl };
          lawful-next = record_accepted _ (record { count = small; session = (lawful_record r ok).session });
        })

-- by whether the call is refused
module _ (call : Call) (untaken : List ℕ) (r : Record) (room memory : List ℕ) where
  abbrev y : CallLeaves
  y = called_by (fed_by call untaken) r room memory

  abbrev code : Bool
  code = same_outcome (refusal_of r (length room) (length memory)) accepted

  refused-leaves : code ≡ false → LeavesCheck r room memory y
  refused-leaves e =
      subst (LeavesCheck r room memory) (sym (calling_refused (fed_by call untaken) r room memory e))
      (record { same-session = refl; no-reply = refl; same-room = refl; same_memory = refl })

  accepted-leaves : code ≡ true → is_checking r ≡ true → LeavesLawful r room memory y
  accepted-leaves e runs =
      let ok = (accepted-of r (length room) (length memory) (same-true _ _ e)).lawful in
      subst (LeavesLawful r room memory)
      (sym (calling_accepted (fed_by call untaken) r room memory e
      ∙ ap (λ (f : Fed). finished_call f r.session room memory) (call-accepted call untaken r.reader (lawful_record r ok).count)))
      (finished-leaves call untaken r room memory ok runs)

  pub reading-leaves : unlawful_record r ≡ false → is_checking r ≡ true → LeavesLawful r room memory y
  reading-leaves ok runs = go code refl
    where
      go : (b : Bool) → code ≡ b → LeavesLawful r room memory y
      go false e =
          record {
            leaves = refused-leaves e;
            lawful-next =
                subst (λ (x : CallLeaves). unlawful_record x.called.next ≡ false)
                (sym (calling_refused (fed_by call untaken) r room memory e)) ok;
          }
      go true e = accepted-leaves e runs

pub while_checking : WhileChecking
while_checking call untaken r room memory runs = go (same_outcome (refusal_of r (length room) (length memory)) accepted) refl
  where
    go : (b : Bool) → same_outcome (refusal_of r (length room) (length memory)) accepted ≡ b
        → LeavesCheck r room memory (called_by (fed_by call untaken) r room memory)
    go false e = refused-leaves call untaken r room memory e
    go true e = (accepted-leaves call untaken r room memory e runs).leaves

-- ---- what a frame meets

-- a call that is not refused and found a frame, by its answer
found-answers : (call : Call) (untaken : List ℕ) (r : Record) (room area : List ℕ) → refusal_of r (length room) (length area) ≡ accepted
    → (fed_by call untaken r.reader).found ≡ true
    → let f = fed_by call untaken r.reader in (called_by (fed_by call untaken) r room area).called ≡ answered_call f
    (answered r.session f.frame area) room
unfolding finished_call
found-answers call untaken r room area ok found =
    ap (λ (y : CallLeaves). y.called) (calling_accepted (fed_by call untaken) r room area (is-same _ _ ok)) ∙ rw found

pub frame-meets-check : FrameMeetsCheck
frame-meets-check call untaken r room area ok runs found =
    let f = fed_by call untaken r.reader in
    let a = accepted-of r (length room) (length area) ok in
    ap (λ (c : Called). c.outcome) (found-answers call untaken r room area ok found)
    ∙ ap (λ (w : Effect Answer). w.gives.outcome)
    (running-answers r.session f.frame area (lawful_record r a.lawful).session a.size runs)

-- a refusal is 9, 6 or 5
not_twelve : (r : Record) (room area : ℕ) → refusal_of r room area ≡ check_runs → ⊥
unfolding refusal_of
not_twelve r room area =
    let P : Outcome → Type 0 = λ n. n ≡ check_runs → ⊥ in
    of-both P (unlawful_record r) _ _ (same-false _ _ refl)
    (of-both P (not (eqb area r.session.opened)) _ _ (same-false _ _ refl)
    (of-both P (ltb room min_room) _ _ (same-false _ _ refl) (same-false _ _ refl)))

pub only_while_checking : OnlyWhileChecking
unfolding finished_call
only_while_checking call untaken r room area twelve = by_code (same_outcome code accepted) refl
  where
    f : Fed
    f = fed_by call untaken r.reader

    code : Outcome
    code = refusal_of r (length room) (length area)

    outcome : (w : CallLeaves) → called_by (fed_by call untaken) r room area ≡ w → w.called.outcome ≡ check_runs
    outcome w e = ap (λ (x : CallLeaves). x.called.outcome) (sym e) ∙ twelve

    runs : (b : Bool) → is_checking r ≡ b → f.found ≡ true → (finished_call f r.session room area).called.outcome ≡ check_runs
        → is_checking r ≡ true
    runs true e found = λ _. e
    runs false e found = rw found (λ z. absurd (still-answers r.session f.frame area e z))

    by-found : (b : Bool) → f.found ≡ b → (finished_call f r.session room area).called.outcome ≡ check_runs
        → (f.found ≡ true) × (is_checking r ≡ true)
    by-found true e = λ z. (e, runs (is_checking r) refl e z)
    by-found false e = rw e (λ z. absurd (same-false _ _ refl z))

    by_code : (b : Bool) → same_outcome code accepted ≡ b → (code ≡ accepted) × ((f.found ≡ true) × (is_checking r ≡ true))
    by_code false e = absurd (not_twelve r (length room) (length area) (outcome _ (calling_refused (fed_by call untaken) r room area e)))
    by_code true e = (same-true _ _ e, by-found f.found refl (outcome _ (calling_accepted (fed_by call untaken) r room area e)))
