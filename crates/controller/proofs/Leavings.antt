-- What each outcome leaves. Assumes nothing.
use mathlib.Core.Path.{◌≡◌, refl, sym, ap, ◌∙◌, subst}
use mathlib.Core.Bool.{Bool, true, false}
use mathlib.Core.Logic.{⊎_elim}
use mathlib.Core.List.{List}
use Prim.Native.Nat.{ℕ}
use lib.ListN.{length}
use Rattle.frames.specs.declared.reader.Fed.{Fed}
use Rattle.frames.specs.Finished.{finished}
use Rattle.frames.specs.LiveReading.{CallResult, Call, called, fed_by, held_bytes, handed_back}
use Rattle.frames.proofs.Calls.{call-accepted}
use Rattle.session.specs.Answering.{answered}
use Rattle.session.proofs.Unanswered.{NoRefusal, nothing_changed, answer_accepts}
use Rattle.commands.specs.declared.outcome.Outcome.{Outcome}
use Rattle.commands.specs.Outcomes.{accepted, no_frame_yet}
use Rattle.controller.specs.declared.record.Record.{Record}
use Rattle.commands.specs.Outcomes.{same_outcome}
use Rattle.controller.specs.Calls.{refusal_of, refused_call, finished_call, called_by}
use Rattle.controller.specs.Leaving.{IsRefusal, Refuses, OutcomesLeave, Leaving}
use Rattle.controller.proofs.Refusals.{lawful_record, Accepted, accepted-of, refusal_is, code-refuses, none-refuses}
use Rattle.controller.proofs.Steps.{calling_refused, calling_accepted}
use Rattle.commands.proofs.Outcomes.{same-true, same-false}
use Rattle.commands.proofs.Outcomes.{same-false}

-- ---- refused

refused-leaves : (c : Call) (rest : List ℕ) (r : Record) (room area : List ℕ) (k : Outcome) → k ≡ refusal_of r (length room) (length area)
    → IsRefusal k
    → OutcomesLeave c rest r room area (record { called = refused_call k r; room = room; area = area })
refused-leaves c rest r room area k e bad =
    record {
      refuses = subst (Refuses r room area) (sym e) (code-refuses r room area);
      refused = λ z. record { gives = refl; same-room = refl; same_area = refl };
      holds = λ n. absurd (n bad);
      unanswered = λ n _. absurd (n bad);
    }

-- ---- not refused

no-refusal-of : (n : Outcome) → NoRefusal n → IsRefusal n → ⊥
no-refusal-of n p q = ⊎_elim p.0 (λ w. ⊎_elim p.1.0 p.1.1 w) q

finished-leaves : (c : Call) (rest : List ℕ) (r : Record) (room area : List ℕ) → Accepted r (length room) (length area)
    → OutcomesLeave c rest r room area (finished_call (handed_back (called c (held_bytes r.reader) rest)) r.session room area)
unfolding finished_call
finished-leaves c rest r room area ok = go x.found refl
  where
    x : CallResult
    x = called c (held_bytes r.reader) rest

    none : (n : Outcome) → NoRefusal n → Refuses r room area n
    none n p = none-refuses r room area n ok p

    go : (b : Bool) → x.found ≡ b → OutcomesLeave c rest r room area (finished_call (handed_back x) r.session room area)
    go true e =
        let s = r.session in
        let f = finished x.frame in
        let p = answer_accepts s f area (lawful_record r ok.lawful).session ok.size in
        rw e
        (record {
          refuses = none (answered s f area).outcome p;
          refused = λ z. absurd (no-refusal-of _ p z);
          holds = λ _. refl;
          unanswered = λ _ n.
              let same = nothing_changed s f area n in
              record {
                no-reply = rw same.no-reply;
                same-session = same.session;
                same-room = rw same.no-reply;
                same_area = same.same_area;
              };
        })
    go false e =
        let p : NoRefusal no_frame_yet = (same-false _ _ refl, (same-false _ _ refl, same-false _ _ refl)) in
        rw e
        (record {
          refuses = none no_frame_yet p;
          refused = λ z. absurd (no-refusal-of no_frame_yet p z);
          holds = λ _. refl;
          unanswered = λ _ _. record { no-reply = refl; same-session = refl; same-room = refl; same_area = refl };
        })

pub leaving : Leaving
leaving c rest r room area = go (same_outcome (refusal_of r (length room) (length area)) accepted) refl
  where
    go : (b : Bool) → same_outcome (refusal_of r (length room) (length area)) accepted ≡ b
        → OutcomesLeave c rest r room area (called_by (fed_by c rest) r room area)
    go false e =
        let k = refusal_of r (length room) (length area) in
        subst (OutcomesLeave c rest r room area) (sym (calling_refused (fed_by c rest) r room area e))
        (refused-leaves c rest r room area k refl (refusal_is r (length room) (length area) (same-false _ _ e)))
    go true e =
        let a = accepted-of r (length room) (length area) (same-true _ _ e) in
        subst (OutcomesLeave c rest r room area)
        (sym (calling_accepted (fed_by c rest) r room area e
        ∙ ap (λ (f : Fed). finished_call f r.session room area) (call-accepted c rest r.reader (lawful_record r a.lawful).count)))
        (finished-leaves c rest r room area a)
