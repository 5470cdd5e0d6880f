-- Demand 3: by induction over the list of calls. Assumes nothing.
use mathlib.Core.Path.{◌≡◌, sym, ap, ap₂, ◌∙◌, subst}
use mathlib.Core.List.{List, [], ◌∷◌, ◌++◌, append_assoc}
use Prim.Native.Nat.{ℕ}
use native.Mathlib.Omega.{arith}
use lib.ListN.{take}
use Rattle.sequences.specs.Bytes.{Bytes}
use Rattle.fronts.specs.Frame.{max_frame, Frame}
use Rattle.sequences.specs.Padding.{padded}
use Rattle.frames.specs.Reading.{Reading, reading}
use Rattle.frames.specs.Series.{Series}
use Rattle.frames.specs.PlainRun.{plain, Begins}
use Rattle.frames.proofs.Readings.{series-read}
use Rattle.frames.proofs.Remains.{Remains, remains-start, remains-first, remains-none}
use Rattle.controller.specs.declared.record.Record.{Record}
use Rattle.controller.specs.Records.{holding_nothing}
use Rattle.controller.specs.Demand3.{State, step_to, reply_to, plain_run, Listed, Place, next, run, AllAllowed, RunStart}
use Rattle.controller.specs.Demand3.{start, Ended, AsPlainRun, StrayFree, EqualAtEnd}
use Rattle.controller.proofs.Refusals.{lawful_record}
use Rattle.controller.proofs.Steps.{state_of, held_of}
use Rattle.controller.proofs.Settling.{settled_state, due_reply}
use Rattle.controller.proofs.Keeping.{Keeps, still_settled, still-due, still-remains, next-keeps}

abbrev pub start_state : Record → List ℕ → State
start_state r area = record { session = r.session; area = area }

-- before the first call, whatever the bytes
pub start-keeps : (r : Record) (area b : List ℕ) → RunStart r area → Bytes b
    → Keeps (start_state r area) (reading b).frames (reading b).dropped (start r area b)
start-keeps r area b o q =
    let e : [] ≡ take r.reader.count r.reader.held = sym (ap (λ (k : ℕ). take k r.reader.held) o.nothing-held) in
    record {
      good = record { lawful = (lawful_record r o.lawful).session; size = o.size };
      count = omega (arith, o.nothing-held);
      remains =
          subst (λ (y : List (List ℕ)). Remains step_to reply_to (start_state r area) (reading b).frames (reading b).dropped y 0
          (settled_state (start_state r area)) (held_of (start r area b)) b)
          (sym (still-due (start_state r area) o.no-check))
          (subst (λ (u : State). Remains step_to reply_to (start_state r area) (reading b).frames (reading b).dropped [] 0 u
          (held_of (start r area b)) b)
          (sym (still_settled (start_state r area) o.no-check))
          (subst (λ (x : List ℕ). Remains step_to reply_to (start_state r area) (reading b).frames (reading b).dropped [] 0
          (start_state r area) x b) e
          (remains-start step_to reply_to (start_state r area) b q)));
      after-quiet = λ t. let z : ◌≡◌ {A = ℕ} 0 1 = cc in absurd (omega arith);
    }

pub run-keeps : (s₀ : State) (fs : List Frame) (n : ℕ) (cs : List Listed) (p : Place) → Keeps s₀ fs n p → AllAllowed cs p
    → Keeps s₀ fs n (run cs p)
run-keeps s₀ fs n [] p k f = k
run-keeps s₀ fs n (c ∷ cs) p k f = run-keeps s₀ fs n cs (next c p) (next-keeps s₀ fs n c p k f.0) f.1

-- what begins with more begins with less
begins-less : (xs more ys : List (List ℕ)) → Begins (xs ++ more) ys → Begins xs ys
begins-less xs more ys b = record { rest = more ++ b.rest; joined = sym (append_assoc xs more b.rest) ∙ b.joined }

stray-free : (s₀ : State) (fs : List Frame) (n : ℕ) (p : Place) → Keeps s₀ fs n p → StrayFree (plain step_to reply_to s₀ fs) n p
stray-free s₀ fs n p k =
    record { so_far = begins-less p.replies (due_reply (state_of p)) _ (remains-first step_to reply_to k.remains); at_end = λ e. ends e }
  where
    ends : Ended p → AsPlainRun (plain step_to reply_to s₀ fs) n p
    ends e =
        let none : held_of p ≡ [] = ap (λ (i : ℕ). take i p.at.reader.held) e.nothing-held in
        let y = k.after-quiet e.quiet_came in
        let r1 = subst (λ (x : List ℕ). Remains step_to reply_to s₀ fs n p.replies p.dropped (state_of p) x p.untaken) none
        (still-remains s₀ fs n p k e.no-check) in
        let r2 = subst (λ (x : List ℕ). Remains step_to reply_to s₀ fs n p.replies p.dropped (state_of p) [] x) y.0 r1 in
        let w = remains-none step_to reply_to r2 in
        let zeros : p.at.reader.held ≡ padded max_frame [] = y.1 ∙ ap (padded max_frame) none in
        record {
          same-replies = sym w.1.0;
          same_area = sym (ap (λ (s : State). s.area) w.0);
          same_record =
              ap₂ (λ (h : List ℕ) (i : ℕ). record { reader = record { held = h; count = i }; session = p.at.session }) zeros
              e.nothing-held
              ∙ ap holding_nothing (sym (ap (λ (s : State). s.session) w.0));
          all-dropped = sym w.1.1;
        }

-- whatever the bytes: a run is as the plain run of the frames that the whole sequence reads as
pub every-run : (r : Record) (area : List ℕ) → RunStart r area → (b : List ℕ) → Bytes b → (cs : List Listed)
    → AllAllowed cs (start r area b)
    → StrayFree (plain_run r area (reading b).frames) (reading b).dropped (run cs (start r area b))
every-run r area o b q cs f =
    stray-free (start_state r area) (reading b).frames (reading b).dropped (run cs (start r area b))
    (run-keeps (start_state r area) (reading b).frames (reading b).dropped cs (start r area b) (start-keeps r area b o q) f)

pub strays_cost_nothing : (r : Record) (area : List ℕ) → RunStart r area → {b : List ℕ} {fs : List Frame} {n : ℕ} → Series b fs n → Bytes b
    → (cs : List Listed) → AllAllowed cs (start r area b) → StrayFree (plain_run r area fs) n (run cs (start r area b))
strays_cost_nothing r area o {b} {fs} {n} series q cs f =
    subst (λ (x : Reading). StrayFree (plain_run r area x.frames) x.dropped (run cs (start r area b))) (series-read series)
    (every-run r area o b q cs f)

pub other-strays :
    (r : Record) (area : List ℕ) → RunStart r area → {b b' : List ℕ} {fs : List Frame} {n n' : ℕ} → Series b fs n → Bytes b
    → Series b' fs n' → Bytes b'
    → (cs cs' : List Listed) → AllAllowed cs (start r area b) → AllAllowed cs' (start r area b')
    → Ended (run cs (start r area b)) → Ended (run cs' (start r area b')) → EqualAtEnd (run cs (start r area b)) (run cs' (start r area b'))
other-strays r area o s q s' q' cs cs' f f' e e' =
    let x = (strays_cost_nothing r area o s q cs f).at_end e in
    let y = (strays_cost_nothing r area o s' q' cs' f').at_end e' in
    record {
      replies = x.same-replies ∙ sym y.same-replies;
      area = x.same_area ∙ sym y.same_area;
      record_at_end = x.same_record ∙ sym y.same_record;
    }
