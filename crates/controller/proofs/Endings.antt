-- Every byte sequence can be run to its end: feed until all is taken, then tell quiet until nothing is held, and finish each check by one
-- portion. Assumes nothing.
use mathlib.Core.Path.{◌≡◌, refl, ap, ◌∙◌}
use mathlib.Core.Bool.{Bool, true, false, cond, ◌||◌}
use mathlib.Core.List.{List, [], ◌∷◌}
use Prim.Native.Nat.{ℕ, zero, suc, ◌+◌, ◌<◌}
use native.Mathlib.Omega.{arith}
use lib.Dec.{lit≤}
use lib.ListN.{length, take, drop, length-drop}
use lib.Seq.{drop-nil, take-length, drop-length}
use Rattle.frames.specs.declared.reader.Reader.{Reader}
use Rattle.sequences.specs.Bytes.{Bytes}
use Rattle.fronts.specs.Frame.{Frame}
use Rattle.sequences.specs.Padding.{zeros}
use Rattle.frames.specs.Reading.{reading}
use Rattle.frames.specs.LiveReading.{CallResult, Call, feeding, quiet, called, held_bytes}
use Rattle.frames.proofs.Calls.{call-keeps, held-again, quiet-emptied}
use Rattle.ending.specs.Portions.{unread, will_say}
use Rattle.session.specs.declared.check.Checked.{Checked}
use Rattle.session.proofs.Checks.{finished-by}
use Rattle.commands.specs.Outcomes.{accepted}
use Rattle.controller.specs.Calls.{min_room}
use Rattle.controller.specs.declared.record.Record.{Record}
use Rattle.controller.specs.Portions.{PortionLeaves, checked_portion, CallKind, line_call, portion}
use Rattle.controller.specs.Demand3.{State, own, Listed, Place, checking, is_accepted, after_portion, next, Allowed, RunStart}
use Rattle.controller.specs.Demand3.{start, run, AllAllowed, Ending, Demand3}
use Rattle.controller.proofs.Refusals.{record_accepted, accepts}
use Rattle.controller.proofs.Steps.{state_of, held_of, given_state, landed, on_own, next-landed}
use Rattle.controller.proofs.Settling.{ended-still}
use Rattle.controller.proofs.Keeping.{Keeps, portion-accepted, next-keeps}
use Rattle.controller.proofs.StrayBytes.{start_state, start-keeps, run-keeps, strays_cost_nothing, other-strays}
use Rattle.commands.proofs.Outcomes.{is-same}

-- a room that is wide enough
abbrev room : List ℕ
room = zeros min_room

or_true : (b : Bool) → (b || true) ≡ true
or_true true = refl
or_true false = refl

module _ (s₀ : State) (fs : List Frame) (n : ℕ) where
  is-accepted : (k : CallKind) (p : Place) → Keeps s₀ fs n p → is_accepted (record { kind = k; room = room; lends = own }) p ≡ true
  is-accepted k p i =
      is-same _ accepted
      (accepts p.at (length room) (length p.area)
      (record {
        lawful = record_accepted p.at (record { count = i.count; session = i.good.lawful });
        size = i.good.size;
        wide = lit≤ tt;
      }))

  -- a running check is finished first; then the run goes on
  rest_then : (p : Place) → Keeps s₀ fs n p
      → ((q : Place) → Keeps s₀ fs n q → checking q ≡ false → q.at.reader ≡ p.at.reader → q.untaken ≡ p.untaken
      → q.quieted ≡ p.quieted → Ending q) → Ending p
  rest_then p i on = go (checking p) refl
    where
      most : ℕ
      most = unread p.at.session.transfer

      m : Listed
      m = record { kind = portion most; room = room; lends = own }

      go : (b : Bool) → checking p ≡ b → Ending p
      go false e = on p i e refl refl refl
      go true e =
          let s = p.at.session in
          let x = finished-by s most p.area i.good.lawful i.good.size e (omega arith) in
          let is = ap (λ (y : PortionLeaves). after_portion y p)
          (portion-accepted most p.at room p.area (is-accepted (portion most) p i)
          ∙ ap (λ (c : Checked). checked_portion c p.at room) x.is) in
          let still = ap checking is ∙ ended-still s.transfer (will_say s.transfer p.area) in
          let g = on (next m p) (next-keeps s₀ fs n m p i (tt, λ _. tt)) still (ap (λ (q : Place). q.at.reader) is) refl refl in
          record { calls = m ∷ g.calls; rules = ((tt, λ _. tt), g.rules); ended = g.ended }

  quiet-out : (k : ℕ) (p : Place) → Keeps s₀ fs n p → checking p ≡ false → p.untaken ≡ [] → length (held_of p) < k → Ending p
  quiet-out zero p i still z h = absurd (omega arith)
  quiet-out (suc k) p i still z h = go (quiet-out k) c.found refl
    where
      c : CallResult
      c = called quiet (held_of p) p.untaken

      m : Listed
      m = on_own quiet room

      yes : is_accepted m p ≡ true
      yes = is-accepted (line_call quiet) p i

      e : next m p ≡ landed c (p.quieted || is_accepted m p) p
      e = next-landed quiet room p yes

      ok : Allowed m p
      ok = (tt, λ x. (z, still))

      go : ((q : Place) → Keeps s₀ fs n q → checking q ≡ false → q.untaken ≡ [] → length (held_of q) < k → Ending q) → (b : Bool)
          → c.found ≡ b → Ending p
      go ih true f =
          let w = call-keeps quiet (held_of p) p.untaken in
          let used = w.found f in
          let none = w.within in
          let x : held_of (next m p) ≡ c.held = ap held_of e ∙ held-again c.held in
          let y : (next m p).untaken ≡ [] = ap (λ (q : Place). q.untaken) e ∙ ap (drop c.taken) z ∙ drop-nil c.taken in
          let less : length (held_of (next m p)) < k = omega (arith, ap length x) in
          let g =
          rest_then (next m p) (next-keeps s₀ fs n m p i ok)
          (λ q iq sq same left _. ih q iq sq (left ∙ y) (let l : length (held_of q) ≡ length (held_of (next m p)) =
          ap (λ (r : Reader). length (held_bytes r)) same in omega arith)) in
          record { calls = m ∷ g.calls; rules = (ok, g.rules); ended = g.ended }
      go ih false f =
          record {
            calls = m ∷ [];
            rules = (ok, tt);
            ended =
                record {
                  quiet_came = ap (λ (q : Place). q.quieted) e ∙ ap (λ (b : Bool). p.quieted || b) yes ∙ or_true p.quieted;
                  nothing-held = ap (λ (q : Place). q.at.reader.count) e ∙ ap length (quiet-emptied (held_of p) p.untaken f);
                  no-check = ap checking e
                      ∙ ap (λ (b : Bool). (cond b (given_state (state_of p) c.frame) (state_of p)).session.transfer.check.running) f
                      ∙ still;
                };
          }

  feed_out : (k : ℕ) (p : Place) → Keeps s₀ fs n p → checking p ≡ false → length (held_of p) + length p.untaken < k → Ending p
  feed_out zero p i still h = absurd (omega arith)
  feed_out (suc k) p i still h = go (feed_out k) c.found refl
    where
      a : Call
      a = feeding (length p.untaken)

      c : CallResult
      c = called a (held_of p) p.untaken

      m : Listed
      m = on_own a room

      e : next m p ≡ landed c (p.quieted || false) p
      e = next-landed a room p (is-accepted (line_call a) p i)

      ok : Allowed m p
      ok = (tt, λ z. (tt, still))

      all : length (take (length p.untaken) p.untaken) ≡ length p.untaken
      all = ap length (take-length p.untaken)

      left : (next m p).untaken ≡ drop c.taken p.untaken
      left = ap (λ (q : Place). q.untaken) e

      x : held_of (next m p) ≡ c.held
      x = ap held_of e ∙ held-again c.held

      go : ((q : Place) → Keeps s₀ fs n q → checking q ≡ false → length (held_of q) + length q.untaken < k → Ending q) → (b : Bool)
          → c.found ≡ b → Ending p
      go ih true f =
          let w = call-keeps a (held_of p) p.untaken in
          let used = w.found f in
          let within = w.within in
          let less : length (held_of (next m p)) + length (next m p).untaken < k =
          omega (arith, ap length x, ap length left, length-drop c.taken p.untaken, all) in
          let g =
          rest_then (next m p) (next-keeps s₀ fs n m p i ok)
          (λ q iq sq same same_left _.
          ih q iq sq (let l : length (held_of q) ≡ length (held_of (next m p)) = ap (λ (r : Reader). length (held_bytes r)) same in
          omega (arith, ap length same_left))) in
          record { calls = m ∷ g.calls; rules = (ok, g.rules); ended = g.ended }
      go ih false f =
          let taken = (call-keeps a (held_of p) p.untaken).unfound f in
          let y : (next m p).untaken ≡ [] = left ∙ ap (λ (t : ℕ). drop t p.untaken) (taken ∙ all) ∙ drop-length p.untaken in
          let none : checking (next m p) ≡ false = ap checking e
          ∙ ap (λ (b : Bool). (cond b (given_state (state_of p) c.frame) (state_of p)).session.transfer.check.running) f ∙ still in
          let g = quiet-out (suc (length (held_of (next m p)))) (next m p) (next-keeps s₀ fs n m p i ok) none y (omega arith) in
          record { calls = m ∷ g.calls; rules = (ok, g.rules); ended = g.ended }

-- from every place that a run comes to
ending_from : (s₀ : State) (fs : List Frame) (n : ℕ) (p : Place) → Keeps s₀ fs n p → Ending p
ending_from s₀ fs n p k =
    rest_then s₀ fs n p k
    (λ q iq still _ _ _. feed_out s₀ fs n (suc (length (held_of q) + length q.untaken)) q iq still (omega arith))

pub ending_exists : (r : Record) (area : List ℕ) → RunStart r area → (b : List ℕ) → Bytes b → (cs : List Listed)
    → AllAllowed cs (start r area b) → Ending (run cs (start r area b))
ending_exists r area o b q cs f =
    let s₀ = start_state r area in
    let fs = (reading b).frames in
    let n = (reading b).dropped in
    ending_from s₀ fs n (run cs (start r area b)) (run-keeps s₀ fs n cs (start r area b) (start-keeps r area b o q) f)

pub demand_3 : Demand3
demand_3 = record { strays_cost_nothing = strays_cost_nothing; other-strays = other-strays; ends = ending_exists }
