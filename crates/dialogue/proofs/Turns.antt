-- From what a call leaves to the turn that is made. Assumes nothing.
use mathlib.Core.Path.{◌≡◌, sym, ap, ap₂, subst, ◌∙◌}
use mathlib.Core.List.{List}
use Prim.Native.Nat.{ℕ}
use Rattle.carrier.specs.declared.carrier.Carrier.{Carrier}
use Rattle.carrier.specs.Sending.{Carried, CarriesOn, sending}
use Rattle.carrier.proofs.Carrying.{carries_as, carries-told}
use Rattle.controller.specs.declared.call.Called.{Called}
use Rattle.controller.specs.declared.portion.Portioned.{Portioned}
use Rattle.controller.specs.Calls.{CallLeaves, Leaves}
use Rattle.controller.specs.Portions.{PortionLeaves, PortionLeft}
use Rattle.link.specs.declared.frame.Frame.{Frame}
use Rattle.link.specs.declared.link.Link.{Link}
use Rattle.link.specs.declared.script.Script.{Script}
use Rattle.sender.specs.declared.decision.Decision.{Decision}
use Rattle.sender.specs.declared.decision.Decided.{Decided}
use Rattle.text.specs.declared.output.Output.{Output}
use Rattle.text.specs.Outputs.{TextsAdded}
use Rattle.dialogue.specs.declared.run.Run.{Run}
use Rattle.dialogue.specs.Dialogues.{Dialogue, Turn, TurnMade, carrying, preceded, with_sender}
use Rattle.dialogue.specs.Turns.{then_sent, by_decision, after_decision}

module _ {o : Output} {r : Run} {memory area : List ℕ} {after : Output} where
  pub made_as : {t u : Turn} → t ≡ u → TurnMade t o r memory area after → TurnMade u o r memory area after
  made_as e s = subst (λ (t : Turn). TurnMade t o r memory area after) e s

  pub made_told : {m : Output} {texts : List (List ℕ)} {t : Turn}
      → TextsAdded o texts m → TurnMade t m r memory area after → TurnMade (preceded texts t) o r memory area after
  made_told a s =
      record {
        sender = s.sender;
        controller = s.controller;
        leaves-area = s.leaves-area;
        carries = carries-told a s.carries;
        ends = s.ends;
      }

  -- only the carrier has changed
  pub made-carrying : (x : Dialogue) {k : Carried}
      → r.sender ≡ x.sender → r.record ≡ x.controller → area ≡ x.area → r.is_ended ≡ x.ended
      → CarriesOn k o r.carrier memory after → TurnMade (carrying x k) o r memory area after
  made-carrying x s c a e k = record { sender = s; controller = c; leaves-area = a; carries = k; ends = e }

  -- what follows from a decision
  pub made_by : (d : Decided) (k : Decision) (x : Dialogue) (image letters : List ℕ) → d.decision ≡ k
      → TurnMade (by_decision k (with_sender x d.next) image letters) o r memory area after
      → TurnMade (after_decision d x image letters) o r memory area after
  unfolding after_decision
  made_by d k x image letters e s = made_as (ap (λ (j : Decision). by_decision j (with_sender x d.next) image letters) (sym e)) s

-- a frame is sending by a carrier that has carried on
pub carries-then : {k : Carried} {o between after : Output} {memory memory' : List ℕ} {m r : Carrier} (f : Frame) (letters : List ℕ)
    → CarriesOn k o m memory between → CarriesOn (sending m.link m.script memory f letters) between r memory' after
    → CarriesOn (then_sent k f letters) o r memory' after
carries-then {k = k} {memory = memory} {m = m} f letters a b =
    let same = ap₂ (λ (l : Link) (s : Script). sending l s memory f letters) a.links a.leaves
    ∙ ap (λ (y : List ℕ). sending k.link k.script y f letters) a.holds in
    carries-told a.tells (carries_as same b)

-- what is said of what a call gave and left is said of its definition
pub of-call : {x : CallLeaves} {c : Called} {room area : List ℕ} (F : Called → List ℕ → List ℕ → Turn) → Leaves x c room area
    → F c room area ≡ F x.called x.room x.area
of-call {x} {c} {room} {area} F l =
    ap₂ (λ (d : Called) (s : List ℕ). F d s area) l.gives l.leaves-room ∙ ap (F x.called x.room) l.leaves-area

pub of-portion : {x : PortionLeaves} {p : Portioned} {room : List ℕ} (F : Portioned → List ℕ → Turn) → PortionLeft x p room
    → F p room ≡ F x.called x.room
of-portion F l = ap₂ F l.gives l.leaves-room
