-- From a call's contract to a turn's. Assumes nothing.
use Rattle.std.proofs.Common.{◌≡◌, ℕ, ◌-◌, min, List, length, take, ap, ◌∙◌, subst, length-drop, length-take}
use lib.Seq.{slice}
use Rattle.controller.specs.declared.call.Called.{Called}
use Rattle.controller.specs.declared.portion.Portioned.{Portioned}
use Rattle.controller.specs.Calls.{CallLeaves, Leaves}
use Rattle.controller.specs.Portions.{PortionLeaves, PortionLeft}
use Rattle.text.specs.declared.output.Output.{Output}
use Rattle.capture.specs.declared.run.Run.{Run}
use Rattle.capture.specs.declared.stage.Stage.{Stage}
use Rattle.capture.specs.Stages.{stage_quiet}
use Rattle.capture.specs.Runs.{Follows, Passes, ChecksOn}

-- what is left in the input buffer: it may have less than is said to be in it
pub length-left : (at end : ℕ) (input : List ℕ) → length (slice at end input) ≡ min end (length input) - at
length-left at end input = length-drop at (take end input) ∙ ap (λ (n : ℕ). n - at) (length-take end input)

module _ {run r : Run} {k : Called} {room area : List ℕ} {o after : Output} {stage : Stage} where
  pub passes : {x : CallLeaves} → Leaves x k room area → Follows run k room o stage r after → Passes run x o stage r after area
  passes {x} l f =
      record {
        follows = subst (λ (s : List ℕ). Follows run x.called s o stage r after) l.leaves-room
            (subst (λ (c : Called). Follows run c room o stage r after) l.gives f);
        leaves-area = l.leaves-area;
      }

  -- quiet is told until the call leaves nothing held
  pub passes-quiet :
      {x : CallLeaves} → stage ≡ stage_quiet k.next → Leaves x k room area → Follows run k room o stage r after
      → Passes run x o (stage_quiet x.called.next) r after area
  passes-quiet {x} e l f =
      subst (λ (s : Stage). Passes run x o s r after area) (e ∙ ap (λ (c : Called). stage_quiet c.next) l.gives) (passes l f)

-- ---- a portion of an end check

-- what holds of what the call gave holds of what its definition says
pub checks-on : {run r : Run} {p : Portioned} {room : List ℕ} {o after : Output} {x : PortionLeaves} → PortionLeft x p room
    → ChecksOn run (record { called = p; room = room }) o r after → ChecksOn run x o r after
checks-on {run} {r} {p} {room} {o} {after} {x} left f =
    subst (λ (s : List ℕ). ChecksOn run (record { called = x.called; room = s }) o r after) left.leaves-room
    (subst (λ (k : Portioned). ChecksOn run (record { called = k; room = room }) o r after) left.gives f)
