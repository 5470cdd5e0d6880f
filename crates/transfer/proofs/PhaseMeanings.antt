-- The tests of a phase are true of the phases that they name. Assumes nothing.
use mathlib.Core.Path.{◌≡◌, refl, ap}
use mathlib.Core.Logic.{◌↔◌, ◌⊎◌, inl, inr, ⊎_elim}
use mathlib.Core.Bool.{true, false}
use Prim.Native.Nat.{ℕ}
use native.Mathlib.Omega.{arith}
use Rattle.transfer.specs.declared.phase.Phase.{Phase}
use Rattle.transfer.specs.declared.phase.Phase.TheVariants.{Idle, Asked, Told, Receiving, Done}
use Rattle.transfer.specs.Phases.{EveryPhaseMeans}

-- phases with different numbers differ
abbrev number : Phase → ℕ
number Idle = 0
number Asked = 1
number Told = 2
number Receiving = 3
number Done = 4

differ : (p q : Phase) → (number p ≡ number q → ⊥) → p ≡ q → ⊥
differ p q n e = n (ap number e)

yes : {P : Type 0} → P → (true ≡ true) ↔ P
yes p = (λ _. p, λ _. refl)

not_so : {P : Type 0} → (P → ⊥) → (false ≡ true) ↔ P
not_so n = (λ e. let z : ◌≡◌ {A = ℕ} 0 1 = cc in absurd (omega arith), λ p. absurd (n p))

either : {P Q : Type 0} → (P → ⊥) → (Q → ⊥) → P ⊎ Q → ⊥
either p q w = ⊎_elim p q w

pub every_phase_means : EveryPhaseMeans
every_phase_means Idle =
    record {
      idle = yes refl;
      has-image = not_so
          (either (differ Idle Told (λ e. omega arith))
          (either (differ Idle Receiving (λ e. omega arith)) (differ Idle Done (λ e. omega arith))));
      told_or_receiving_lem = not_so (either (differ Idle Told (λ e. omega arith)) (differ Idle Receiving (λ e. omega arith)));
      receiving = not_so (differ Idle Receiving (λ e. omega arith));
      receiving_or_done_lem = not_so (either (differ Idle Receiving (λ e. omega arith)) (differ Idle Done (λ e. omega arith)));
    }
every_phase_means Asked =
    record {
      idle = not_so (differ Asked Idle (λ e. omega arith));
      has-image = not_so
          (either (differ Asked Told (λ e. omega arith))
          (either (differ Asked Receiving (λ e. omega arith)) (differ Asked Done (λ e. omega arith))));
      told_or_receiving_lem = not_so (either (differ Asked Told (λ e. omega arith)) (differ Asked Receiving (λ e. omega arith)));
      receiving = not_so (differ Asked Receiving (λ e. omega arith));
      receiving_or_done_lem = not_so (either (differ Asked Receiving (λ e. omega arith)) (differ Asked Done (λ e. omega arith)));
    }
every_phase_means Told =
    record {
      idle = not_so (differ Told Idle (λ e. omega arith));
      has-image = yes (inl refl);
      told_or_receiving_lem = yes (inl refl);
      receiving = not_so (differ Told Receiving (λ e. omega arith));
      receiving_or_done_lem = not_so (either (differ Told Receiving (λ e. omega arith)) (differ Told Done (λ e. omega arith)));
    }
every_phase_means Receiving =
    record {
      idle = not_so (differ Receiving Idle (λ e. omega arith));
      has-image = yes (inr (inl refl));
      told_or_receiving_lem = yes (inr refl);
      receiving = yes refl;
      receiving_or_done_lem = yes (inl refl);
    }
every_phase_means Done =
    record {
      idle = not_so (differ Done Idle (λ e. omega arith));
      has-image = yes (inr (inr refl));
      told_or_receiving_lem = not_so (either (differ Done Told (λ e. omega arith)) (differ Done Receiving (λ e. omega arith)));
      receiving = not_so (differ Done Receiving (λ e. omega arith));
      receiving_or_done_lem = yes (inr refl);
    }
