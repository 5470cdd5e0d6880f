-- 01, "The record and the board list": "the phase (idle, asked, told, receiving, done)", and the sets of phases that the answers name.
-- Assumes nothing.
use Rattle.std.specs.Prelude.{◌≡◌, ◌↔◌, ◌⊎◌, Bool, true, false}
use Rattle.transfer.specs.declared.phase.Phase.{Phase}
use Rattle.transfer.specs.declared.phase.Phase.TheVariants.{Idle, Asked, Told, Receiving, Done}

abbrev pub idle : Phase → Bool
idle Idle = true
idle Asked = false
idle Told = false
idle Receiving = false
idle Done = false

-- "in told, receiving or done"
abbrev pub has_image : Phase → Bool
has_image Idle = false
has_image Asked = false
has_image Told = true
has_image Receiving = true
has_image Done = true

abbrev pub told_or_receiving : Phase → Bool
told_or_receiving Idle = false
told_or_receiving Asked = false
told_or_receiving Told = true
told_or_receiving Receiving = true
told_or_receiving Done = false

abbrev pub receiving : Phase → Bool
receiving Idle = false
receiving Asked = false
receiving Told = false
receiving Receiving = true
receiving Done = false

-- demand 2's "open" is receiving, "just accepted" is done
abbrev pub receiving_or_done : Phase → Bool
receiving_or_done Idle = false
receiving_or_done Asked = false
receiving_or_done Told = false
receiving_or_done Receiving = true
receiving_or_done Done = true

-- The claim: the tests are true of the phases that they name, and of no other.
pub record PhasesMean (p : Phase) : Type 0 where
  pub idle : (idle p ≡ true) ↔ (p ≡ Idle)
  pub has-image : (has_image p ≡ true) ↔ ((p ≡ Told) ⊎ ((p ≡ Receiving) ⊎ (p ≡ Done)))
  pub told_or_receiving_lem : (told_or_receiving p ≡ true) ↔ ((p ≡ Told) ⊎ (p ≡ Receiving))
  pub receiving : (receiving p ≡ true) ↔ (p ≡ Receiving)
  pub receiving_or_done_lem : (receiving_or_done p ≡ true) ↔ ((p ≡ Receiving) ⊎ (p ≡ Done))

abbrev pub EveryPhaseMeans : Type 0
EveryPhaseMeans = (p : Phase) → PhasesMean p
