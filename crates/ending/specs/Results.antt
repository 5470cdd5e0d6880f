-- 01, "How the session answers": what FE and the end of its check answer. Assumes nothing.
use Rattle.std.specs.Prelude.{◌≡◌, Bool, false, IfSome, ℕ, [], ◌∷◌, get_or}
use Rattle.commands.specs.States.{never_sent_fe}
use Rattle.transfer.specs.declared.phase.Phase.TheVariants.{Idle}
use Rattle.transfer.specs.declared.state.Transfer.{Transfer}
use Rattle.transfer.specs.declared.state.Step.{Step}
use Rattle.transfer.specs.Transfers.{replied}
use Rattle.ending.specs.FE.{answer_fe, ended_fe}
use Rattle.sequences.specs.Padding.{zeros}

-- The claim: "CRC-32 of the area's first announced bytes differs: 03, phase idle, stored 0, identity all zero (its channel too)", and
-- "zeroes the check's own fields" (document 02, K5); all else as it was.
abbrev pub EndFailed : Type 0
EndFailed =
    (t : Transfer) → ended_fe t false ≡ replied (record {
      leg = record { phase = Idle; channel = t.leg.channel; agreed = t.leg.agreed; next = t.leg.next };
      progress = record { stored = 0; last = 0 };
      image = record { channel = 0; version = zeros 3; announced = 0; md5 = zeros 16; crc = 0 };
      check = record { running = false; read = 0; register = 0 };
    }) (t.leg.channel ∷ 0x03 ∷ [])

-- The claim: "State 02 of the page is never sent", neither at once nor at the end of the check; the state is a reply's second byte.
abbrev pub OtherState : Step → Type 0
OtherState x = IfSome x.reply (λ d. get_or d 1 0 ≡ never_sent_fe → ⊥)

pub record NeverState02 : Type 0 where
  pub at_once : (t : Transfer) (channel : ℕ) → OtherState (answer_fe t channel)
  pub at_end : (t : Transfer) (right : Bool) → OtherState (ended_fe t right)
