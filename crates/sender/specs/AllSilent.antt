-- docs/SENDER.md, "Replies": "With all silent the sender sends FA sixteen times (4 legs of 4) and gives up at the sixteenth silence."
-- Assumes nothing.
use Rattle.std.specs.Prelude.{◌≡◌, false, List, [], ◌∷◌, ◌++◌, ℕ, length, replicate}
use Rattle.sender.specs.declared.phase.Phase.TheVariants.{Asking, GivenUp}
use Rattle.sender.specs.declared.decision.Decision.{Decision}
use Rattle.sender.specs.declared.decision.Decision.TheVariants as decision
use Rattle.sender.specs.declared.sender.Sender.{Sender}
use Rattle.sender.specs.Rules.{breaks_rules}
use Rattle.sender.specs.Silences.{after_silence}
use Rattle.sender.specs.Exchanges.{Exchange, exchange, frame_fa}

-- n requests, each followed by a silence
abbrev pub exchange_silent : ℕ → Sender → List ℕ → Exchange
exchange_silent n s image = exchange (λ t. after_silence t (length image)) n s image

-- K3: "silence sends again, a fourth in a row for one request starts a new leg, and instead of a fourth new leg it gives up"
abbrev pub silent_leg : Decision → List Decision
silent_leg fourth = replicate 3 decision.SendAgain ++ (fourth ∷ [])

-- The claim: of every lawful sender in phase asking that has been told no silence and has begun no new leg.
abbrev pub AllSilent : Type 0
AllSilent =
    (s : Sender) (image : List ℕ) → breaks_rules s ≡ false → s.position.phase ≡ Asking → s.tries ≡ record { silences = 0; new_legs = 0 }
    → length image ≡ s.offer.length
    → exchange_silent 16 s image
    ≡ record {
      requests = replicate 16 (frame_fa s.offer);
      decisions =
          silent_leg decision.NewLeg ++ (silent_leg decision.NewLeg ++ (silent_leg decision.NewLeg ++ silent_leg decision.GivenUp));
      sender =
          record {
            offer = s.offer;
            position = record { phase = GivenUp; place = 0; number = 0 };
            tries = record { silences = 0; new_legs = 3 };
          };
    }
