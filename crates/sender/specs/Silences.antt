-- docs/SENDER.md, "Silence": "Phase done or given up: that decision, nothing changed. Silences below 3: decision send again,
-- silences + 1, nothing else changed. Silences 3: leg over." Assumes nothing.
use Rattle.std.specs.Prelude.{cond, ℕ, ltb}
use Rattle.sender.specs.declared.decision.Decision.TheVariants as decision
use Rattle.sender.specs.declared.decision.Decided.{Decided}
use Rattle.sender.specs.declared.sender.Sender.{Sender}
use Rattle.sender.specs.Phases.{by_phase}
use Rattle.sender.specs.Senders.{max_silences, again}
use Rattle.sender.specs.Decisions.{nothing_decided, decided, leg_over}
use Rattle.sender.specs.Requests.{sender_refusal}
use Rattle.commands.specs.Outcomes.{accepted, same_outcome}

unfoldable pub unheard : Sender → Decided
unheard s = cond (ltb s.tries.silences max_silences) (decided decision.SendAgain (again s)) (leg_over s)

unfoldable pub silent_in : Sender → Decided
silent_in s =
    let u = unheard s in
    by_phase s.position.phase u u u u u (decided decision.Done s) (decided decision.GivenUp s)

-- "9, 20"; n is the lent image's length
unfoldable pub after_silence : Sender → ℕ → Decided
after_silence s n = cond (same_outcome (sender_refusal s n) accepted) (silent_in s) (nothing_decided s (sender_refusal s n))
