-- docs/SENDER.md, "Replies": what a reply or a silence comes to. Assumes nothing.
use Rattle.std.specs.Prelude.{cond, ◌+◌, ltb}
use Rattle.commands.specs.declared.outcome.Outcome.{Outcome}
use Rattle.sender.specs.declared.phase.Phase.TheVariants as phase
use Rattle.sender.specs.declared.decision.Decision.{Decision}
use Rattle.sender.specs.declared.decision.Decision.TheVariants as decision
use Rattle.sender.specs.declared.decision.Decided.{Decided}
use Rattle.sender.specs.declared.sender.Sender.{Sender}
use Rattle.commands.specs.Outcomes.{accepted}
use Rattle.sender.specs.Senders.{max_legs, begun, moved_to}

-- "decision none, record .. unchanged"
abbrev pub nothing_decided : Sender → Outcome → Decided
nothing_decided s outcome = record { outcome = outcome; decision = decision.Nothing; next = s }

abbrev pub decided : Decision → Sender → Decided
decided d s = record { outcome = accepted; decision = d; next = s }

abbrev pub go_on : Sender → Decided
go_on s = decided decision.GoOn s

abbrev pub done : Sender → Decided
done s = decided decision.Done (moved_to s phase.Done 0 0)

abbrev pub given_up : Sender → Decided
given_up s = decided decision.GivenUp (moved_to s phase.GivenUp 0 0)

-- "Leg over. New legs below 3: decision new leg, phase asking, new legs + 1. New legs 3: decision given up, phase given up."
unfoldable pub leg_over : Sender → Decided
leg_over s =
    let legs = s.tries.new_legs in
    cond (ltb legs max_legs) (decided decision.NewLeg (begun s.offer (legs + 1))) (given_up s)
