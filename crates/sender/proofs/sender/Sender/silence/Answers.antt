-- `sender::sender::Sender::silence` meets its contract. Assumes nothing.
use mathlib.Core.Path.{◌∙◌, sym}
use Rattle.sender.specs.declared.decision.Decision.TheVariants as decision
use Rattle.sender.specs.Decisions.{decided}
use Rattle.sender.specs.Silences.{unheard, silent_in, after_silence}
use Rattle.sender.proofs.Phases.{open_choice, left_open}
use Rattle.sender.proofs.sender.Sender.silence.Goals as goal

pub returns-in-Some : goal.returns-in-Some
unfolding after_silence silent_in
returns-in-Some c = simp (c.in-Some.ensures.0, c.in-Some.ensures.1, c.nothing.ensures)

pub returns-in-Done : goal.returns-in-Done
unfolding after_silence silent_in
returns-in-Done c =
    simp (
      c.in_default.ensures,
      c.in-Done.is,
      c.to.ensures,
    )

pub returns-in-GivenUp : goal.returns-in-GivenUp
unfolding after_silence silent_in
returns-in-GivenUp c =
    simp (
      c.in_default.ensures,
      c.in-GivenUp.is,
      c.to-in-GivenUp.ensures,
    )

pub returns-in_default-phase : goal.returns-in_default-phase
unfolding after_silence silent_in
returns-in_default-phase c =
    let s = c.args.self in
    let phase = s.position.phase in
    let still = left_open phase c.in_default-phase.not-Done c.in_default-phase.not-GivenUp in
    simp (c.in_default.ensures)
    (c.unheard.ensures ∙ sym (open_choice phase (unheard s) (decided decision.Done s) (decided decision.GivenUp s) still))
