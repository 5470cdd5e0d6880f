-- `replay::replay` meets its contract. The loop's invariant: so many turns were made. Assumes nothing.
use Rattle.capture.specs.Runs.{ReplayTurns}
use Rattle.replay.proofs.replay.Given as goal

abbrev pub invariant-loop : goal.invariant-loop
invariant-loop l =
    ReplayTurns (record { run = l.initial.run; input = l.initial.input; output = l.initial.output; area = l.initial.area }) l.counter
    (record { run = l.run; input = l.input; output = l.output; area = l.area })
