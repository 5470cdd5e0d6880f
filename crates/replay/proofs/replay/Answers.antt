-- `replay::replay` meets its contract. Assumes nothing.
use mathlib.Core.Path.{◌≡◌, sym, ap, ◌∙◌, subst}
use mathlib.Core.Logic.{inl, inr}
use mathlib.Core.List.{List}
use Prim.Native.Nat.{ℕ}
use native.Mathlib.Omega.{arith}
use Rattle.text.specs.declared.output.Output.{Output}
use Rattle.capture.specs.declared.run.Run.{Run}
use Rattle.controller.specs.Bench.{fresh}
use Rattle.capture.specs.Runs.{start_run, Standing, ReplayTurns, first, then}
use Rattle.replay.proofs.replay.Goals as goal

-- turns from the fresh run, and from the output that nothing waits in
from_fresh : {run : Run} {input : List ℕ} {output empty : Output} {area : List ℕ} {n : ℕ} {t : Standing} → run ≡ start_run fresh
    → output ≡ empty
    → ReplayTurns (record { run = run; input = input; output = output; area = area }) n t
    → ReplayTurns (record { run = start_run fresh; input = input; output = empty; area = area }) n t
from_fresh {run} {input} {output} {empty} {area} {n} {t} e o made =
    subst (λ (x : Output). ReplayTurns (record { run = start_run fresh; input = input; output = x; area = area }) n t) o
    (subst (λ (r : Run). ReplayTurns (record { run = r; input = input; output = output; area = area }) n t) e made)

pub loop-init : goal.loop-init
loop-init c = first

pub returns-then-is_over : goal.returns-then-is_over
returns-then-is_over c =
    let started = c.start-run.ensures ∙ ap start_run c.open.ensures in
    let over = sym c.is_over.ensures ∙ c.if-is_over.true in
    record { turns = c.loop.counter; made = from_fresh started c.requires c.loop.invariant; over = inl over }

pub loop-preserved : goal.loop-preserved
loop-preserved c =
    let over = sym c.is_over.ensures ∙ c.if-is_over.false in
    then c.loop.invariant (over, c.turn-run.ensures)

pub returns : goal.returns
returns c =
    let started = c.start-run.ensures ∙ ap start_run c.open.ensures in
    record { turns = c.loop.counter; made = from_fresh started c.requires c.loop.invariant; over = inr (omega arith) }
