-- `capture::run::Run::turn` meets its contract: a check has its own, and so has each stage. Assumes nothing.
use Rattle.std.proofs.Common.{◌≡◌, ℕ, Bool, true, false, List, sym, refl, ◌∙◌, subst, ⊎_elim}
use Rattle.controller.specs.Records.{is_checking}
use Rattle.text.specs.declared.output.Output.{Output}
use Rattle.capture.specs.declared.run.Run.{Run}
use Rattle.capture.specs.declared.stage.Stage.{Stage}
use Rattle.capture.specs.Runs.{Turned}
use Rattle.capture.proofs.run.Run.turn.Goals as goal

module _ (run : Run) (input : List ℕ) (output : Output) (area : List ℕ) (r : Run) (input' : List ℕ) (after : Output) (area' : List ℕ) where
  abbrev Turns : Bool → Stage → Type 0
  Turns b s = Turned b s run input output area r input' after area'

  -- what holds while a check runs holds of a run whose check runs,
  in-check : is_checking run.record ≡ true → Turns true run.stage
      → Turns (is_checking run.record) run.stage
  in-check e t = subst (λ (b : Bool). Turns b run.stage) (sym e) t

  -- and else what holds in a stage of a run that is in it
  in-stage : (s : Stage) → is_checking run.record ≡ false → run.stage ≡ s → Turns false s
      → Turns (is_checking run.record) run.stage
  in-stage s none e t = subst (λ (b : Bool). Turns b run.stage) (sym none) (subst (λ (x : Stage). Turns false x) (sym e) t)

pub returns-then-is_checking : goal.returns-then-is_checking
returns-then-is_checking c =
    in-check c.args.self c.args.input.now c.args.output.now c.args.area.now _ _ _ _ (sym c.is_checking.ensures ∙ c.if-is_checking.true)
    (c.check.ensures, (refl, refl))

pub returns-in-Feeding : goal.returns-in-Feeding
returns-in-Feeding c =
    in-stage c.args.self c.args.input.now c.args.output.now c.args.area.now _ _ _ _ _ (sym c.is_checking.ensures ∙ c.if-is_checking.false)
    c.in-Feeding.is c.feed.ensures

pub returns-in-Quiet : goal.returns-in-Quiet
returns-in-Quiet c =
    in-stage c.args.self c.args.input.now c.args.output.now c.args.area.now _ _ _ _ _ (sym c.is_checking.ensures ∙ c.if-is_checking.false)
    c.in-Quiet.is (c.quiet.ensures, refl)

pub returns-in-Ended : goal.returns-in-Ended
returns-in-Ended c =
    let none = sym c.is_checking.ensures ∙ c.if-is_checking.false in
    ⊎_elim
    (λ is. in-stage c.args.self c.args.input.now c.args.output.now c.args.area.now _ _ _ _ _ none is (refl, (refl, (refl, refl))))
    (λ is. in-stage c.args.self c.args.input.now c.args.output.now c.args.area.now _ _ _ _ _ none is (refl, (refl, (refl, refl))))
    c.in-Ended.is
