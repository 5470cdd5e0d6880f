-- `dialogue::run::Run::silence` meets its contract. Assumes nothing.
use mathlib.Core.Path.{ap}
use Prim.Native.Nat.{ℕ}
use Rattle.commands.specs.Outcomes.{outcome_number}
use Rattle.sender.specs.declared.decision.Decided.{Decided}
use Rattle.text.proofs.Texts.{texts_as}
use Rattle.transcript.specs.Lines.{silence_texts}
use Rattle.dialogue.specs.Dialogues.{Turn, dialogue_of, preceded}
use Rattle.dialogue.specs.Turns.{after_decision}
use Rattle.dialogue.proofs.Turns.{made_as, made_told}
use Rattle.dialogue.proofs.run.Run.silence.Goals as goal

pub returns : goal.returns
returns c = λ area.
    let a = c.args in
    let x = dialogue_of a.self a.memory.now area in
    let follows : Decided → Turn = λ d. preceded (silence_texts (outcome_number d.outcome) d.decision)
    (after_decision d x a.image.now a.letters.now) in
    made_as (ap follows c.silence-d.ensures) (made_told (texts_as (ap (λ (n : ℕ). silence_texts n c.silence-d.result.decision) c.from.ensures) c.silence.ensures) (c.decided.ensures area))
