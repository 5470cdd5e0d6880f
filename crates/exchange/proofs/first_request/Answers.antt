-- `exchange::first_request` meets its contract. Assumes nothing.
use mathlib.Core.Path.{subst}
use Rattle.text.specs.declared.output.Output.{Output}
use Rattle.dialogue.specs.Dialogues.{dialogue_of, TurnMade}
use Rattle.dialogue.specs.Turns.{request_turn}
use Rattle.exchange.proofs.first_request.Goals as goal

pub returns : goal.returns
returns c =
    λ area.
    let a = c.args in
    let r = c.request in
    let turn = request_turn (dialogue_of a.started a.memory.now area) a.image.now a.letters.now in
    subst (λ (o : Output). TurnMade turn o r.result r.new.memory area r.new.output) c.requires (r.ensures area)
