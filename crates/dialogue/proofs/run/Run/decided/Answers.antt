-- `dialogue::run::Run::decided` meets its contract. Assumes nothing.
use mathlib.Core.Path.{refl}
use Rattle.std.proofs.Common.{⊎_elim}
use Rattle.sender.specs.declared.decision.Decision.TheVariants.{Nothing, GoOn, SendAgain, NewLeg, Done, GivenUp}
use Rattle.text.specs.Outputs.{none}
use Rattle.ends.specs.Ends.{request_sent}
use Rattle.dialogue.specs.Dialogues.{dialogue_of, with_sender, ending}
use Rattle.dialogue.proofs.Turns.{made_by, made-carrying, carries-then}
use Rattle.dialogue.proofs.run.Run.decided.Goals as goal

pub returns-in-Nothing : goal.returns-in-Nothing
returns-in-Nothing c = λ area.
    let a = c.args in
    let x = dialogue_of a.self a.memory.now area in
    made_by a.d Nothing x a.image.now a.letters.now c.in-Nothing.is
    (made-carrying (with_sender x a.d.next) refl refl refl refl (record { links = refl; leaves = refl; holds = refl; tells = none }))

pub returns-in-GoOn : goal.returns-in-GoOn
returns-in-GoOn c = λ area.
    let a = c.args in
    let x = dialogue_of a.self a.memory.now area in
    ⊎_elim (λ is. made_by a.d GoOn x a.image.now a.letters.now is (c.request.ensures area))
    (λ is. made_by a.d SendAgain x a.image.now a.letters.now is (c.request.ensures area)) c.in-GoOn.is

pub returns-in-NewLeg : goal.returns-in-NewLeg
returns-in-NewLeg c = λ area.
    let a = c.args in
    let x = dialogue_of a.self a.memory.now area in
    let asked = c.request-in-NewLeg.ensures area in
    made_by a.d NewLeg x a.image.now a.letters.now c.in-NewLeg.is
    (made-carrying (with_sender x a.d.next) asked.sender asked.controller asked.leaves-area asked.ends
    (carries-then (request_sent a.d.next a.image.now) a.letters.now c.cleared-self.ensures
    asked.carries))

pub returns-in-Done : goal.returns-in-Done
returns-in-Done c = λ area.
    let a = c.args in
    let x = dialogue_of a.self a.memory.now area in
    let k = made-carrying (ending (with_sender x a.d.next)) refl refl refl refl (record { links = refl; leaves = refl; holds = refl; tells = none }) in
    ⊎_elim (λ is. made_by a.d Done x a.image.now a.letters.now is k) (λ is. made_by a.d GivenUp x a.image.now a.letters.now is k) c.in-Done.is
