-- `dialogue::run::Run::at_controller` meets its contract. Assumes nothing.
use mathlib.Core.Path.{refl, ap}
use Rattle.text.proofs.Texts.{texts_as}
use Rattle.transcript.specs.Lines.{at_controller_texts}
use Rattle.dialogue.specs.Dialogues.{dialogue_of, with_controller}
use Rattle.dialogue.specs.Turns.{after_fed}
use Rattle.dialogue.proofs.Turns.{made_as, made_told, made-carrying, of-call}
use Rattle.dialogue.proofs.run.Run.at_controller.Goals as goal

pub returns : goal.returns
returns c =
    let a = c.args in
    let x = dialogue_of a.self a.memory.now a.area.now in
    let line = texts_as (ap (at_controller_texts a.frame) c.from.ensures) c.at_controller.ensures in
    made_as (of-call (λ k room area. after_fed x a.frame k room area a.image.now a.letters.now) c.feed-c.ensures)
    (made_told line
    (made_told c.tell.ensures
    (made-carrying (with_controller x c.feed-c.result.next _) refl refl refl refl c.answer-self.ensures)))
