-- `dialogue::run::Run::check` meets its contract. Assumes nothing.
use mathlib.Core.Path.{refl}
use Rattle.dialogue.specs.Dialogues.{dialogue_of, with_controller}
use Rattle.dialogue.specs.Turns.{after_portioned}
use Rattle.dialogue.proofs.Turns.{made_as, made_told, made-carrying, of-portion}
use Rattle.dialogue.proofs.run.Run.check.Goals as goal

pub returns : goal.returns
returns c =
    let a = c.args in
    let x = dialogue_of a.self a.memory.now a.area.now in
    made_as (of-portion (λ p room. after_portioned x p room a.image.now a.letters.now) c.check-p.ensures)
    (made_told c.tell.ensures
    (made-carrying (with_controller x c.check-p.result.next a.area.now) refl refl refl refl c.answer-self.ensures))
