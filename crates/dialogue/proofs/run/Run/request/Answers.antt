-- `dialogue::run::Run::request` meets its contract. Assumes nothing.
use mathlib.Core.Path.{refl, ap}
use Rattle.carrier.specs.Sending.{Carried, sending}
use Rattle.carrier.proofs.Carrying.{carries_as}
use Rattle.link.specs.declared.frame.Frame.{Frame}
use Rattle.dialogue.specs.Dialogues.{dialogue_of}
use Rattle.dialogue.proofs.Turns.{made-carrying}
use Rattle.dialogue.proofs.run.Run.request.Goals as goal

pub returns : goal.returns
returns c = λ area.
    let a = c.args in
    let x = dialogue_of a.self a.memory.now area in
    let frame : Frame → Carried = λ f. sending x.link x.script x.memory f a.letters.now in
    made-carrying x refl refl refl refl (carries_as (ap frame c.request-request.ensures) c.send-self.ensures)
