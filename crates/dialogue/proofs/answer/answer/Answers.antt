-- `dialogue::answer::answer` meets its contract. Assumes nothing.
use borrow.Author.Tests.{eq-eqb, ne_eqb}
use mathlib.Core.Path.{ap, ◌∙◌}
use Rattle.link.specs.declared.frame.Frame.{Frame}
use Rattle.carrier.specs.Sending.{Carried, sending}
use Rattle.carrier.proofs.Carrying.{carries_as}
use Rattle.text.specs.Outputs.{none}
use Rattle.dialogue.specs.Turns.{answering}
use Rattle.dialogue.proofs.answer.answer.Goals as goal

pub returns-then-length-eq0 : goal.returns-then-length-eq0
unfolding answering
returns-then-length-eq0 c =
    let e = eq-eqb _ _ c.if-length-eq0.true in
    record { links = simp e; leaves = simp e; holds = simp e; tells = simp e none }

pub returns : goal.returns
unfolding answering
returns c =
    let a = c.args in
    let e = ne_eqb _ _ c.if-length-eq0.false in
    let frame : Frame → Carried = λ f. sending a.carrier.link a.carrier.script a.memory.now f a.letters.now in
    carries_as (ap frame c.reply.ensures ∙ simp e) c.send.ensures
