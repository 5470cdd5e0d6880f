-- `dialogue::run::Run::turn` meets its contract. Assumes nothing.
use mathlib.Core.Path.{sym, ap, ap₂, ◌∙◌}
use Rattle.link.specs.declared.frame.Frame.{Frame}
use Rattle.link.specs.declared.link.Link.{Link}
use Rattle.link.specs.declared.script.Script.{Script}
use Rattle.link.specs.declared.frame.Way.TheVariants.{ToController, ToSender}
use Rattle.dialogue.specs.Dialogues.{Turn, dialogue_of, with_link, with_script}
use Rattle.dialogue.specs.Turns.{silence_told, at_sender, at_controller}
use Rattle.dialogue.proofs.Turns.{made_as}
use Rattle.dialogue.proofs.Steps.{checks, silent, timed_out, arrives, goes}
use Rattle.dialogue.proofs.run.Run.turn.Goals as goal

pub returns-then-is_checking : goal.returns-then-is_checking
returns-then-is_checking c =
    let a = c.args in
    let x = dialogue_of a.self a.memory.now a.area.now in
    made_as (checks x a.image.now a.letters.now
    (sym c.is_checking.ensures ∙ c.if-is_checking.true)) c.check.ensures

pub returns-then-is_silent : goal.returns-then-is_silent
returns-then-is_silent c =
    let a = c.args in
    let x = dialogue_of a.self a.memory.now a.area.now in
    let image = a.image.now in
    let letters = a.letters.now in
    let idle = sym c.is_checking.ensures ∙ c.if-is_checking.false in
    let used : Script → Turn = λ s. silence_told (with_script x s) image letters in
    made_as (ap used c.after-self.ensures ∙ silent x image letters idle
    (sym c.is_silent.ensures ∙ c.if-is_silent.true)) (c.silence.ensures a.area.now)

pub returns-then-self-eq0 : goal.returns-then-self-eq0
returns-then-self-eq0 c =
    let a = c.args in
    let x = dialogue_of a.self a.memory.now a.area.now in
    let idle = sym c.is_checking.ensures ∙ c.if-is_checking.false in
    let other = sym c.is_silent.ensures ∙ c.if-is_silent.false in
    made_as (timed_out x a.image.now a.letters.now idle other c.if-self-eq0.true)
    (c.silence-then-self-eq0.ensures a.area.now)

pub returns-in-ToController : goal.returns-in-ToController
returns-in-ToController c =
    let a = c.args in
    let x = dialogue_of a.self a.memory.now a.area.now in
    let image = a.image.now in
    let letters = a.letters.now in
    let idle = sym c.is_checking.ensures ∙ c.if-is_checking.false in
    let other = sym c.is_silent.ensures ∙ c.if-is_silent.false in
    let fed : Frame → Link → Turn = λ f l. at_controller (with_link x l) f image letters in
    let way = sym (ap (λ (f : Frame). f.way) c.oldest-frame.ensures) ∙ c.in-ToController.is in
    made_as
    (ap₂ fed c.oldest-frame.ensures c.without_oldest-self.ensures
    ∙ goes x image letters ToController way
    ∙ arrives x image letters idle other c.if-self-eq0.false)
    c.at_controller.ensures

pub returns-in-ToSender : goal.returns-in-ToSender
returns-in-ToSender c =
    let a = c.args in
    let x = dialogue_of a.self a.memory.now a.area.now in
    let image = a.image.now in
    let letters = a.letters.now in
    let idle = sym c.is_checking.ensures ∙ c.if-is_checking.false in
    let other = sym c.is_silent.ensures ∙ c.if-is_silent.false in
    let heard : Frame → Link → Turn = λ f l. at_sender (with_link x l) f image letters in
    let way = sym (ap (λ (f : Frame). f.way) c.oldest-frame.ensures) ∙ c.in-ToSender.is in
    made_as
    (ap₂ heard c.oldest-frame.ensures c.without_oldest-self.ensures
    ∙ goes x image letters ToSender way
    ∙ arrives x image letters idle other c.if-self-eq0.false)
    (c.at_sender.ensures a.area.now)
