-- `carrier::carrier::Carrier::send` meets its contract. Assumes nothing.
use Rattle.std.proofs.Common.{◌≡◌, ℕ, List, sym, ap, ◌∙◌, ap₂, ⊎_elim, Option, unwrap_or}
use Rattle.link.specs.declared.frame.Frame.{Frame}
use Rattle.link.specs.declared.link.Link.{Link}
use Rattle.link.specs.declared.script.Letter.{Letter}
use Rattle.link.specs.declared.script.Letter.TheVariants.{Pass, Silence, Other}
use Rattle.link.specs.declared.script.Script.{Script}
use Rattle.link.specs.Scripts.{letter_of, after_sending}
use Rattle.carrier.specs.Sending.{by_letter, sending}
use Rattle.carrier.proofs.Carrying.{carries_as, carries-both}
use Rattle.carrier.proofs.carrier.Carrier.send.Goals as goal

-- what the letter does, and what is left of the script behind it
by : {letter said : Letter} {next : Option Letter} (l : Link) (s left : Script) (m : List ℕ) (f : Frame) (letters : List ℕ)
    → said ≡ letter → said ≡ unwrap_or next Pass → next ≡ letter_of s letters → left ≡ after_sending s letters
    → by_letter letter l left m f ≡ sending l s m f letters
unfolding sending
by l s left m f letters is said next e =
    ap₂ (λ (x : Letter) (t : Script). by_letter x l t m f) (sym is ∙ said ∙ ap (λ (o : Option Letter). unwrap_or o Pass) next) e

pub returns-in-Lose : goal.returns-in-Lose
returns-in-Lose c =
    let a = c.args in
    carries_as (by a.self.link a.self.script _ a.memory.now a.frame a.letters.now c.in-Lose.is c.unwrap_or-letter.ensures c.next.ensures
    c.after_sending-self.ensures) (c.lose.ensures a.memory.now)

pub returns-in-Repeat : goal.returns-in-Repeat
returns-in-Repeat c =
    let a = c.args in
    carries_as (by a.self.link a.self.script _ a.memory.now a.frame a.letters.now c.in-Repeat.is c.unwrap_or-letter.ensures c.next.ensures
    c.after_sending-self.ensures) (carries-both a.self.link _ a.memory.now a.frame c.pass.ensures c.pass-in-Repeat.ensures)

pub returns-in-Pass : goal.returns-in-Pass
returns-in-Pass c =
    let a = c.args in
    let on : (letter : Letter) → c.unwrap_or-letter.result ≡ letter → by_letter letter a.self.link c.after_sending-self.result a.memory.now a.frame
    ≡ sending a.self.link a.self.script a.memory.now a.frame a.letters.now =
    λ letter is. by a.self.link a.self.script _ a.memory.now a.frame a.letters.now is c.unwrap_or-letter.ensures c.next.ensures c.after_sending-self.ensures in
    carries_as
    (⊎_elim (λ is. on Pass is) (λ rest. ⊎_elim (λ is. on Silence is) (λ other. on (Other other.0) other.1) rest) c.in-Pass.is)
    c.pass-in-Pass.ensures
