-- `capture::run::Run::feed` meets its contract. Assumes nothing.
use Rattle.std.proofs.Common.{ℕ, List, length, drop, refl, ap, ◌∙◌, subst, arith}
use Rattle.controller.specs.Calls.{Leaves, fed_call}
use Rattle.bench.specs.Calls.{fresh_room}
use Rattle.capture.proofs.Turns.{passes, length-left}
use Rattle.capture.proofs.run.Run.feed.Goals as goal

pub returns-then-left-eq0 : goal.returns-then-left-eq0
returns-then-left-eq0 c =
    let a = c.args in
    let left = c.behind-left.ensures ∙ ap (drop a.self.unfed.at) c.front.ensures in
    let none = ap length left ∙ length-left a.self.unfed.at a.self.unfed.end a.input.now in
    record { feeds = λ h. absurd (omega (arith, none)); reads = λ _. (c.read.ensures, refl) }

pub returns : goal.returns
returns c =
    let a = c.args in
    let left = c.behind-left.ensures ∙ ap (drop a.self.unfed.at) c.front.ensures in
    let some = ap length left ∙ length-left a.self.unfed.at a.self.unfed.end a.input.now in
    let fed : List ℕ → Type 0 =
    λ s. Leaves (fed_call s a.self.record fresh_room a.area.now) c.feed-c.result c.feed-c.new.room
    c.feed-c.new.area in
    record {
      feeds = λ _. (passes (subst fed left c.feed-c.ensures) c.after.ensures, refl);
      reads = λ h. absurd (c.if-left-eq0.false (omega (arith, some)));
    }
