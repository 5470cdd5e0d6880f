-- `desk::desk::Desk::report` meets its contract. Assumes nothing.
use mathlib.Core.Path.{ap, ap₂, ◌∙◌}
use mathlib.Core.List.{List}
use Prim.Native.Nat.{ℕ}
use lib.ListN.{take}
use Rattle.text.proofs.Texts.{texts_as, ◌then◌}
use Rattle.desk.specs.Lent.{left_as}
use Rattle.controller.specs.OutwardReport.{reported, room_reported}
use Rattle.commands.specs.Outcomes.{outcome_number}
use Rattle.answers.specs.Answers.{framed_texts}
use Rattle.controller.specs.declared.report.Reported.{Reported}
use Rattle.desk.proofs.desk.Desk.report.Goals as goal

pub returns : goal.returns
returns c =
    let a = c.args in
    let d = a.self in
    let room = a.room.now in
    let n = c.smaller-n.result in
    let call = c.report-r in
    let left : ℕ → List ℕ = λ (k : ℕ). left_as (room_reported d.record (take k room)) k room in
    let line : ℕ → List (List ℕ) = λ (k : ℕ).
    let x = reported d.record (take k room) in
    framed_texts (outcome_number x.outcome) x.length (take k room) (take k (left k)) in
    let before = c.front.ensures ∙ c.keep.ensures in
    let after = c.front-2.ensures ∙ ap (take n) call.ensures.room_after in
    let told = ap (λ (k : ℕ). framed_texts k call.result.length c.front.result.now c.front-2.result.now) c.from.ensures in
    let given = ap (λ (x : Reported). framed_texts (outcome_number x.outcome) x.length c.front.result.now c.front-2.result.now) call.ensures.value in
    let x = reported d.record (take n room) in
    let lent = ap₂ (λ (k : List ℕ) (s : List ℕ). framed_texts (outcome_number x.outcome) x.length k s) before after in
    let e = c.smaller-n.ensures in
    record {
      tells = c.begun.ensures then texts_as (told ∙ given ∙ lent ∙ ap line e) c.framed.ensures;
      room_after = call.ensures.room_after ∙ ap left e;
    }
