-- `desk::desk::Desk::portion` meets its contract. Assumes nothing.
use mathlib.Core.Path.{ap, ap₂, ◌∙◌}
use mathlib.Core.List.{List, ◌++◌}
use Prim.Native.Nat.{ℕ}
use lib.ListN.{take}
use Rattle.text.specs.Ascii.{ascii}
use Rattle.text.proofs.Texts.{◌then◌}
use Rattle.desk.specs.Lent.{left_as}
use Rattle.answers.specs.Answers.{begun_texts, portioned_texts, changed_texts}
use Rattle.controller.specs.declared.portion.Portioned.{Portioned}
use Rattle.controller.specs.Portions.{PortionLeaves, portion_call}
use Rattle.desk.specs.Desks.{with_record}
use Rattle.desk.proofs.Tellings.{told-behind, told_as}
use Rattle.desk.proofs.desk.Desk.portion.Goals as goal

pub returns : goal.returns
returns c =
    let a = c.args in
    let d = a.self in
    let room = a.room.now in
    let n = c.smaller-n.result in
    let call = c.portion-p in
    let made : ℕ → List ℕ → PortionLeaves = λ (k : ℕ) (area : List ℕ). portion_call a.most d.record (take k room) area in
    let left : ℕ → List ℕ → List ℕ = λ (k : ℕ) (area : List ℕ). left_as (made k area).room k room in
    let line : ℕ → List ℕ → List (List ℕ) = λ (k : ℕ) (area : List ℕ).
    let x = made k area in
    begun_texts a.number (ascii " portion ")
    ++ portioned_texts x.called (take k room) (take k (left k area))
    ++ changed_texts d.record x.called.next in
    let lent-area = c.front.ensures in
    let before = c.front-2.ensures ∙ c.keep.ensures in
    let after = c.front-3.ensures ∙ ap (take n) call.ensures.room_after in
    let given = ap (λ (p : Portioned). begun_texts a.number (ascii " portion ") ++ portioned_texts p c.front-2.result.now c.front-3.result.now ++ changed_texts d.record p.next) call.ensures.value in
    let x = made n c.front.result.now in
    let lent = ap₂ (λ (k : List ℕ) (s : List ℕ). begun_texts a.number (ascii " portion ") ++ portioned_texts x.called k s ++ changed_texts d.record x.called.next) before after in
    let e = c.smaller-n.ensures in
    record {
      leaves-room = call.ensures.room_after ∙ ap₂ left e lent-area;
      tells =
          told_as
          (ap (λ (p : Portioned). with_record d p.next) call.ensures.value
          ∙ ap₂ (λ (k : ℕ) (s : List ℕ). with_record d (made k s).called.next) e lent-area)
          (given ∙ lent ∙ ap₂ line e lent-area)
          (told-behind (c.begun.ensures then c.portioned.ensures) c.with_record.ensures);
    }
