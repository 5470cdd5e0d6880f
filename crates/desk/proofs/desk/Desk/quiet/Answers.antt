-- `desk::desk::Desk::quiet` meets its contract. Assumes nothing.
use mathlib.Core.Path.{ap, ap₂, ◌∙◌}
use mathlib.Core.List.{List}
use Prim.Native.Nat.{ℕ}
use lib.ListN.{take}
use Rattle.controller.specs.declared.call.Called.{Called}
use Rattle.controller.specs.Calls.{CallLeaves, quieted_call}
use Rattle.desk.specs.Desks.{with_record}
use Rattle.desk.specs.Effects.{quiet_name, call_texts}
use Rattle.desk.specs.Lent.{left_as}
use Rattle.desk.proofs.Tellings.{told_as, call_texts_as}
use Rattle.desk.proofs.desk.Desk.quiet.Goals as goal

pub returns : goal.returns
returns c =
    let a = c.args in
    let d = a.self in
    let room = a.room.now in
    let area = a.area.now in
    let n = c.smaller-n.result in
    let m = c.smaller-m.result in
    let call = c.quiet-c.ensures in
    let made : ℕ → ℕ → CallLeaves = λ (k : ℕ) (l : ℕ). quieted_call d.record (take k room) (take l area) in
    let line : ℕ → ℕ → List (List ℕ) = λ (k : ℕ) (l : ℕ).
    let x = made k l in
    call_texts d a.number quiet_name x.called (take k room) (take k (left_as x.room k room)) (take l area)
    (take l (left_as x.area l area)) in
    let given = call_texts_as d a.number quiet_name call.gives c.keep.ensures (ap (take n) call.in_room) c.keep-2.ensures (ap (take m) call.in_area) in
    let e = c.smaller-n.ensures in
    let f = c.smaller-m.ensures in
    record {
      leaves-room = call.in_room ∙ ap₂ (λ (k : ℕ) (l : ℕ). left_as (made k l).room k room) e f;
      leaves-area = call.in_area ∙ ap₂ (λ (k : ℕ) (l : ℕ). left_as (made k l).area l area) e f;
      tells =
          told_as
          (ap (λ (y : Called). with_record d y.next) call.gives ∙ ap₂ (λ (k : ℕ) (l : ℕ). with_record d (made k l).called.next) e f)
          (given ∙ ap₂ line e f) c.called.ensures;
    }
