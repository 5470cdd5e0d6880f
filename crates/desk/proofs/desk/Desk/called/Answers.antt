-- `desk::desk::Desk::called` meets its contract. Assumes nothing.
use mathlib.Core.Path.{refl, ap₂, ◌∙◌}
use mathlib.Core.List.{List}
use Prim.Native.Nat.{ℕ}
use lib.ListN.{take}
use Rattle.text.proofs.Texts.{◌then◌}
use Rattle.desk.specs.Effects.{call_texts}
use Rattle.desk.proofs.Tellings.{told-behind, told_as}
use Rattle.desk.proofs.desk.Desk.called.Goals as goal

pub returns : goal.returns
returns c =
    let a = c.args in
    let line : List ℕ → List ℕ → List ℕ → List ℕ → List (List ℕ) = λ (k : List ℕ) (r : List ℕ) (l : List ℕ) (s : List ℕ). call_texts a.self a.number a.name.now a.c k r l s in
    let e = ap₂ (λ (k : List ℕ) (r : List ℕ). line k r c.front-3.result.now c.front-4.result.now) c.front.ensures c.front-2.ensures in
    let f = ap₂ (λ (l : List ℕ) (s : List ℕ). line (take a.n a.kept.now) (take a.n a.room.now) l s) c.front-3.ensures c.front-4.ensures in
    told_as refl (e ∙ f)
    (told-behind (c.begun.ensures then c.called.ensures) c.with_record.ensures)
