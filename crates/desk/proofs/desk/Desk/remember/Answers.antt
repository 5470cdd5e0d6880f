-- `desk::desk::Desk::remember` meets its contract. Assumes nothing.
use mathlib.Core.Path.{◌≡◌, refl, ap, ◌∙◌}
use mathlib.Core.List.{List}
use Prim.Native.Nat.{ℕ}
use native.Mathlib.Omega.{arith}
use borrow.Author.Tests.{ne_eqb}
use Rattle.text.proofs.Texts.{texts_as}
use Rattle.sequences.specs.Places.{written_at}
use Rattle.desk.specs.Effects.{write_texts}
use Rattle.desk.specs.Obeying.{remembered}
use Rattle.desk.proofs.Doings.{told-only, done-told}
use Rattle.desk.proofs.desk.Desk.remember.Goals as goal

pub returns-in-3 : goal.returns-in-3
unfolding remembered
returns-in-3 c =
    let a = c.args in
    simp (c.in-3.is)
    (record { tells = told-only (texts_as (ap (λ (s : List ℕ). write_texts a.number a.phrase.first s a.room.now) c.front-new.ensures) c.write.ensures.tells); leaves-room = c.write.ensures.memory_after ∙ ap (written_at a.room.now a.phrase.first) c.front-new.ensures; leaves-area = refl; leaves-image = refl })

pub returns-in-4 : goal.returns-in-4
unfolding remembered
returns-in-4 c =
    let a = c.args in
    simp (c.in-4.is)
    (record { tells = told-only (texts_as (ap (λ (s : List ℕ). write_texts a.number a.phrase.first s a.area.now) c.front-new.ensures) c.write-in-4.ensures.tells); leaves-room = refl; leaves-area = c.write-in-4.ensures.memory_after ∙ ap (written_at a.area.now a.phrase.first) c.front-new.ensures; leaves-image = refl })

pub returns-in-5 : goal.returns-in-5
unfolding remembered
returns-in-5 c =
    let a = c.args in
    simp (c.in-5.is)
    (record { tells = told-only (texts_as (ap (λ (s : List ℕ). write_texts a.number a.phrase.first s a.image.now) c.front-new.ensures) c.write-in-5.ensures.tells); leaves-room = refl; leaves-area = refl; leaves-image = c.write-in-5.ensures.memory_after ∙ ap (written_at a.image.now a.phrase.first) c.front-new.ensures })

pub returns-in-6 : goal.returns-in-6
unfolding remembered
returns-in-6 c =
    simp (c.in-6.is)
    (done-told (record { leaves = c.with_board.ensures; tells = c.ok.ensures }))

pub returns-in_default : goal.returns-in_default
unfolding remembered
returns-in_default c =
    let command = c.args.phrase.command in
    let no_room : command ≡ 3 → ⊥ = λ e. omega arith in
    let no_area : command ≡ 4 → ⊥ = λ e. omega arith in
    let no_image : command ≡ 5 → ⊥ = λ e. omega arith in
    let no_board : command ≡ 6 → ⊥ = λ e. omega arith in
    simp (ne_eqb _ _ no_room, ne_eqb _ _ no_area, ne_eqb _ _ no_image, ne_eqb _ _ no_board)
    (done-told (record { leaves = c.lending.ensures; tells = c.ok-in_default.ensures }))
