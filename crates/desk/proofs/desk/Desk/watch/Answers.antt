-- `desk::desk::Desk::watch` meets its contract. Assumes nothing.
use mathlib.Core.Path.{◌≡◌, refl}
use native.Mathlib.Omega.{arith}
use borrow.Author.Tests.{eq-eqb, ne_eqb}
use Rattle.desk.specs.Obeying.{watched}
use Rattle.desk.proofs.Doings.{told-only, done-told}
use Rattle.desk.proofs.desk.Desk.watch.Goals as goal

pub returns-in-10 : goal.returns-in-10
unfolding watched
returns-in-10 c = λ image. let f = c.portion.ensures in simp (eq-eqb _ _ c.in-10.is) (record { tells = f.tells; leaves-room = f.leaves-room; leaves-area = refl; leaves-image = refl })

pub returns-in-11 : goal.returns-in-11
unfolding watched
returns-in-11 c = λ image. let f = c.report.ensures in simp (c.in-11.is) (record { tells = told-only f.tells; leaves-room = f.room_after; leaves-area = refl; leaves-image = refl })

pub returns-in_default : goal.returns-in_default
unfolding watched
returns-in_default c =
    let command = c.args.phrase.command in
    let no_portion : command ≡ 10 → ⊥ = λ e. omega arith in
    let no_report : command ≡ 11 → ⊥ = λ e. omega arith in
    λ image. simp (ne_eqb _ _ no_portion, ne_eqb _ _ no_report) (done-told (told-only c.show.ensures))
