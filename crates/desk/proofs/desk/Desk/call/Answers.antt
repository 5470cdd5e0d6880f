-- `desk::desk::Desk::call` meets its contract. Assumes nothing.
use mathlib.Core.Path.{◌≡◌, refl, ap, ◌∙◌}
use mathlib.Core.List.{List}
use Prim.Native.Nat.{ℕ}
use native.Mathlib.Omega.{arith}
use borrow.Author.Tests.{ne_eqb}
use Rattle.controller.specs.Calls.{CallLeaves}
use Rattle.desk.specs.Effects.{feed_name, fed_lent, room_left, area_left}
use Rattle.desk.specs.Obeying.{controlled, called_effect}
use Rattle.desk.proofs.Tellings.{told_as}
use Rattle.desk.proofs.Doings.{done-told}
use Rattle.desk.proofs.desk.Desk.call.Goals as goal

pub returns-in-7 : goal.returns-in-7
unfolding controlled
returns-in-7 c = λ image. simp (c.in-7.is) (done-told c.open.ensures)

pub returns-in-8 : goal.returns-in-8
unfolding controlled
returns-in-8 c =
    let a = c.args in
    let e = ap (λ (s : List ℕ). fed_lent a.self s a.room.now a.area.now) c.front-fed.ensures in
    let f = c.feed.ensures in
    λ image. simp (c.in-8.is)
    (record {
      tells = told_as (ap (λ (x : CallLeaves). (called_effect a.self a.number a.phrase a.bytes.now a.room.now a.area.now image feed_name x).desk) e)
          (ap (λ (x : CallLeaves). (called_effect a.self a.number a.phrase a.bytes.now a.room.now a.area.now image feed_name x).texts) e) f.tells;
      leaves-room = f.leaves-room ∙ ap (λ (x : CallLeaves). room_left a.self x.room a.room.now) e;
      leaves-area = f.leaves-area ∙ ap (λ (x : CallLeaves). area_left a.self x.area a.area.now) e;
      leaves-image = refl;
    })

pub returns-in-9 : goal.returns-in-9
unfolding controlled
returns-in-9 c = λ image. let f = c.quiet.ensures in simp (c.in-9.is) (record { tells = f.tells; leaves-room = f.leaves-room; leaves-area = f.leaves-area; leaves-image = refl })

pub returns-in_default : goal.returns-in_default
unfolding controlled
returns-in_default c =
    let command = c.args.phrase.command in
    let no_open : command ≡ 7 → ⊥ = λ e. omega arith in
    let no_feed : command ≡ 8 → ⊥ = λ e. omega arith in
    let no_quiet : command ≡ 9 → ⊥ = λ e. omega arith in
    λ image. simp (ne_eqb _ _ no_open, ne_eqb _ _ no_feed, ne_eqb _ _ no_quiet) (c.watch.ensures image)
