-- `desk::desk::Desk::obey` meets its contract. Assumes nothing.
use native.Mathlib.Omega.{arith}
use borrow.Author.Tests.{lt-ltb, le-ltb}
use Rattle.desk.specs.Obeying.{obeyed}
use Rattle.desk.proofs.Doings.{told-only, done-told}
use Rattle.desk.proofs.desk.Desk.obey.Goals as goal

pub returns-then-is_bad : goal.returns-then-is_bad
unfolding obeyed
returns-then-is_bad c = simp (← c.is_bad.ensures, c.if-is_bad.true) (done-told (told-only c.bad.ensures))

pub returns-in-0-to-6 : goal.returns-in-0-to-6
unfolding obeyed
returns-in-0-to-6 c =
    let command = c.args.phrase.command in
    simp (← c.is_bad.ensures, c.if-is_bad.false, lt-ltb command 7 (omega arith)) c.remember.ensures

pub returns-in-7-to-12 : goal.returns-in-7-to-12
unfolding obeyed
returns-in-7-to-12 c =
    let a = c.args in
    let command = a.phrase.command in
    simp (← c.is_bad.ensures, c.if-is_bad.false, le-ltb command 7 (omega arith), lt-ltb command 13 (omega arith)) (c.call.ensures a.image.now)

pub returns-in-13-to-35 : goal.returns-in-13-to-35
unfolding obeyed
returns-in-13-to-35 c =
    let command = c.args.phrase.command in
    simp
    (← c.is_bad.ensures, c.if-is_bad.false, le-ltb command 7 (omega arith), le-ltb command 13 (omega arith), lt-ltb command 36 (omega arith))
    (done-told c.set.ensures)

pub returns-in-36-to-40 : goal.returns-in-36-to-40
unfolding obeyed
returns-in-36-to-40 c =
    let a = c.args in
    let command = a.phrase.command in
    simp
    (← c.is_bad.ensures, c.if-is_bad.false, le-ltb command 7 (omega arith), le-ltb command 13 (omega arith), le-ltb command 36 (omega arith), lt-ltb command 41 (omega arith))
    (c.call_sender.ensures a.area.now)

pub returns-in_default : goal.returns-in_default
unfolding obeyed
returns-in_default c =
    let command = c.args.phrase.command in
    simp
    (← c.is_bad.ensures, c.if-is_bad.false, le-ltb command 7 (omega arith), le-ltb command 13 (omega arith), le-ltb command 36 (omega arith), le-ltb command 41 (omega arith))
    (done-told c.set_sender.ensures)
