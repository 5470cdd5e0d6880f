-- `commands::table::header_of` meets its contract. Assumes nothing.
use borrow.Author.Tests.{lt-ltb}
use Rattle.commands.specs.Table.{header_of}
use Rattle.commands.proofs.Rows.{unlisted, listed}
use Rattle.commands.proofs.table.header_of.Goals as goal

pub returns-in-None : goal.returns-in-None
unfolding header_of
returns-in-None c = simp (unlisted c.args.command c.in-None.ensures)

pub returns-in-Some : goal.returns-in-Some
unfolding header_of
returns-in-Some c =
    let row = listed c.args.command c.in-Some.row c.in-Some.ensures in
    simp (lt-ltb _ _ row.1, ← row.0, ← c.bad_header.ensures, c.if-bad_header.true)

pub returns-in-Some-2 : goal.returns-in-Some-2
unfolding header_of
returns-in-Some-2 c =
    let row = listed c.args.command c.in-Some.row c.in-Some.ensures in
    simp (lt-ltb _ _ row.1, ← row.0, ← c.bad_header.ensures, c.if-bad_header.false)
