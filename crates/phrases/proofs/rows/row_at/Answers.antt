-- `phrases::rows::row_at` meets its contract. Assumes nothing.
use mathlib.Core.Path.{sym}
use lib.ListN.{get_or-eq_default}
use Rattle.phrases.specs.Table.{command_table, no_row, command_row}
use Rattle.phrases.proofs.Entries.{row_of}
use Rattle.phrases.proofs.rows.row_at.Goals as goal

pub returns-then-i-lt-ROWS : goal.returns-then-i-lt-ROWS
returns-then-i-lt-ROWS c =
    let limits = c.limits_at-limits in
    row_of c.args.i c.name_at.result limits.result c.name_at.ensures limits.ensures

pub returns : goal.returns
unfolding command_row command_table
returns c = sym (get_or-eq_default command_table no_row {n = c.args.i} c.if-i-lt-ROWS.false)
