-- `commands::table::row_of` meets its contract. Assumes nothing.
use mathlib.Core.Path.{ap, ◌∙◌}
use native.Mathlib.Omega.{arith}
use Rattle.std.specs.Prelude.{Option}
use Rattle.std.specs.Option.{unwrap_or}
use Rattle.commands.specs.declared.table.Row.{Row}
use Rattle.commands.specs.Table.{row, place_in_table}
use Rattle.commands.proofs.Rows.{reply-short, row-or_zeros}
use Rattle.commands.proofs.table.row_of.Goals as goal

pub returns : goal.returns
returns c =
    let is = c.unwrap_or.ensures ∙ ap (λ (o : Option Row). unwrap_or o (row 0 0 0 0 0 0)) c.listed.ensures
    ∙ row-or_zeros c.args.command in
    record { is = is; fits = omega (arith, ap (λ (r : Row). r.reply_length) is, reply-short (place_in_table c.args.command)) }
