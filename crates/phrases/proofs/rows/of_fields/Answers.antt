-- `phrases::rows::of_fields` meets its contract: the constant has the numbers of a part of the table of specs/. Assumes nothing.
use native.Mathlib.Omega.{arith}
use Rattle.phrases.specs.Table.{fields_from, command_table}
use Rattle.phrases.proofs.Entries.{limits_from}
use Rattle.phrases.proofs.rows.of_fields.Goals as goal

pub returns : goal.returns
unfolding command_table
returns c = limits_from fields_from 23 c.args.i (omega arith) (omega arith)
