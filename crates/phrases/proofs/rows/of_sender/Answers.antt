-- `phrases::rows::of_sender` meets its contract: the constant has the numbers of a part of the table of specs/. Assumes nothing.
use native.Mathlib.Omega.{arith}
use Rattle.phrases.specs.Table.{sender_from, command_table}
use Rattle.phrases.proofs.Entries.{limits_from}
use Rattle.phrases.proofs.rows.of_sender.Goals as goal

pub returns : goal.returns
unfolding command_table
returns c = limits_from sender_from 22 c.args.i (omega arith) (omega arith)
