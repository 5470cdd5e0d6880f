-- `phrases::rows::of_commands` meets its contract: the constant has the numbers of a part of the table of specs/. Assumes nothing.
use Rattle.phrases.specs.Table.{fields_from, command_table}
use Rattle.phrases.proofs.Entries.{limits_first}
use Rattle.phrases.proofs.rows.of_commands.Goals as goal

pub returns : goal.returns
unfolding command_table
returns c = limits_first fields_from c.args.i c.requires
