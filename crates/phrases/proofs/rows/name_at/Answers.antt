-- `phrases::rows::name_at` meets its contract: the constant has the names of the table of specs/. Assumes nothing.
use mathlib.Core.Path.{refl, ◌∙◌}
use Prim.Native.Nat.{◌*◌}
use native.Mathlib.Omega.{arith}
use lib.ListN.{replicate}
use Rattle.sequences.proofs.Places.{copied-out}
use Rattle.phrases.specs.Table.{name_size, command_table}
use Rattle.phrases.proofs.Entries.{names_of, name_of}
use Rattle.phrases.proofs.rows.name_at.Goals as goal

pub returns : goal.returns
unfolding command_table
returns c =
    let i = c.args.i in
    c.copy_out.ensures
    ∙ copied-out (names_of command_table) (replicate name_size 0) (i * name_size) name_size refl (omega arith)
    ∙ name_of i (omega arith)
