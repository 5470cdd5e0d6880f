-- `fields::choice::bytes_at` meets its contract. Assumes nothing.
use Rattle.std.proofs.Common.{◌∙◌, arith}
use Rattle.std.specs.Prelude.{replicate}
use Rattle.std.proofs.lemmas.List.{length-replicate}
use Rattle.sequences.proofs.Places.{copied-out}
use Rattle.fields.proofs.choice.bytes_at.Goals as goal

pub returns : goal.returns
returns g c =
    let a = c.args in
    let n = g.row.N in
    c.copy_out.ensures ∙ copied-out a.bytes.now (replicate n 0) a.at n (length-replicate n 0) (omega (arith, c.requires, c.told-bytes))
