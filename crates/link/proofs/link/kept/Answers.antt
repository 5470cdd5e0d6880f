-- `link::link::kept` meets its contract. Assumes nothing.
use Rattle.std.proofs.Common.{ℕ, length, take, drop, refl, ap, ◌∙◌, arith}
use Rattle.sequences.specs.Padding.{zeros}
use Rattle.sequences.specs.Places.{written_at}
use Rattle.sequences.proofs.Places.{copied-out}
use Rattle.link.specs.Links.{place_size, place_start}
use Rattle.link.proofs.link.kept.Goals as goal

pub returns : goal.returns
returns c =
    let a = c.args in
    let none = zeros place_size in
    c.copy_out.ensures
    ∙ ap (λ (i : ℕ). written_at none 0 (take (length none) (drop i a.memory.now))) c.start.ensures
    ∙ copied-out a.memory.now none (place_start a.at) place_size refl (omega arith)
