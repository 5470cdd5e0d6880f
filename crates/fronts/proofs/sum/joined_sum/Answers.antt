-- `fronts::sum::joined_sum` meets its contract. Assumes nothing.
use Rattle.std.proofs.Common.{ℕ, ◌+◌, ◌-◌, ◌%◌, length, sym, ap, ◌∙◌, ap₂}
use lib.Seq.{slice}
use Rattle.fronts.specs.Frame.{sum_byte}
use Rattle.sequences.proofs.Slices.{slice-parts}
use Rattle.fronts.proofs.Sums.{sum-append}
use Rattle.fronts.proofs.sum.joined_sum.Goals as goal

pub returns : goal.returns
returns c =
    let o = c.args in
    let first = c.sum-first.ensures ∙ ap sum_byte c.between.ensures in
    let second = c.sum-second.ensures ∙ ap sum_byte c.second.ensures in
    ap₂ (λ (x y : ℕ). (x + y) % 256) first second
    ∙ sum-append (slice o.from o.to o.a.now) (slice (o.from - length o.a.now) (o.to - length o.a.now) o.b.now)
    ∙ ap sum_byte (sym (slice-parts o.from o.to o.a.now o.b.now))
