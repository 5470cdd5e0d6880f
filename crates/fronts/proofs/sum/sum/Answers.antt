-- `fronts::sum::sum` meets its contract. The loop's invariant: total is the sum byte of the bytes so far. Assumes nothing.
use Rattle.std.proofs.Common.{ℕ, ◌+◌, ◌%◌, get_or, ap, ◌∙◌}
use Rattle.fronts.proofs.Sums.{sum-next}
use Rattle.fronts.proofs.sum.sum.Goals as goal

pub loop-byte-preserved : goal.loop-byte-preserved
loop-byte-preserved c =
    let s = c.args.s.now in
    let i = c.loop-byte.byte-index in
    ap (λ (n : ℕ). (n + get_or s i 0) % 256) c.loop-byte.invariant ∙ sum-next s i c.loop-byte-test.true
