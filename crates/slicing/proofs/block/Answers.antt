-- `slicing::block` meets its contract. The loop's invariant: by right tables, with the entries of the bytes from the i-th on, all are
-- added. Assumes nothing.
use mathlib.Core.Path.{◌∙◌}
use native.Mathlib.Numerals.{unary_clauses}
use native.Mathlib.Omega.{arith}
use Rattle.crc.proofs.Slicing.{entries-none, entries_next, entries_all}
use Rattle.slicing.proofs.block.Goals as goal

pub loop-i-init : goal.loop-i-init
loop-i-init g c =
    λ k goes right.
    let octet = g.met.T.Register.Register.has_a_byte in
    simp unary_clauses (entries-none k (omega (arith, octet, goes.0)) _ _ c.args.b.now c.none-sum.ensures)

pub loop-i-preserved : goal.loop-i-preserved
loop-i-preserved g c =
    λ k goes right.
    let l = c.loop-i in
    entries_next k _ _ goes c.args.b.now l.i _ _ _ _ _ _ _ c.loop-i-test.true c.front.ensures (c.at.ensures k (omega arith) right)
    c.plus-sum.ensures c.rest-left.ensures (l.invariant k goes right)

pub returns : goal.returns
returns g c =
    λ k goes right.
    let l = c.loop-i in
    c.plus.ensures ∙ entries_all k c.args.b.now l.i _ _ _ (omega arith) (l.invariant k goes right)
