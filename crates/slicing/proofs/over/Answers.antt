-- `slicing::over` meets its contract. The loop's invariant: whole blocks are left, and by right tables they carry c on to the register after
-- all blocks. Assumes nothing.
use borrow.Author.Rules.{rules}
use mathlib.Core.Path.{ap, ◌∙◌}
use Prim.Native.Nat.{ℕ, ◌-◌, ◌%◌}
use lib.ListN.{length, take}
use Rattle.crc.specs.Crc.{update}
use Rattle.slicing.proofs.Blocks.{whole_first, whole_next, register_next, register_end, register_whole}
use Rattle.slicing.proofs.over.Goals as goal

pub loop-b-init : goal.loop-b-init
loop-b-init g c = record {
  size = search rules;
  whole = whole_first g.T.Tables.COUNT (length c.args.s.now) _ (search rules);
  reached = λ k goes right. ap (update k (g.T.Register.Register.number c.args.register)) (search rules);
}

pub loop-b-preserved : goal.loop-b-preserved
loop-b-preserved g c =
    let l = c.loop-b in
    let next = c.in-Some.ensures.steps in record {
      size = next.0 ∙ l.invariant.size;
      whole = whole_next g.T.Tables.COUNT _ _ _ next.1.0 (next.1.1 ∙ l.invariant.size) l.invariant.whole;
      reached = λ k goes right. register_next k _ _ _ _ _ _ next.1.0 (c.block-c.ensures k goes right) (l.invariant.reached k goes right);
    }

pub returns : goal.returns
returns g c =
    λ k goes right.
    let l = c.loop-b in
    register_whole k _ _ _ _ c.args.s.now _ _ c.split_at.ensures.by_index.0
    (c.split_at.ensures.front ∙ ap (λ (n : ℕ). take (length c.args.s.now - length c.args.s.now % n) c.args.s.now) c.COUNT.ensures)
    (register_end k g.T.Tables.COUNT _ _ _ l.invariant.whole (search rules) (l.invariant.reached k goes right))
    (c.block.ensures k goes right)
