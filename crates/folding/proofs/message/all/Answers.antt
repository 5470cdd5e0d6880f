-- `folding::message::all` meets its contract. The loop's invariant: the register is carried on over the parts so far. Assumes nothing.
use borrow.Author.Rules.{rules}
use mathlib.Core.Path.{◌∙◌}
use Rattle.crc.proofs.Parts.{carrying_none, carrying_next, carrying_all}
use Rattle.folding.proofs.message.all.Goals as goal

pub loop-piece-init : goal.loop-piece-init
loop-piece-init g c = record {
  size = search rules;
  carried = λ k within multiple. carrying_none k _ _ c.args.s.now c.args.b.now _ (search rules);
}

pub loop-piece-preserved : goal.loop-piece-preserved
loop-piece-preserved g c =
    let l = c.loop-piece in
    let next = c.in-Some.ensures.steps in record {
      size = next.0 ∙ l.invariant.size;
      carried = λ k within multiple. carrying_next k _ _ c.args.s.now c.args.b.now _ _ _ _ _ next.1.0
          (c.part.ensures k within multiple) (l.invariant.carried k within multiple);
    }

pub returns : goal.returns
returns g c =
    λ k within multiple.
    carrying_all k _ _ c.args.s.now c.args.b.now _ _ c.in-None.ensures.steps.1.0
    (c.loop-piece.invariant.carried k within multiple)
