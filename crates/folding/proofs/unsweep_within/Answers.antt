-- `folding::unsweep_within` meets its contract. The loop's invariant: the first i bytes are those that were swept. Assumes nothing.
use borrow.Author.Rules.{rules}
use Rattle.folding.proofs.Turns.{unswept_more}
use Rattle.folding.proofs.unsweep_within.Goals as goal

pub loop-i-preserved : goal.loop-i-preserved
loop-i-preserved c =
    let l = c.loop-i in
    let g = c.gather in record {
      long = search rules;
      done = unswept_more c.args.offsets.now c.args.b.now l.u c.args.at l.i g.result (search rules) g.ensures l.invariant.done;
    }
