-- `sender::sender::Sender::judge_fc` meets its contract. Assumes nothing.
use mathlib.Core.Path.{◌≡◌}
use mathlib.Core.Bool.{true, ◌||◌}
use borrow.Author.Tests.{eq-eqb, ne_eqb}
use lib.Dec.{eqb}
use Rattle.sender.specs.Replies.{judged_fc}
use Rattle.sender.proofs.sender.Sender.judge_fc.Goals as goal
use Rattle.sender.proofs.sender.Sender.judge_fc.Goals.{then-placed-self-via-then-placed-self, then-placed-self-via-else-placed-self+then-placed-eq0}

pub returns-then-placed-self : goal.returns-then-placed-self
unfolding judged_fc
returns-then-placed-self c =
    let offset = c.args.placed.offset in
    let right : (eqb offset c.args.self.position.place || eqb offset 0) ≡ true =
    elim c.then-placed-self.branch [
      | then-placed-self-via-then-placed-self w ↦ simp (eq-eqb _ _ w.if-placed-self.true)
      | then-placed-self-via-else-placed-self+then-placed-eq0 w ↦
          simp (ne_eqb _ _ w.if-placed-self.false, eq-eqb _ _ w.if-placed-eq0.true)
    ] in
    simp (right, c.onward.ensures, c.to.ensures)

pub returns : goal.returns
unfolding judged_fc
returns c =
    simp
    (ne_eqb _ _ c.if-placed-self.false, ne_eqb _ _ c.if-placed-eq0.false, c.wrong_reply.ensures)
