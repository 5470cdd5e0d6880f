-- `sender::sender::Sender::judge_fe` meets its contract. Assumes nothing.
use mathlib.Core.Path.{◌≡◌}
use mathlib.Core.Bool.{true, ◌||◌}
use borrow.Author.Tests.{eq-eqb, ne_eqb, le-ltb, lt-ltb}
use lib.Dec.{ltb, eqb}
use Rattle.commands.specs.States.{never_sent_fe, refused_fe}
use Rattle.sender.specs.Replies.{judged_fe}
use Rattle.sender.proofs.sender.Sender.judge_fe.Goals as goal
use Rattle.sender.proofs.sender.Sender.judge_fe.Goals.{then-end-gt-FE_REFUSED-via-then-end-gt-FE_REFUSED, then-end-gt-FE_REFUSED-via-else-end-gt-FE_REFUSED+then-end-eq-FE_NEVER_SENT}

pub returns-then-end-gt-FE_REFUSED : goal.returns-then-end-gt-FE_REFUSED
unfolding judged_fe
returns-then-end-gt-FE_REFUSED c =
    let state = c.args.end.state in
    let wrong : (ltb refused_fe state || eqb state never_sent_fe) ≡ true =
    elim c.then-end-gt-FE_REFUSED.branch [
      | then-end-gt-FE_REFUSED-via-then-end-gt-FE_REFUSED w ↦ simp (lt-ltb _ _ w.if-end-gt-FE_REFUSED.true)
      | then-end-gt-FE_REFUSED-via-else-end-gt-FE_REFUSED+then-end-eq-FE_NEVER_SENT w ↦
          simp (le-ltb _ _ w.if-end-gt-FE_REFUSED.false, eq-eqb _ _ w.if-end-eq-FE_NEVER_SENT.true)
    ] in
    simp (wrong, c.wrong_reply.ensures)

pub returns-then-end-eq-GRANTED : goal.returns-then-end-eq-GRANTED
unfolding judged_fe
returns-then-end-eq-GRANTED c =
    simp (
      le-ltb _ _ c.if-end-gt-FE_REFUSED.false,
      ne_eqb _ _ c.if-end-eq-FE_NEVER_SENT.false,
      eq-eqb _ _ c.if-end-eq-GRANTED.true,
      c.moved_to.ensures,
      c.to.ensures,
    )

pub returns : goal.returns
unfolding judged_fe
returns c =
    simp (
      le-ltb _ _ c.if-end-gt-FE_REFUSED.false,
      ne_eqb _ _ c.if-end-eq-FE_NEVER_SENT.false,
      ne_eqb _ _ c.if-end-eq-GRANTED.false,
      c.leg_over.ensures,
    )
