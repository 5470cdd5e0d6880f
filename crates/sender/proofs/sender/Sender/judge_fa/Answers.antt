-- `sender::sender::Sender::judge_fa` meets its contract. Assumes nothing.
use mathlib.Core.Path.{◌≡◌}
use mathlib.Core.Bool.{true, not, ◌||◌}
use borrow.Author.Tests.{eq-eqb, ne_eqb, le-ltb, lt-ltb}
use lib.Dec.{ltb, eqb}
use Rattle.commands.specs.Limits.{max_packet}
use Rattle.commands.specs.States.{denied_fa}
use Rattle.sender.specs.Replies.{judged_fa}
use Rattle.sender.proofs.sender.Sender.judge_fa.Goals as goal
use Rattle.sender.proofs.sender.Sender.judge_fa.Goals.{then-asked-gt-FA_DENIED-via-then-asked-gt-FA_DENIED, then-asked-gt-FA_DENIED-via-else-asked-gt-FA_DENIED+then-asked-ne-MAX_PACKET}

pub returns-then-asked-gt-FA_DENIED : goal.returns-then-asked-gt-FA_DENIED
unfolding judged_fa
returns-then-asked-gt-FA_DENIED c =
    let r = c.args.asked in
    let wrong : (ltb denied_fa r.flag || not (eqb r.len2 max_packet)) ≡ true =
    elim c.then-asked-gt-FA_DENIED.branch [
      | then-asked-gt-FA_DENIED-via-then-asked-gt-FA_DENIED w ↦ simp (lt-ltb _ _ w.if-asked-gt-FA_DENIED.true)
      | then-asked-gt-FA_DENIED-via-else-asked-gt-FA_DENIED+then-asked-ne-MAX_PACKET w ↦
          simp (le-ltb _ _ w.if-asked-gt-FA_DENIED.false, ne_eqb _ _ w.if-asked-ne-MAX_PACKET.true)
    ] in
    simp (wrong, c.wrong_reply.ensures)

pub returns-then-asked-eq-GRANTED : goal.returns-then-asked-eq-GRANTED
unfolding judged_fa
returns-then-asked-eq-GRANTED c =
    simp (
      le-ltb _ _ c.if-asked-gt-FA_DENIED.false,
      eq-eqb _ _ c.if-asked-ne-MAX_PACKET.false,
      eq-eqb _ _ c.if-asked-eq-GRANTED.true,
      c.moved_to.ensures,
      c.to.ensures,
    )

pub returns : goal.returns
unfolding judged_fa
returns c =
    simp (
      le-ltb _ _ c.if-asked-gt-FA_DENIED.false,
      eq-eqb _ _ c.if-asked-ne-MAX_PACKET.false,
      ne_eqb _ _ c.if-asked-eq-GRANTED.false,
      c.given_up.ensures,
    )
