-- `sender::sender::Sender::judge_fd` meets its contract. Assumes nothing.
use native.Mathlib.Omega.{arith}
use borrow.Author.Tests.{eq-eqb, ne_eqb, le-ltb, lt-ltb}
use Rattle.sender.specs.Replies.{judged_fd}
use Rattle.sender.proofs.Packets.{next_fits}
use Rattle.sender.proofs.sender.Sender.judge_fd.Goals as goal

pub returns-then-packet-gt-FD_NOT_RECEIVING : goal.returns-then-packet-gt-FD_NOT_RECEIVING
unfolding judged_fd
returns-then-packet-gt-FD_NOT_RECEIVING c = simp (lt-ltb _ _ c.if-packet-gt-FD_NOT_RECEIVING.true, c.wrong_reply.ensures)

pub overflow_add-place : goal.overflow_add-place
overflow_add-place c =
    omega (arith, c.next_size.ensures, next_fits c.args.self, c.requires)

pub returns-then-packet-eq-GRANTED : goal.returns-then-packet-eq-GRANTED
unfolding judged_fd
returns-then-packet-eq-GRANTED c =
    simp (
      le-ltb _ _ c.if-packet-gt-FD_NOT_RECEIVING.false,
      eq-eqb _ _ c.if-packet-eq-GRANTED.true,
      ← c.next_size.ensures,
      c.onward.ensures,
      c.to.ensures,
    )

pub returns : goal.returns
unfolding judged_fd
returns c =
    simp
    (le-ltb _ _ c.if-packet-gt-FD_NOT_RECEIVING.false, ne_eqb _ _ c.if-packet-eq-GRANTED.false, c.leg_over.ensures)
