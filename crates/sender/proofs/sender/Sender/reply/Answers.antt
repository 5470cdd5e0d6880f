-- `sender::sender::Sender::reply` meets its contract. Assumes nothing.
use lib.ListN.{length}
use Rattle.sender.specs.Replies.{after_reply}
use Rattle.sender.proofs.Refusals.{not-refused}
use Rattle.sender.proofs.sender.Sender.reply.Goals as goal

pub returns-in-Some : goal.returns-in-Some
unfolding after_reply
returns-in-Some c = simp (c.in-Some.ensures.0, c.in-Some.ensures.1, c.nothing.ensures)

pub judge-requires : goal.judge-requires
judge-requires c =
    let o = c.args in
    let ok = c.in_default.ensures in
    not-refused o.self (length o.image.now) ok

pub returns-then-own_reply : goal.returns-then-own_reply
unfolding after_reply
returns-then-own_reply c =
    simp (
      c.in_default.ensures,
      ← c.own_reply.ensures,
      c.if-own_reply.true,
      c.data.ensures.result_value,
      c.judge.ensures,
    )

pub returns : goal.returns
unfolding after_reply
returns c =
    simp (
      c.in_default.ensures,
      ← c.own_reply.ensures,
      c.if-own_reply.false,
      c.wrong_reply.ensures,
    )
