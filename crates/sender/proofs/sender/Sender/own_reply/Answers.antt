-- `sender::sender::Sender::own_reply` meets its contract. Assumes nothing.
use mathlib.Core.Path.{ap, ◌∙◌}
use Rattle.replies.specs.ReplyFields.{reply_channel}
use Rattle.sender.specs.Replies.{own_reply}
use Rattle.sender.proofs.sender.Sender.own_reply.Goals as goal

pub returns-then-is_reply : goal.returns-then-is_reply
unfolding own_reply
returns-then-is_reply c =
    let channel = c.channel.ensures ∙ ap reply_channel c.data.ensures.result_value in
    simp (← c.command_of.ensures, ← c.is_reply.ensures, c.if-is_reply.true, channel)

pub returns-else-is_reply : goal.returns-else-is_reply
unfolding own_reply
returns-else-is_reply c = simp (← c.command_of.ensures, ← c.is_reply.ensures, c.if-is_reply.false)
