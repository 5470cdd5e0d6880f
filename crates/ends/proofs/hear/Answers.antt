-- `ends::hear` meets its contract. Assumes nothing.
use mathlib.Core.Path.{ap, ◌∙◌}
use Rattle.sender.specs.Replies.{after_reply}
use Rattle.ends.proofs.hear.Goals as goal

pub returns : goal.returns
returns c =
    let a = c.args in
    c.reply.ensures ∙ ap (after_reply a.sender a.image.now) c.front.ensures
