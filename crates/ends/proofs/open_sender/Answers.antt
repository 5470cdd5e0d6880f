-- `ends::open_sender` meets its contract. Assumes nothing.
use mathlib.Core.Path.{ap, ◌∙◌}
use Rattle.sender.specs.declared.opening.Opened.{Opened}
use Rattle.ends.proofs.Openings.{sender-opens}
use Rattle.ends.proofs.open_sender.Goals as goal

pub returns : goal.returns
returns c =
    let is = ap (λ (x : Opened). x.sender) c.«open».ensures in
    record { gives = is; fresh = λ least some most. is ∙ sender-opens c.args.channel c.args.size _ least some most }
