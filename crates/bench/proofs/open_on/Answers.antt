-- `bench::open_on` meets its contract. Assumes nothing.
use mathlib.Core.Path.{ap, ◌∙◌}
use Rattle.controller.specs.declared.open.Opened.{Opened}
use Rattle.bench.proofs.Openings.{opens-fresh}
use Rattle.bench.proofs.open_on.Goals as goal

pub returns : goal.returns
returns c =
    let gives = ap (λ (x : Opened). x.next) c.«open».ensures in
    record { gives = gives; fresh = λ least most. gives ∙ opens-fresh c.args.channel least most }
