-- `fronts::front::front_of` meets its contract: all of s, with no second part. Assumes nothing.
use Rattle.std.proofs.Common.{[], ap, ◌∙◌}
use lib.Seq.{take-append_seam}
use Rattle.fronts.specs.Fronts.{front_of}
use Rattle.fronts.proofs.front.front_of.Goals as goal

pub returns : goal.returns
returns c =
    let s = c.args.s.now in
    c.front_within.ensures ∙ ap front_of (take-append_seam s [])
