-- `agreement::version::newer` meets its contract. Assumes nothing.
use borrow.Author.Rules.{rules}
use mathlib.Core.Path.{◌∙◌}
use Rattle.agreement.proofs.Comparisons.{newer-above}
use Rattle.agreement.proofs.version.newer.Goals as goal

pub returns : goal.returns
returns c = c.gt.ensures ∙ newer-above c.args.a c.args.b (search rules) (search rules)
