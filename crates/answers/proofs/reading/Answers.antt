-- `answers::reading` meets its contract. Assumes nothing.
use mathlib.Core.Path.{ap}
use Rattle.text.specs.Decimals.{decimal}
use Rattle.text.proofs.Texts.{one, one_as, ◌then◌}
use Rattle.answers.proofs.reading.Goals as goal

pub returns : goal.returns
returns c =
    one_as (ap decimal c.from.ensures) c.decimal.ensures
    then c.count.ensures
    then c.count-2.ensures
    then one c.text.ensures
    then one c.byte.ensures
    then c.count-3.ensures
