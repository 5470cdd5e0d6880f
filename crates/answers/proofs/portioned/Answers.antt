-- `answers::portioned` meets its contract. Assumes nothing.
use mathlib.Core.Path.{ap}
use Rattle.text.specs.Decimals.{decimal}
use Rattle.text.proofs.Texts.{one, one_as, ◌then◌}
use Rattle.answers.proofs.portioned.Goals as goal

pub returns : goal.returns
returns c =
    one_as (ap decimal c.from.ensures) c.decimal.ensures
    then c.count.ensures
    then one c.text.ensures
    then one_as c.verdict.ensures c.text-2.ensures
    then c.in_room.ensures
