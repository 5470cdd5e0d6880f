-- `changes::list::board` meets its contract. Assumes nothing.
use mathlib.Core.Path.{ap}
use Rattle.text.specs.Outputs.{more}
use Rattle.text.proofs.Texts.{one, added_as, ◌then◌}
use Rattle.text.specs.Decimals.{decimal}
use Rattle.changes.proofs.list.board.Goals as goal

pub returns : goal.returns
returns c =
    let flag = added_as (ap decimal c.bit.ensures) c.decimal.ensures in
    more flag (more c.text.ensures (more c.byte.ensures (one c.text-2.ensures)))
    then c.version.ensures
    then c.version-2.ensures
    then c.digits.ensures
