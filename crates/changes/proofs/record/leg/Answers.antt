-- `changes::record::leg` meets its contract. Assumes nothing.
use mathlib.Core.Path.{ap₂}
use Rattle.text.proofs.Texts.{texts_as, ◌then◌}
use Rattle.values.specs.Fields.{phase_field}
use Rattle.changes.proofs.record.leg.Goals as goal

pub returns : goal.returns
returns c =
    texts_as (ap₂ phase_field c.phase.ensures c.phase-2.ensures) c.phase-3.ensures
    then c.channel.ensures
    then c.number.ensures
    then c.number-2.ensures
