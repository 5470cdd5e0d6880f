-- `changes::senders::position` meets its contract. Assumes nothing.
use mathlib.Core.Path.{ap₂}
use Rattle.text.proofs.Texts.{texts_as, ◌then◌}
use Rattle.values.specs.Fields.{phase_field}
use Rattle.changes.proofs.senders.position.Goals as goal

pub returns : goal.returns
returns c =
    texts_as (ap₂ phase_field c.sender_phase.ensures c.sender_phase-2.ensures) c.phase.ensures
    then c.number.ensures
    then c.number-2.ensures
