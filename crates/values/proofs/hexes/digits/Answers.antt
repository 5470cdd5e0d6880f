-- `values::hexes::digits` meets its contract. The loop's invariant: the digits of the bytes so far are put. Assumes nothing.
use native.Mathlib.Omega.{arith}
use Rattle.text.specs.Outputs.{none}
use Rattle.text.proofs.Texts.{one, texts_as, ◌then◌}
use Rattle.values.proofs.Digits.{digits-next, digits-all}
use Rattle.values.proofs.hexes.digits.Goals as goal

pub loop-b-init : goal.loop-b-init
loop-b-init c = none

pub loop-b-preserved : goal.loop-b-preserved
loop-b-preserved c = texts_as (digits-next c.args.bytes.now c.loop-b.b-index (omega arith)) (c.loop-b.invariant then one c.byte.ensures)

pub returns : goal.returns
returns c = texts_as (digits-all c.args.bytes.now c.loop-b.b-index (omega arith)) c.loop-b.invariant
