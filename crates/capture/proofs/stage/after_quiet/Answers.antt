-- `capture::stage::after_quiet` meets its contract. Assumes nothing.
use Rattle.std.proofs.Common.{eq-eqb, ne_eqb}
use Rattle.capture.proofs.stage.after_quiet.Goals as goal

pub returns-then-record-eq0 : goal.returns-then-record-eq0
returns-then-record-eq0 c = simp (eq-eqb _ _ c.if-record-eq0.true)

pub returns : goal.returns
returns c = simp (ne_eqb _ _ c.if-record-eq0.false)
