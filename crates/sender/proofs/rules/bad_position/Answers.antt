-- `sender::rules::bad_position` meets its contract. Assumes nothing.
use mathlib.Core.Path.{sym}
use mathlib.Core.Bool.{false}
use lib.Dec.{ltb}
use Rattle.sender.specs.Rules.{bad_packet}
use Rattle.sender.proofs.Phases.{left-free}
use Rattle.sender.proofs.rules.bad_position.Goals as goal

pub returns-in-Placing : goal.returns-in-Placing
returns-in-Placing c = simp c.in-Placing.is

pub returns-in-Sending : goal.returns-in-Sending
returns-in-Sending c = simp (c.in-Sending.is, ← c.bad_packet.ensures)

pub returns-in_default : goal.returns-in_default
returns-in_default c =
    let p = c.args.position in
    let o = c.args.offer in
    sym (left-free p.phase false (ltb o.length p.place) (bad_packet p o) c.in_default.not-Placing c.in_default.not-Sending)
