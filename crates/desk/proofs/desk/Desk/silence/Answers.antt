-- `desk::desk::Desk::silence` meets its contract. Assumes nothing.
use mathlib.Core.Path.{ap}
use Rattle.desk.specs.Desks.{with_sender}
use Rattle.desk.proofs.Tellings.{told-behind, told_as}
use Rattle.text.proofs.Texts.{◌then◌}
use Rattle.sender.specs.declared.decision.Decided.{Decided}
use Rattle.desk.specs.Effects.{silence_name, decision_texts}
use Rattle.desk.proofs.desk.Desk.silence.Goals as goal

pub returns : goal.returns
returns c =
    let a = c.args in
    let d = a.self in
    let e = c.silence-d.ensures in
    told_as (ap (λ (x : Decided). with_sender d x.next) e) (ap (decision_texts d a.number silence_name) e)
    (told-behind (c.begun.ensures then c.decided.ensures) c.with_sender.ensures)
