-- `desk::desk::Desk::set_sender` meets its contract. Assumes nothing.
use mathlib.Core.Path.{ap}
use Rattle.desk.specs.Desks.{with_sender}
use Rattle.desk.proofs.Tellings.{told-behind, told_as}
use mathlib.Core.List.{◌++◌}
use Rattle.text.specs.Ascii.{ascii}
use Rattle.answers.specs.Answers.{begun_texts, sender_changed_texts}
use Rattle.sender.specs.declared.sender.Sender.{Sender}
use Rattle.desk.proofs.desk.Desk.set_sender.Goals as goal

pub returns : goal.returns
returns c =
    let a = c.args in
    let d = a.self in
    let e = c.set-after.ensures in
    told_as (ap (with_sender d) e)
    (ap (λ (s : Sender). begun_texts a.number (ascii " sender set") ++ sender_changed_texts d.sender s) e)
    (told-behind c.begun.ensures c.with_sender.ensures)
