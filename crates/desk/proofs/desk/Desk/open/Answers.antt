-- `desk::desk::Desk::open` meets its contract. Assumes nothing.
use mathlib.Core.Path.{ap}
use mathlib.Core.List.{[], ◌∷◌, ◌++◌}
use Rattle.text.specs.Ascii.{ascii}
use Rattle.text.specs.Decimals.{decimal}
use Rattle.text.proofs.Texts.{one_as, ◌then◌}
use Rattle.commands.specs.Outcomes.{outcome_number}
use Rattle.answers.specs.Answers.{begun_texts, changed_texts}
use Rattle.controller.specs.declared.open.Opened.{Opened}
use Rattle.desk.specs.Desks.{with_record}
use Rattle.desk.proofs.Tellings.{told-behind, told_as}
use Rattle.desk.proofs.desk.Desk.open.Goals as goal

pub returns : goal.returns
returns c =
    let a = c.args in
    let d = a.self in
    let e = c.open-o.ensures in
    told_as (ap (λ (o : Opened). with_record d o.next) e)
    (ap (λ (o : Opened). begun_texts a.number (ascii " open ") ++ decimal (outcome_number o.outcome) ∷ [] ++ changed_texts d.record o.next) e)
    (told-behind (c.begun.ensures then one_as (ap decimal c.from.ensures) c.decimal.ensures) c.with_record.ensures)
