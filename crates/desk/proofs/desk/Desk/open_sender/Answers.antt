-- `desk::desk::Desk::open_sender` meets its contract. Assumes nothing.
use mathlib.Core.Path.{ap, ◌∙◌}
use mathlib.Core.List.{[], ◌∷◌, ◌++◌}
use lib.ListN.{length}
use Rattle.text.specs.Ascii.{ascii}
use Rattle.text.specs.Decimals.{decimal}
use Rattle.text.proofs.Texts.{one_as, ◌then◌}
use Rattle.commands.specs.Outcomes.{outcome_number}
use Rattle.answers.specs.Answers.{begun_texts, sender_changed_texts}
use Rattle.sender.specs.declared.opening.Opened.{Opened}
use Rattle.sender.specs.declared.sender.Offer.{Offer}
use Rattle.sender.specs.Opening.{offer_of, opened_sender}
use Rattle.desk.specs.Desks.{with_sender}
use Rattle.desk.proofs.Tellings.{told-behind, told_as}
use Rattle.desk.proofs.desk.Desk.open_sender.Goals as goal

pub returns : goal.returns
returns c =
    let a = c.args in
    let d = a.self in
    let n = length a.image.now in
    let made = c.open-o.ensures in
    let said = ap (λ (o : Offer). opened_sender (offer_of o.channel o.pid o.version o.md5 o.size n)) c.said-offer.ensures in
    let e = made ∙ said in
    told_as (ap (λ (o : Opened). with_sender d o.sender) e)
    (ap (λ (o : Opened). begun_texts a.number (ascii " sender open ") ++ decimal (outcome_number o.outcome) ∷ [] ++ sender_changed_texts d.sender o.sender) e)
    (told-behind (c.begun.ensures then one_as (ap decimal c.from.ensures) c.decimal.ensures) c.with_sender.ensures)
