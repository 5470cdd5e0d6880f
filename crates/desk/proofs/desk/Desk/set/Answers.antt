-- `desk::desk::Desk::set` meets its contract. Assumes nothing.
use mathlib.Core.Path.{sym, ap, ◌∙◌}
use mathlib.Core.List.{◌++◌}
use Rattle.text.specs.Ascii.{ascii}
use Rattle.answers.specs.Answers.{begun_texts, changed_texts}
use Rattle.controller.specs.declared.record.Record.{Record}
use Rattle.desk.specs.Desks.{with_record}
use Rattle.text.proofs.Texts.{texts_as}
use Rattle.desk.proofs.Tellings.{told-behind, told_as}
use Rattle.desk.proofs.desk.Desk.set.Goals as goal

pub returns-then-is_past_held : goal.returns-then-is_past_held
returns-then-is_past_held c =
    let past = sym c.is_past_held.ensures ∙ c.if-is_past_held.true in
    record { leaves = sym (simp (past)); tells = texts_as (sym (simp (past))) c.past.ensures }

pub returns : goal.returns
returns c =
    let a = c.args in
    let d = a.self in
    let fits = sym c.is_past_held.ensures ∙ c.if-is_past_held.false in
    let e = c.set-after.ensures in
    told_as (ap (with_record d) e ∙ sym (simp (fits)))
    (ap (λ (r : Record). begun_texts a.number (ascii " set") ++ changed_texts d.record r) e ∙ sym (simp (fits)))
    (told-behind c.begun.ensures c.with_record.ensures)
