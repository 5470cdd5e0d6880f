-- `values::span::span` meets its contract. Assumes nothing.
use mathlib.Core.Path.{ap}
use Rattle.text.specs.Outputs.{more}
use Rattle.text.proofs.Texts.{one, texts_as}
use Rattle.values.specs.Bytes.{digit_texts}
use Rattle.values.proofs.Spans.{span-some, span_none}
use Rattle.values.proofs.span.span.Goals as goal

pub returns-then-first-end : goal.returns-then-first-end
returns-then-first-end c =
    let a = c.args in
    let told = span-some a.before.now a.after.now a.from c.smaller-end.ensures c.first_changed-first.ensures
    c.behind_last-to.ensures c.if-first-end.true in
    texts_as told
    (more c.decimal.ensures
    (more c.text.ensures (texts_as (ap digit_texts c.between.ensures) c.digits.ensures)))

pub returns-else-first-end : goal.returns-else-first-end
returns-else-first-end c =
    let a = c.args in
    let told = span_none a.before.now a.after.now a.from c.smaller-end.ensures c.first_changed-first.ensures
    c.if-first-end.false in
    texts_as told (one c.text-else-first-end.ensures)
