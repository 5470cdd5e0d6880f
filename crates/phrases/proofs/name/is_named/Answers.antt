-- `phrases::name::is_named` meets its contract. Assumes nothing.
use mathlib.Core.Path.{◌≡◌, ap, ◌∙◌}
use lib.ListN.{take}
use Rattle.sequences.specs.Comparing.{begins_with}
use Rattle.phrases.specs.Names.{is_named}
use Rattle.phrases.proofs.name.is_named.Goals as goal

pub returns-then-begins : goal.returns-then-begins
unfolding is_named
returns-then-begins c =
    let row = c.row_at-row in
    let line = c.args.line.now in
    let name : c.begins.result ≡ begins_with line (take row.result.name_length row.result.name) =
    c.begins.ensures ∙ ap (begins_with line) c.front.ensures in
    simp (← row.ensures, ← name, c.if-begins.true, ← c.name_ends.ensures)

pub returns-else-begins : goal.returns-else-begins
unfolding is_named
returns-else-begins c =
    let row = c.row_at-row in
    let line = c.args.line.now in
    let name : c.begins.result ≡ begins_with line (take row.result.name_length row.result.name) =
    c.begins.ensures ∙ ap (begins_with line) c.front.ensures in
    simp (← row.ensures, ← name, c.if-begins.false)
