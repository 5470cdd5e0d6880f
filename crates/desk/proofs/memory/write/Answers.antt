-- `desk::memory::write` meets its contract. Assumes nothing.
use mathlib.Core.Path.{sym, ◌∙◌}
use borrow.Author.Tests.{ltb-true}
use Rattle.sequences.proofs.Places.{written_past}
use Rattle.text.proofs.Texts.{texts_as}
use Rattle.desk.proofs.memory.write.Goals as goal

pub returns-then-is_past : goal.returns-then-is_past
returns-then-is_past c =
    let a = c.args in
    let past = sym c.is_past.ensures ∙ c.if-is_past.true in
    record { tells = texts_as (sym (simp (past))) c.past.ensures; memory_after = sym (written_past a.memory.now a.new.now a.at (ltb-true _ _ past)) }

pub returns : goal.returns
returns c =
    let fits = sym c.is_past.ensures ∙ c.if-is_past.false in
    record { tells = texts_as (sym (simp (fits))) c.ok.ensures; memory_after = c.write.ensures }
