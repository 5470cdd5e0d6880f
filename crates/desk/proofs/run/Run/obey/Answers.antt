-- `desk::run::Run::obey` meets its contract. Assumes nothing.
use mathlib.Core.Path.{refl, sym, ◌∙◌}
use Rattle.desk.proofs.Doings.{done_as, obeyed_as}
use Rattle.desk.proofs.run.Run.obey.Goals as goal

pub returns-then-is_passed_over : goal.returns-then-is_passed_over
returns-then-is_passed_over c =
    let passed = sym c.is_passed_over.ensures ∙ c.if-is_passed_over.true in
    simp (passed) (refl, (refl, (refl, (refl, (refl, refl)))))

pub returns : goal.returns
returns c =
    let a = c.args in
    let read = c.read-phrase in
    let kept = sym c.is_passed_over.ensures ∙ c.if-is_passed_over.false in
    simp (kept) (record {
      keeps = refl;
      goes_on = refl;
      takes = read.ensures.bytes_after;
      does = done_as (obeyed_as a.self.desk a.lines.number _ _ _ a.room.now a.area.now a.image.now read.ensures.value) c.obey-self.ensures;
    })
