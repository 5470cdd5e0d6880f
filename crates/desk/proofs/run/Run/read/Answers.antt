-- `desk::run::Run::read` meets its contract. Assumes nothing.
use mathlib.Core.Path.{refl, sym, ap, ◌∙◌}
use mathlib.Core.Bool.{false≢true}
use Rattle.desk.specs.declared.run.Run.{Run}
use Rattle.desk.proofs.run.Run.read.Goals as goal

pub returns-then-output : goal.returns-then-output
returns-then-output c =
    let e = c.end.ensures in
    record {
      keeps = ap (λ (r : Run). r.desk) e;
      writes = c.flush.ensures;
      ends = λ _. (ap (λ (r : Run). r.lines) e, (ap (λ (r : Run). r.is_over) e, refl));
      reads = λ g. absurd (false≢true (sym g ∙ c.if-output.true));
    }

pub returns : goal.returns
returns c =
    record {
      keeps = refl;
      writes = c.flush.ensures;
      ends = λ g. absurd (false≢true (sym c.if-output.false ∙ g));
      reads = λ _. (c.read-self.ensures, refl);
    }
