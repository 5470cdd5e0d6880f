-- `image::progress::Progress::is_last` meets its contract. Assumes nothing.
use borrow.Author.Tests.{eq-eqb, ne_eqb}
use mathlib.Core.Logic.{⊎_elim}
use mathlib.Core.Path.{◌∙◌}
use Rattle.sequences.proofs.Sames.{equality_is_same}
use Rattle.image.specs.Progresses.{is_last}
use Rattle.image.proofs.progress.Progress.is_last.Goals as goal
use Rattle.image.proofs.progress.Progress.is_last.Goals.{then-self-ne0, else-self-ne0}

pub returns-then-bytes-self : goal.returns-then-bytes-self
unfolding is_last
returns-then-bytes-self c =
    let t = c.if-bytes-self.true in
    simp (
      ne_eqb _ _ t.0,
      eq-eqb _ _ t.1,
      ← c.past.ensures,
      ← c.part.ensures,
      c.eq.ensures ∙ equality_is_same c.args.bytes.now c.part.result.now,
    )

pub returns-else-bytes-self : goal.returns-else-bytes-self
unfolding is_last
returns-else-bytes-self c =
    elim c.if-self-ne0.branch [
      | then-self-ne0 w ↦
          ⊎_elim (λ other. w.t-6-is ∙ simp (ne_eqb _ _ other.0, ne_eqb _ _ other.1)) (λ none. absurd (w.if-self-ne0.true none))
          c.if-bytes-self.either
      | else-self-ne0 w ↦ w.t-6-is ∙ simp (eq-eqb _ _ w.if-self-ne0.false)
    ]
