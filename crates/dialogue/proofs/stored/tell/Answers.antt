-- `dialogue::stored::tell` meets its contract. Assumes nothing.
use borrow.Author.Tests.{eq-eqb, ne_eqb}
use mathlib.Core.Path.{◌≡◌, sym, ap, ap₂, ◌∙◌}
use mathlib.Core.Bool.{Bool}
use Prim.Native.Nat.{ℕ}
use lib.ListN.{length, take}
use Rattle.text.specs.Outputs.{none}
use Rattle.text.proofs.Texts.{texts_as}
use Rattle.transcript.specs.Lines.{stored_texts}
use Rattle.sequences.specs.Comparing.{begins_with}
use Rattle.dialogue.specs.Turns.{stored_length, stored_change}
use Rattle.dialogue.proofs.stored.tell.Goals as goal

pub returns-else-n-length : goal.returns-else-n-length
unfolding stored_change
returns-else-n-length c =
    let same = sym c.length-n.ensures ∙ c.if-n-length.false ∙ c.length.ensures in
    texts_as (simp (eq-eqb _ _ same)) none

pub returns-then-n-length : goal.returns-then-n-length
unfolding stored_change
returns-then-n-length c =
    let a = c.args in
    let image = a.image.now in
    let n = c.length-n.ensures in
    let other : stored_length a.next ≡ stored_length a.before → ⊥ =
    λ e. c.if-n-length.true (n ∙ e ∙ sym c.length.ensures) in
    let stored = c.front.ensures ∙ ap (λ (k : ℕ). take k a.area.now) n in
    let is = c.begins-is_same.ensures ∙ ap (begins_with image) stored in
    texts_as (ap₂ (λ (k : ℕ) (b : Bool). stored_texts k (length image) b) n is ∙ simp (ne_eqb _ _ other)) c.stored.ensures
