-- What is told, part by part. Assumes nothing.
use mathlib.Core.Path.{◌≡◌, ap, ap₂, ◌∙◌}
use mathlib.Core.List.{List, ◌++◌}
use Prim.Native.Nat.{ℕ}
use Rattle.controller.specs.declared.call.Called.{Called}
use Rattle.text.specs.declared.output.Output.{Output}
use Rattle.text.specs.Outputs.{TextsAdded}
use Rattle.text.proofs.Texts.{texts_as, ◌then◌}
use Rattle.desk.specs.declared.desk.Desk.{Desk}
use Rattle.desk.specs.Telling.{DeskTold}
use Rattle.desk.specs.Effects.{call_texts}

-- what is told behind the line so far
pub told-behind : {o mid o' : Output} {after : Desk} {s t : List (List ℕ)} {r : Desk} → TextsAdded o s mid → DeskTold mid after t r o'
    → DeskTold o after (s ++ t) r o'
told-behind a b = record { leaves = b.leaves; tells = a then b.tells }

pub told_as : {o o' : Output} {after after' : Desk} {s t : List (List ℕ)} {r : Desk} → after ≡ after' → s ≡ t → DeskTold o after s r o'
    → DeskTold o after' t r o'
told_as e f a = record { leaves = a.leaves ∙ e; tells = texts_as f a.tells }

-- a line of feeding or quiet in other words
pub call_texts_as : (d : Desk) (number : ℕ) (name : List ℕ) {c c' : Called} {k k' r r' l l' s s' : List ℕ} → c ≡ c' → k ≡ k' → r ≡ r' → l ≡ l'
    → s ≡ s' → call_texts d number name c k r l s ≡ call_texts d number name c' k' r' l' s'
call_texts_as d number name {c} {c'} {k} {k'} {r} {r'} {l} {l'} {s} {s'} e f g h i =
    ap (λ (x : Called). call_texts d number name x k r l s) e
    ∙ ap₂ (λ (x : List ℕ) (y : List ℕ). call_texts d number name c' x y l s) f g
    ∙ ap₂ (λ (x : List ℕ) (y : List ℕ). call_texts d number name c' k' r' x y) h i
