-- Texts put one behind the other. Assumes nothing.
use mathlib.Core.Path.{◌≡◌, subst}
use mathlib.Core.List.{List, [], ◌∷◌, ◌++◌}
use Prim.Native.Nat.{ℕ}
use Rattle.text.specs.declared.output.Output.{Output}
use Rattle.text.specs.Outputs.{TextAdded, TextsAdded, none, more}

module _ {o r : Output} where
  pub added_as : {s t : List ℕ} → s ≡ t → TextAdded o s r → TextAdded o t r
  added_as e a = subst (λ (x : List ℕ). TextAdded o x r) e a

  -- one text is a list of one
  pub one : {t : List ℕ} → TextAdded o t r → TextsAdded o (t ∷ []) r
  one a = more a none

  pub one_as : {s t : List ℕ} → s ≡ t → TextAdded o s r → TextsAdded o (t ∷ []) r
  one_as e a = one (added_as e a)

  pub texts_as : {s t : List (List ℕ)} → s ≡ t → TextsAdded o s r → TextsAdded o t r
  texts_as e a = subst (λ (x : List (List ℕ)). TextsAdded o x r) e a

infixl 20 ◌then◌
-- lists put one behind the other are the appended list
pub ◌then◌ : {o m r : Output} {s t : List (List ℕ)} → TextsAdded o s m → TextsAdded m t r → TextsAdded o (s ++ t) r
none then b = b
(more a s) then b = more a (s then b)
