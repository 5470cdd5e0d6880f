-- From what is carried by one call to what is carried by several. Assumes nothing.
use mathlib.Core.Path.{◌≡◌, ap, ap₂, subst, ◌∙◌}
use mathlib.Core.List.{List}
use Prim.Native.Nat.{ℕ}
use Rattle.link.specs.declared.frame.Frame.{Frame}
use Rattle.link.specs.declared.link.Link.{Link}
use Rattle.link.specs.declared.script.Script.{Script}
use Rattle.text.specs.declared.output.Output.{Output}
use Rattle.text.specs.Outputs.{TextsAdded}
use Rattle.text.proofs.Texts.{◌then◌}
use Rattle.carrier.specs.declared.carrier.Carrier.{Carrier}
use Rattle.carrier.specs.Sending.{Carried, CarriesOn, told, passing, repeating}

module _ {o : Output} {r : Carrier} {memory : List ℕ} {after : Output} where
  pub carries_as : {x y : Carried} → x ≡ y → CarriesOn x o r memory after → CarriesOn y o r memory after
  carries_as e k = subst (λ (x : Carried). CarriesOn x o r memory after) e k

  pub carries-told : {m : Output} {texts : List (List ℕ)} {x : Carried}
      → TextsAdded o texts m → CarriesOn x m r memory after → CarriesOn (told texts x) o r memory after
  carries-told a k = record { links = k.links; leaves = k.leaves; holds = k.holds; tells = a then k.tells }

-- the second copy goes behind the first
pub carries-both :
    (l : Link) (s : Script) (memory : List ℕ) (f : Frame) {o between after : Output} {memory' memory'' : List ℕ} {one r : Carrier}
    → CarriesOn (passing l s memory f) o one memory' between
    → CarriesOn (passing one.link one.script memory' f) between r memory'' after
    → CarriesOn (repeating l s memory f) o r memory'' after
carries-both l s memory f {memory' = memory'} {one = one} a b =
    let x = passing l s memory f in
    let same = ap₂ (λ (k : Link) (t : Script). passing k t memory' f) a.links a.leaves
    ∙ ap (λ (m : List ℕ). passing x.link x.script m f) a.holds in
    carries-told a.tells (carries_as same b)
