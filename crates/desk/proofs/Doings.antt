-- What is done, in other words. Assumes nothing.
use mathlib.Core.Path.{◌≡◌, refl, subst, ap}
use mathlib.Core.List.{List}
use Prim.Native.Nat.{ℕ}
use Rattle.phrases.specs.declared.phrase.Phrase.{Phrase}
use Rattle.text.specs.declared.output.Output.{Output}
use Rattle.text.specs.Outputs.{TextsAdded}
use Rattle.desk.specs.declared.desk.Desk.{Desk}
use Rattle.desk.specs.Telling.{DeskTold}
use Rattle.desk.specs.Obeying.{DeskEffect, Done, obeyed}

-- what only tells leaves the desk
pub told-only : {d : Desk} {texts : List (List ℕ)} {o o' : Output} → TextsAdded o texts o' → DeskTold o d texts d o'
told-only a = record { leaves = refl; tells = a }

-- what is lent no memory leaves the memories
pub done-told : {after : Desk} {texts : List (List ℕ)} {room area image : List ℕ} {o o' : Output} {r : Desk} → DeskTold o after texts r o'
    → Done (record { desk = after; texts = texts; room = room; area = area; image = image }) o r room area image o'
done-told a = record { tells = a; leaves-room = refl; leaves-area = refl; leaves-image = refl }

pub done_as : {e f : DeskEffect} {o : Output} {r : Desk} {room area image : List ℕ} {o' : Output} → e ≡ f → Done e o r room area image o'
    → Done f o r room area image o'
done_as {o = o} {r = r} {room = room} {area = area} {image = image} {o' = o'} e a =
    subst (λ (x : DeskEffect). Done x o r room area image o') e a

pub obeyed_as : (d : Desk) (number : ℕ) (p q : Phrase) (b room area image : List ℕ) → p ≡ q
    → obeyed d number p b room area image ≡ obeyed d number q b room area image
obeyed_as d number p q b room area image e = ap (λ (x : Phrase). obeyed d number x b room area image) e
