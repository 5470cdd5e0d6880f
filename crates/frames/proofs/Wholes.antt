-- Whether a front is a whole frame, as `==` says it. Assumes nothing.
use mathlib.Core.Path.{◌≡◌, refl}
use mathlib.Core.Bool.{true, false≢true}
use denote.Enum.Bare.{sameb}
use Rattle.fronts.specs.contracts.front.Front.{the_type}
use Rattle.fronts.specs.declared.front.Front.{Front}
use Rattle.fronts.specs.declared.front.Front.TheVariants.{Whole, Dead, Open}
use Rattle.fronts.specs.Fronts.{is_whole}

pub equality_is_whole : (f : Front) → sameb the_type f Whole ≡ is_whole f
equality_is_whole Whole = refl
equality_is_whole Dead = refl
equality_is_whole Open = refl

pub whole_is : (f : Front) → is_whole f ≡ true → f ≡ Whole
whole_is Whole e = refl
whole_is Dead e = absurd (false≢true e)
whole_is Open e = absurd (false≢true e)
