-- The plain run, frame by frame. Assumes nothing.
use mathlib.Core.Path.{◌≡◌, refl}
use mathlib.Core.Bool.{Bool, true, false, cond}
use mathlib.Core.List.{List, [], ◌∷◌, ◌++◌}
use Rattle.fronts.specs.Frame.{Frame}
use Rattle.frames.specs.PlainRun.{plain}

module _ {S R : Type 0} (step : S → Frame → S) (answer : S → Frame → List R) (s : S) where
  pub plain-none : plain step answer s [] ≡ record { state = s; replies = [] }
  unfolding plain
  plain-none = refl

  pub plain-frame :
      (f : Frame) (fs : List Frame)
      → plain step answer s (f ∷ fs) ≡ record {
        state = (plain step answer (step s f) fs).state;
        replies = answer s f ++ (plain step answer (step s f) fs).replies;
      }
  unfolding plain
  plain-frame f fs = refl

  -- a frame, if there is one, and the others
  pub plain_maybe :
      (found : Bool) (f : Frame) (fs : List Frame)
      → plain step answer s (cond found (f ∷ fs) fs)
      ≡ record {
        state = (plain step answer (cond found (step s f) s) fs).state;
        replies = cond found (answer s f) [] ++ (plain step answer (cond found (step s f) s) fs).replies;
      }
  plain_maybe true f fs = plain-frame f fs
  plain_maybe false f fs = refl
