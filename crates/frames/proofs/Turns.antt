-- A call of live reading, one law for each of its turns. Assumes nothing.
use mathlib.Core.Path.{◌≡◌, refl, sym, ap, ◌∙◌}
use mathlib.Core.Bool.{false}
use mathlib.Core.List.{List, [], ◌∷◌, ◌++◌}
use Prim.Native.Nat.{ℕ, ◌+◌}
use Rattle.fronts.specs.declared.front.Front.TheVariants.{Whole, Dead, Open}
use Rattle.fronts.specs.Fronts.{front_of, is_whole}
use Rattle.frames.specs.LiveReading.{CallResult, with_frame, without_frame, looking, feeding_call, quiet_call}
use Rattle.fronts.proofs.Fronts.{front-empty, whole_open}

-- ---- the look at the held bytes

module _ (t : ℕ) (more : List ℕ → ℕ → CallResult) where
  looking-whole : (h : List ℕ) (d : ℕ) → front_of h ≡ Whole → looking t more h d ≡ with_frame t h d
  unfolding looking
  looking-whole [] d e = absurd (whole_open (sym e ∙ front-empty))
  looking-whole (b ∷ h) d e = rw e

  looking-dead : (b : ℕ) (h : List ℕ) (d : ℕ) → front_of (b ∷ h) ≡ Dead → looking t more (b ∷ h) d ≡ looking t more h (d + 1)
  unfolding looking
  looking-dead b h d e = rw e

  looking_open : (h : List ℕ) (d : ℕ) → front_of h ≡ Open → looking t more h d ≡ more h d
  unfolding looking
  looking_open [] d e = refl
  looking_open (b ∷ h) d e = rw e

-- ---- a feeding call

abbrev taking : ℕ → List ℕ → ℕ → List ℕ → ℕ → CallResult
taking x new t h d = feeding_call new (h ++ (x ∷ [])) d (t + 1)

pub feeding-whole : (new h : List ℕ) (d t : ℕ) → front_of h ≡ Whole → feeding_call new h d t ≡ with_frame t h d
unfolding feeding_call
feeding-whole [] h d t e = looking-whole t (without_frame t) h d e
feeding-whole (x ∷ new) h d t e = looking-whole t (taking x new t) h d e

pub feeding-dead : (new : List ℕ) (b : ℕ) (h : List ℕ) (d t : ℕ) → front_of (b ∷ h) ≡ Dead
    → feeding_call new (b ∷ h) d t ≡ feeding_call new h (d + 1) t
unfolding feeding_call
feeding-dead [] b h d t e = looking-dead t (without_frame t) b h d e
feeding-dead (x ∷ new) b h d t e = looking-dead t (taking x new t) b h d e

pub feeding_open : (x : ℕ) (new h : List ℕ) (d t : ℕ) → front_of h ≡ Open
    → feeding_call (x ∷ new) h d t ≡ feeding_call new (h ++ (x ∷ [])) d (t + 1)
unfolding feeding_call
feeding_open x new h d t e = looking_open t (taking x new t) h d e

pub feeding-ends : (h : List ℕ) (d t : ℕ) → front_of h ≡ Open → feeding_call [] h d t ≡ without_frame t h d
unfolding feeding_call
feeding-ends h d t e = looking_open t (without_frame t) h d e

-- ---- a quiet call

pub quiet-whole : (h : List ℕ) (d : ℕ) → front_of h ≡ Whole → quiet_call h d ≡ with_frame 0 h d
unfolding quiet_call
quiet-whole [] d e = absurd (whole_open (sym e ∙ front-empty))
quiet-whole (b ∷ h) d e = rw (ap is_whole e)

pub quiet-drops : (b : ℕ) (h : List ℕ) (d : ℕ) → is_whole (front_of (b ∷ h)) ≡ false → quiet_call (b ∷ h) d ≡ quiet_call h (d + 1)
unfolding quiet_call
quiet-drops b h d e = rw e

pub quiet-ends : (d : ℕ) → quiet_call [] d ≡ without_frame 0 [] d
unfolding quiet_call
quiet-ends d = refl
