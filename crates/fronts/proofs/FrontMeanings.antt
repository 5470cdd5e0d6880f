-- Of any bytes: the front is whole exactly when a frame's bytes begin there, and dead exactly when no bytes behind it make one begin
-- there; otherwise it is open. Assumes nothing.
use Rattle.std.proofs.Common.{◌≡◌, ℕ, List, [], ◌++◌, drop, sym, refl, ap, ◌∙◌, append-nil, arith}
use Rattle.fronts.specs.declared.front.Front.{Front}
use Rattle.fronts.specs.declared.front.Front.TheVariants.{Whole, Dead, Open}
use Rattle.sequences.specs.Bytes.{Bytes}
use Rattle.fronts.specs.Frame.{frame_size, WholeFrame, length_at, frame_at}
use Rattle.fronts.specs.Fronts.{front_of, Completable, FrontsMean}
use Rattle.sequences.proofs.Bytes.{bytes-append}
use Rattle.fronts.proofs.Fronts.{dead-whole, whole_open, whole-passed}
use Rattle.fronts.proofs.MoreBytes.{front-more, dead-more}
use Rattle.fronts.proofs.Encodings.{front_encoded, encoded_whole, payload-size}
use Rattle.fronts.proofs.Completions.{open_completion}

pub whole-frame : (s : List ℕ) → Bytes s → front_of s ≡ Whole → WholeFrame s
whole-frame s p e =
    let k = (whole-passed s e).small in
    record {
      frame = frame_at s;
      small = omega (arith, payload-size s e);
      behind = drop (frame_size (length_at s)) s;
      joined = encoded_whole s p e;
    }

pub frame-whole : (s : List ℕ) → WholeFrame s → front_of s ≡ Whole
frame-whole s w = sym (ap front_of w.joined) ∙ front_encoded w.frame w.behind w.small

completable : (s t : List ℕ) → Bytes s → Bytes t → front_of (s ++ t) ≡ Whole → Completable s
completable s t p q e = record { tail = t; bytes = q; whole = whole-frame (s ++ t) (bytes-append s t p q) e }

dead-never : (s : List ℕ) → front_of s ≡ Dead → Completable s → ⊥
dead-never s e c = dead-whole (sym (dead-more s c.tail e) ∙ frame-whole (s ++ c.tail) c.whole)

never-dead : (s : List ℕ) → Bytes s → (Completable s → ⊥) → front_of s ≡ Dead
never-dead s p never = go (front_of s) refl
  where
    go : (f : Front) → front_of s ≡ f → front_of s ≡ Dead
    go Dead e = e
    go Whole e = absurd (never (completable s [] p tt (ap front_of (append-nil s) ∙ e)))
    go Open e = let c = open_completion s e in absurd (never (completable s c.tail p c.bytes c.whole))

open_means : (s : List ℕ) → Bytes s → front_of s ≡ Open → (WholeFrame s → ⊥) × Completable s
open_means s p e = let c = open_completion s e in (
  λ w. whole_open (sym (frame-whole s w) ∙ e),
  completable s c.tail p c.bytes c.whole,
)

means_open : (s : List ℕ) → Bytes s → (WholeFrame s → ⊥) × Completable s → front_of s ≡ Open
means_open s p m = go (front_of s) refl
  where
    go : (f : Front) → front_of s ≡ f → front_of s ≡ Open
    go Open e = e
    go Whole e = absurd (m.0 (whole-frame s p e))
    go Dead e = absurd (dead-never s e m.1)

pub front-means : FrontsMean
front-means s p =
    record {
      whole = (whole-frame s p, frame-whole s);
      dead = (dead-never s, never-dead s p);
      undecided = (open_means s p, means_open s p);
      decided = front-more s;
    }
