-- The fields of a finished frame, and how one is made from its parts. Assumes nothing.
use mathlib.Core.Path.{◌≡◌, refl, sym, ap, ap₂, ◌∙◌, subst}
use mathlib.Core.Bool.{Bool, true, false, cond, ◌&&◌}
use mathlib.Core.List.{List, [], ◌++◌}
use Prim.Native.Nat.{ℕ, ◌+◌, ◌≤◌}
use native.Mathlib.Omega.{arith}
use borrow.Author.Tests.{ltb-true, le-leb, lt-leb}
use lib.ListN.{length, take, length-append}
use Rattle.fronts.specs.Frame.{max_data, frame_size, Frame}
use Rattle.sequences.specs.Padding.{padded}
use Rattle.frames.specs.declared.finished.FinishedFrame.{FinishedFrame}
use Rattle.frames.specs.Finished.{finished, frame_of, no_data, extended, FinishedWritten}
use Rattle.sequences.proofs.Padding.{take-padded, padded-more}
use lib.Dec.{leb, ltb}
use Rattle.frames.specs.Buffer.{writable, written_size, written_room, Written}

module _ (f : Frame) where
  pub finished-version : (finished f).version ≡ f.version
  unfolding finished
  finished-version = refl

  pub finished-command : (finished f).command ≡ f.command
  unfolding finished
  finished-command = refl

  pub finished-length : (finished f).length ≡ length f.payload
  unfolding finished
  finished-length = refl

  pub finished-bytes : (finished f).bytes ≡ padded max_data f.payload
  unfolding finished
  finished-bytes = refl

  -- its data are the first of its bytes
  pub finished-payload : take (finished f).length (finished f).bytes ≡ f.payload
  unfolding finished
  finished-payload = take-padded max_data f.payload

  pub frame-of-finished : frame_of (finished f) ≡ f
  unfolding finished
  frame-of-finished =
      ap (λ (p : List ℕ). record { version = f.version; command = f.command; payload = p }) (take-padded max_data f.payload)

-- ---- made from its parts

pub no_data_lem : (version command : ℕ) → no_data version command ≡ finished (record { version = version; command = command; payload = [] })
unfolding finished
no_data_lem version command = refl

-- a part that fits stands behind the data so far
pub extended-finished : (f : Frame) (t : List ℕ) → length f.payload + length t ≤ max_data
    → extended (finished f) t ≡ finished (record { version = f.version; command = f.command; payload = f.payload ++ t })
unfolding extended finished
extended-finished f t fits =
    let p = f.payload in
    let ok = le-leb (length p + length t) max_data fits in
    rw ok (ap₂ (λ (k : ℕ) (b : List ℕ). record { version = f.version; command = f.command; length = k; bytes = b })
    (sym (length-append p t)) (padded-more max_data p t fits))

-- ---- written

-- it is written as the frame that it is; one that is too long is written by neither
finished-written : (f : Frame) (room : List ℕ) (size : ℕ) (after : List ℕ) → FinishedWritten (finished f) room size after
    → Written f room size after
unfolding writable written_size written_room
finished-written f room size after w = go (ltb max_data (finished f).length) refl
  where
    long : ltb max_data (finished f).length ≡ true → writable f room ≡ false
    long e =
        ap (λ (b : Bool). b && leb (frame_size (length f.payload)) (length room))
        (lt-leb (length f.payload) max_data (omega (arith, ltb-true max_data (finished f).length e, finished-length f)))

    go : (b : Bool) → ltb max_data (finished f).length ≡ b → Written f room size after
    go true e =
        record {
          gives = w.gives ∙ ap (λ (b : Bool). cond b 0 (written_size (frame_of (finished f)) room)) e ∙ sym (rw (long e) refl);
          leaves = w.leaves ∙ ap (λ (b : Bool). cond b room (written_room (frame_of (finished f)) room)) e ∙ sym (rw (long e) refl);
        }
    go false e =
        record {
          gives = w.gives ∙ ap (λ (b : Bool). cond b 0 (written_size (frame_of (finished f)) room)) e
              ∙ ap (λ (g : Frame). written_size g room) (frame-of-finished f);
          leaves = w.leaves ∙ ap (λ (b : Bool). cond b room (written_room (frame_of (finished f)) room)) e
              ∙ ap (λ (g : Frame). written_room g room) (frame-of-finished f);
        }

pub written_as : {g : FinishedFrame} {room : List ℕ} {size : ℕ} {after : List ℕ} (f : Frame) → g ≡ finished f
    → FinishedWritten g room size after → Written f room size after
written_as {g} {room} {size} {after} f is w =
    finished-written f room size after (subst (λ (x : FinishedFrame). FinishedWritten x room size after) is w)
