-- The call that writes the next request, case by case, and which it is. Assumes nothing.
use mathlib.Core.Path.{◌≡◌, refl}
use mathlib.Core.Bool.{true, false}
use mathlib.Core.List.{List}
use Prim.Native.Nat.{ℕ, ◌≤◌, ◌<◌}
use borrow.Author.Tests.{lt-ltb, le-ltb}
use lib.ListN.{length}
use Rattle.fronts.specs.Frame.{max_frame}
use Rattle.frames.specs.Buffer.{written_size, written_room}
use Rattle.sender.specs.declared.phase.Phase.TheVariants.{Asking, Telling}
use Rattle.sender.specs.declared.sender.Sender.{Sender}
use Rattle.commands.specs.declared.outcome.Outcome.{Outcome}
use Rattle.commands.specs.Outcomes.{accepted, short_room, same_outcome}
use Rattle.sender.specs.Phases.{is_final}
use Rattle.sender.specs.Requests.{request_of, sender_refusal, request_outcome, requested, room_requested}
use Rattle.sender.specs.Exchanges.{frame_fa, frame_fb}

module _ (s : Sender) (image room : List ℕ) where
  -- nothing is written
  abbrev Nothing : Outcome → Type 0
  Nothing outcome = (requested s image room ≡ record { outcome = outcome; length = 0 }) × (room_requested s image room ≡ room)

  pub request-refused : (k : Outcome) → (sender_refusal s (length image) ≡ k) × (same_outcome k accepted ≡ false) → Nothing k
  unfolding requested room_requested request_outcome
  request-refused k (e, f) = (rw (e, f) (rw f refl), rw (e, f) (rw f refl))

  module _ (ok : sender_refusal s (length image) ≡ accepted) where
    pub request-short : length room < max_frame → Nothing short_room
    unfolding requested room_requested request_outcome
    request-short h = let f = lt-ltb (length room) max_frame h in (simp (ok, f), simp (ok, f))

    module _ (wide : max_frame ≤ length room) where
      pub request-over : is_final s.position.phase ≡ true → Nothing accepted
      unfolding requested room_requested request_outcome
      request-over o = let f = le-ltb (length room) max_frame wide in (simp (ok, f, o), simp (ok, f, o))

      pub request-written : is_final s.position.phase ≡ false
          → (requested s image room ≡ record { outcome = accepted; length = written_size (request_of s image) room })
          × (room_requested s image room ≡ written_room (request_of s image) room)
      unfolding requested room_requested request_outcome
      request-written o = let f = le-ltb (length room) max_frame wide in (simp (ok, f, o), simp (ok, f, o))

-- ---- which request it is, by its fields

module _ (s : Sender) (image : List ℕ) where
  pub frame-asking : s.position.phase ≡ Asking → request_of s image ≡ frame_fa s.offer
  unfolding request_of
  frame-asking is = simp is

  pub frame-telling : s.position.phase ≡ Telling → length image ≡ s.offer.length → request_of s image ≡ frame_fb s.offer image
  unfolding request_of
  frame-telling is size = simp (is, size)
