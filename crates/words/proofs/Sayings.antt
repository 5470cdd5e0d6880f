-- Which word it is, and that what the words say stays in range. Assumes nothing.
use borrow.Author.Tests.{lt-ltb, le-ltb}
use Rattle.std.proofs.Common.{Option, None, Some}
use Rattle.std.proofs.lemmas.Option.{none-some, same_Some}
use Rattle.std.specs.Prelude.{is_some}
use mathlib.Core.Path.{◌≡◌, refl}
use mathlib.Core.Logic.{⊎_elim}
use mathlib.Core.Bool.{Bool, true, false, cond}
use mathlib.Core.List.{List}
use Prim.Native.Nat.{ℕ, ◌≤◌}
use native.Mathlib.Omega.{arith}
use Rattle.sequences.proofs.Orders.{lt_or_le}
use Rattle.link.specs.Scripts.{all_letters}
use Rattle.text.specs.Numbers.{number_said}
use Rattle.sequences.specs.Comparing.{begins_with}
use Rattle.commands.specs.Limits.{min_packet}
use Rattle.boards.specs.Boards.{first_channel, last_channel}
use Rattle.words.specs.declared.words.Words.{Words}
use Rattle.words.specs.Sayings.{most_size, image_name, channel_name, size_name, link_name, behind_name, in_limits, number_between, not_taken}
use Rattle.words.specs.Sayings.{image_said, with_image, channel_if, with_channel, size_if, with_size, link_said, with_link}
use Rattle.words.specs.Sayings.{word_said}
use Rattle.words.specs.Ranges.{InRange, StayInRange}

module _ (w : Words) (i : ℕ) (word : List ℕ) where
  pub says-image : begins_with word image_name ≡ true → with_image w i ≡ word_said w i word
  unfolding word_said
  says-image e = rw e

  module _ (no-image : begins_with word image_name ≡ false) where
    pub says-channel : begins_with word channel_name ≡ true → with_channel w
        (number_between first_channel last_channel (behind_name channel_name word)) ≡ word_said w i word
    unfolding word_said
    says-channel e = rw (no-image, e)

    module _ (no-channel : begins_with word channel_name ≡ false) where
      pub says-size : begins_with word size_name ≡ true → with_size w
          (number_between min_packet most_size (behind_name size_name word)) ≡ word_said w i word
      unfolding word_said
      says-size e = rw (no-image, no-channel, e)

      module _ (no_size : begins_with word size_name ≡ false) where
        pub says-link : begins_with word link_name ≡ true → with_link w i (behind_name link_name word) ≡ word_said w i word
        unfolding word_said
        says-link e = rw (no-image, no-channel, no_size, e)

        pub says_nothing : begins_with word link_name ≡ false → not_taken w ≡ word_said w i word
        unfolding word_said
        says_nothing e = rw (no-image, no-channel, no_size, e)

-- ---- in range

-- of two choices each is
either : (b : Bool) (v w : Words) → (b ≡ true → InRange v) → (b ≡ false → InRange w) → InRange (cond b v w)
either true v w p q = p refl
either false v w p q = q refl

pub between : (least most : ℕ) (n : Option ℕ) (m : ℕ) → in_limits least most n ≡ Some m → (least ≤ m) × (m ≤ most)
between least most None m e = absurd (none-some m e)
between least most (Some n) m e =
    ⊎_elim
    (λ below. absurd (none-some m (simp (lt-ltb n least below) at e)))
    (λ from. ⊎_elim
    (λ above. absurd (none-some m (simp (le-ltb n least from, lt-ltb most n above) at e)))
    (λ to.
    let same : n ≡ m = same_Some n m (simp (le-ltb n least from, le-ltb most n to) at e) in
    (omega arith, omega arith))
    (lt_or_le most n))
    (lt_or_le n least)

module _ (w : Words) (ok : InRange w) where
  not_taken_lem : InRange (not_taken w)
  not_taken_lem = record { first-channel = ok.first-channel; last-channel = ok.last-channel; least_size = ok.least_size }

  image_said_lem : (i : ℕ) → InRange (with_image w i)
  image_said_lem i =
      either (is_some w.image) (not_taken w) (image_said w i) (λ e. not_taken_lem)
      (λ e. record { first-channel = ok.first-channel; last-channel = ok.last-channel; least_size = ok.least_size })

  channel_if_lem : (n : Option ℕ) → ((m : ℕ) → n ≡ Some m → (first_channel ≤ m) × (m ≤ last_channel)) → InRange (channel_if w n)
  channel_if_lem None h = not_taken_lem
  channel_if_lem (Some m) h =
      let in-range = h m refl in
      record { first-channel = in-range.0; last-channel = in-range.1; least_size = ok.least_size }

  channel-said : (digits : List ℕ) → InRange (with_channel w (number_between first_channel last_channel digits))
  channel-said digits =
      either (is_some w.channel) (not_taken w) _ (λ e. not_taken_lem)
      (λ e. channel_if_lem (number_between first_channel last_channel digits) (between first_channel last_channel (number_said digits)))

  size_if_lem : (n : Option ℕ) → ((m : ℕ) → n ≡ Some m → (min_packet ≤ m) × (m ≤ most_size)) → InRange (size_if w n)
  size_if_lem None h = not_taken_lem
  size_if_lem (Some m) h =
      let in-range = h m refl in
      record { first-channel = ok.first-channel; last-channel = ok.last-channel; least_size = in-range.0 }

  size-said : (digits : List ℕ) → InRange (with_size w (number_between min_packet most_size digits))
  size-said digits =
      either (is_some w.size) (not_taken w) _ (λ e. not_taken_lem)
      (λ e. size_if_lem (number_between min_packet most_size digits) (between min_packet most_size (number_said digits)))

  link-said : (i : ℕ) (letters : List ℕ) → InRange (with_link w i letters)
  link-said i letters =
      either (is_some w.link) (not_taken w) _ (λ e. not_taken_lem)
      (λ e. either (all_letters letters) (link_said w i) (not_taken w)
      (λ e. record { first-channel = ok.first-channel; last-channel = ok.last-channel; least_size = ok.least_size })
      (λ e. not_taken_lem))

  word_said_lem : (i : ℕ) (word : List ℕ) → InRange (word_said w i word)
  unfolding word_said
  word_said_lem i word =
      either (begins_with word image_name) _ _ (λ e. image_said_lem i)
      (λ e. either (begins_with word channel_name) _ _ (λ e. channel-said (behind_name channel_name word))
      (λ e. either (begins_with word size_name) _ _ (λ e. size-said (behind_name size_name word))
      (λ e. either (begins_with word link_name) _ _ (λ e. link-said i (behind_name link_name word)) (λ e. not_taken_lem))))

pub stay_in_range : StayInRange
stay_in_range =
    record {
      none = record { first-channel = omega arith; last-channel = omega arith; least_size = omega arith };
      refused = not_taken_lem;
      said = word_said_lem;
    }
