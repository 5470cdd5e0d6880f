-- Which step a turn is. Assumes nothing.
use borrow.Author.Tests.{eq-eqb, ne_eqb}
use mathlib.Core.Path.{◌≡◌, sym, ap}
use mathlib.Core.Bool.{true, false}
use mathlib.Core.List.{List}
use Prim.Native.Nat.{ℕ}
use Rattle.controller.specs.Records.{is_checking}
use Rattle.link.specs.declared.frame.Way.{Way}
use Rattle.link.specs.Links.{frame_under_way, passed}
use Rattle.link.specs.Scripts.{is_silence, letter_of, used_up}
use Rattle.dialogue.specs.Dialogues.{Dialogue, with_link, with_script}
use Rattle.dialogue.specs.Turns.{check_portion, silence_told, by_way, arrived, turn_of}

module _ (x : Dialogue) (image letters : List ℕ) where
  pub checks : is_checking x.controller ≡ true → check_portion x image letters ≡ turn_of x image letters
  unfolding turn_of
  checks e = rw e

  module _ (not-checking : is_checking x.controller ≡ false) where
    pub silent : is_silence (letter_of x.script letters) ≡ true → silence_told
        (with_script x (used_up x.script)) image letters ≡ turn_of x image letters
    unfolding turn_of
    silent e = simp (not-checking, e)

    module _ (no-silence : is_silence (letter_of x.script letters) ≡ false) where
      pub timed_out : x.link.count ≡ 0 → silence_told x image letters ≡ turn_of x image letters
      unfolding turn_of
      timed_out e = simp (not-checking, no-silence, eq-eqb _ _ e)

      pub arrives : (x.link.count ≡ 0 → ⊥) → arrived x image letters ≡ turn_of x image letters
      unfolding turn_of
      arrives n = simp (not-checking, no-silence, ne_eqb _ _ n)

  -- the frame that arrives goes this way
  pub goes : (w : Way) → (frame_under_way x.link x.memory 0).way ≡ w
      → by_way w (with_link x (passed x.link)) (frame_under_way x.link x.memory 0) image letters ≡ arrived x image letters
  unfolding arrived
  goes w e = ap (λ (v : Way). by_way v (with_link x (passed x.link)) (frame_under_way x.link x.memory 0) image letters) (sym e)
