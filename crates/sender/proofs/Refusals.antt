-- What is known where no call is refused. Assumes nothing.
use mathlib.Core.Path.{◌≡◌, refl}
use mathlib.Core.Bool.{Bool, true, false, cond}
use Prim.Native.Nat.{ℕ}
use borrow.Author.Tests.{eqb-true, eq-eqb}
use lib.Dec.{eqb}
use Rattle.sender.specs.declared.sender.Sender.{Sender}
use Rattle.commands.specs.Outcomes.{accepted, rules_broken, wrong_image}
use Rattle.sender.specs.Rules.{breaks_rules}
use Rattle.sender.specs.Requests.{sender_refusal}

module _ (s : Sender) (n : ℕ) where
  -- 9 and 20 are not given: the record keeps its rules and the image is its
  parts : sender_refusal s n ≡ accepted
      → (breaks_rules s ≡ false) × (cond (eqb n s.offer.length) accepted wrong_image ≡ accepted)
  unfolding sender_refusal
  parts = go (breaks_rules s)
    where
      go : (b : Bool) → cond b rules_broken (cond (eqb n s.offer.length) accepted wrong_image) ≡ accepted
          → (b ≡ false) × (cond (eqb n s.offer.length) accepted wrong_image ≡ accepted)
      go true e = absurd cc
      go false e = (refl, e)

  pub not-refused : sender_refusal s n ≡ accepted → breaks_rules s ≡ false
  not-refused e = (parts e).0

  pub same_length : sender_refusal s n ≡ accepted → n ≡ s.offer.length
  same_length e = go (eqb n s.offer.length) refl (parts e).1
    where
      go : (b : Bool) → eqb n s.offer.length ≡ b → cond b accepted wrong_image ≡ accepted → n ≡ s.offer.length
      go true q z = eqb-true n s.offer.length q
      go false q z = absurd cc

  -- and conversely
  pub is-accepted : breaks_rules s ≡ false → n ≡ s.offer.length → sender_refusal s n ≡ accepted
  unfolding sender_refusal
  is-accepted ok same = rw (ok, eq-eqb n s.offer.length same)
