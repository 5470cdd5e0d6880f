-- Opening succeeds exactly when the offer is one that FA and the longest area take. Assumes nothing.
use mathlib.Core.Path.{◌≡◌, refl, ap₂}
use mathlib.Core.Bool.{Bool, true, false, ◌||◌}
use Prim.Native.Nat.{ℕ, ◌≤◌, ◌<◌}
use native.Mathlib.Omega.{arith}
use borrow.Author.Tests.{ltb-false, le-ltb, eqb-false, ne_eqb}
use lib.Dec.{ltb, eqb}
use Rattle.sequences.proofs.Conditionals.{neither}
use Rattle.commands.specs.Limits.{min_packet, max_area}
use Rattle.sender.specs.declared.sender.Offer.{Offer}
use Rattle.sender.specs.Rules.{bad_offer}
use Rattle.sender.specs.Opening.{opened_sender, OfferOpens, EveryOfferOpens}

abbrev Fitting : Offer → Type 0
Fitting o = (min_packet ≤ o.size) × ((0 < o.length) × (o.length ≤ max_area))

fitting : (o : Offer) → bad_offer o ≡ false → Fitting o
fitting o e =
    let a = neither (ltb o.size min_packet) _ e in
    let b = neither (eqb o.length 0) _ a.1 in
    (ltb-false _ _ a.0, (positive o.length (eqb-false _ _ b.0), ltb-false _ _ b.1))
  where
    positive : (n : ℕ) → (n ≡ 0 → ⊥) → 0 < n
    positive n some = omega arith

fits : (o : Offer) → Fitting o → bad_offer o ≡ false
fits o f =
    ap₂ ◌||◌ (le-ltb o.size min_packet f.0)
    (ap₂ ◌||◌ (ne_eqb o.length 0 (nonzero o.length f.1.0)) (le-ltb max_area o.length f.1.1))
  where
    nonzero : (n : ℕ) → 0 < n → n ≡ 0 → ⊥
    nonzero n h e = omega arith

pub every-offer-opens : EveryOfferOpens
unfolding opened_sender
every-offer-opens o = go (bad_offer o) refl
  where
    go : (b : Bool) → bad_offer o ≡ b → OfferOpens o
    go false e =
        record {
          opens = (λ _. fitting o e, λ _. simp e);
          refuses = λ no_zero. absurd (no_zero (simp e));
        }
    go true e =
        record {
          opens = (
            λ z. absurd (let y = simp e at z in cc),
            λ f. let z = fits o f in let y : ◌≡◌ {A = ℕ} 0 1 = cc in absurd (omega arith),
          );
          refuses = λ _. simp e;
        }
