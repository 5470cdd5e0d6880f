-- Outcome 9's sentence as a test and as propositions: they say the same. Assumes nothing.
use mathlib.Core.Path.{◌≡◌, refl, ap, ap₂, subst}
use mathlib.Core.Bool.{Bool, false, not, ◌||◌}
use Prim.Native.Nat.{ℕ, ◌*◌, ◌<◌}
use native.Mathlib.Omega.{arith}
use borrow.Author.Tests.{ltb-true, ltb-false, lt-ltb, le-ltb, eqb-false, ne_eqb, not-false}
use lib.Dec.{ltb, eqb}
use Rattle.sequences.proofs.Conditionals.{neither}
use Rattle.commands.specs.Limits.{min_packet}
use Rattle.sender.specs.declared.phase.Phase.{Phase}
use Rattle.sender.specs.declared.phase.Phase.TheVariants.{Asking, Telling, Placing, Sending, Ending, Done, GivenUp}
use Rattle.sender.specs.declared.sender.Sender.{Sender}
use Rattle.sender.specs.Phases.{by_phase}
use Rattle.sender.specs.Senders.{max_silences, packet_size}
use Rattle.sender.specs.Rules.{bad_offer, bad_tries, bad_packet, breaks_rules, KeepsRules, RulesMean}

-- the place's rule, by the phase
abbrev PlaceIn : Sender → Phase → Type 0
PlaceIn s p =
    by_phase p false false (ltb s.offer.length s.position.place) (bad_packet s.position s.offer) false false false ≡ false

pub lawful : (s : Sender) → breaks_rules s ≡ false → KeepsRules s
unfolding breaks_rules
lawful s e =
    let o = s.offer in
    let place = s.position.place in
    let e1 = neither (bad_offer o) _ e in
    let e2 = neither (bad_tries s.tries) _ e1.1 in
    let i1 = neither (ltb o.size min_packet) _ e1.0 in
    let i2 = neither (eqb o.length 0) _ i1.1 in
    let c1 = neither (ltb max_silences s.tries.silences) _ e2.0 in
    let in_phase_lem : (p : Phase) → s.position.phase ≡ p → PlaceIn s p = λ p q. subst (PlaceIn s) q e2.1 in
    let packet : s.position.phase ≡ Sending
    → (not (ltb place o.length) ≡ false) × (ltb place (s.position.number * packet_size o.size) ≡ false) =
    λ q. neither (not (ltb place o.length)) _ (in_phase_lem Sending q) in
    record {
      least_size = ltb-false _ _ i1.0;
      some-image = positive o.length (eqb-false _ _ i2.0);
      most-image = ltb-false _ _ i2.1;
      silences = ltb-false _ _ c1.0;
      legs = ltb-false _ _ c1.1;
      placing = λ q. ltb-false _ _ (in_phase_lem Placing q);
      sending = λ q. ltb-true _ _ (not-false _ (packet q).0);
      numbered = λ q. ltb-false _ _ (packet q).1;
    }
  where
    positive : (m : ℕ) → (m ≡ 0 → ⊥) → 0 < m
    positive m n = omega arith

not-zero : (n : ℕ) → 0 < n → n ≡ 0 → ⊥
not-zero n h z = omega arith

both_false : (a b : Bool) → a ≡ false → b ≡ false → (a || b) ≡ false
both_false a b p q = ap₂ ◌||◌ p q

pub lawful-accepted : (s : Sender) → KeepsRules s → breaks_rules s ≡ false
unfolding breaks_rules
lawful-accepted s l =
    let o = s.offer in
    both_false (bad_offer o) _
    (both_false (ltb o.size min_packet) _ (le-ltb _ _ l.least_size)
    (both_false (eqb o.length 0) _ (ne_eqb _ _ (not-zero o.length l.some-image)) (le-ltb _ _ l.most-image)))
    (both_false (bad_tries s.tries) _
    (both_false (ltb max_silences s.tries.silences) _ (le-ltb _ _ l.silences) (le-ltb _ _ l.legs))
    (place s.position.phase refl))
  where
    place : (p : Phase) → s.position.phase ≡ p → PlaceIn s p
    place Asking q = refl
    place Telling q = refl
    place Placing q = le-ltb _ _ (l.placing q)
    place Sending q =
        both_false (not (ltb s.position.place s.offer.length)) _ (ap not (lt-ltb _ _ (l.sending q))) (le-ltb _ _ (l.numbered q))
    place Ending q = refl
    place Done q = refl
    place GivenUp q = refl

pub rules_mean : RulesMean
rules_mean s = (lawful s, lawful-accepted s)
