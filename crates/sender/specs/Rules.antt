-- docs/SENDER.md, "The record": "Outcome 9 is given exactly when: size is below 16; length is 0 or above 1,048,576; silences or new
-- legs are above 3; or, in placing, place is above length; or, in sending, place is not below length, or number times the packet is
-- above place." Assumes nothing.
use Rattle.std.specs.Prelude.{◌≡◌, Bool, false, not, ◌||◌, ◌↔◌, ◌*◌, ◌≤◌, ◌<◌, ltb, eqb}
use Rattle.sequences.specs.Numbers.{max16}
use Rattle.commands.specs.Limits.{min_packet, max_area}
use Rattle.sender.specs.declared.phase.Phase.TheVariants.{Placing, Sending}
use Rattle.sender.specs.declared.sender.Offer.{Offer}
use Rattle.sender.specs.declared.sender.Position.{Position}
use Rattle.sender.specs.declared.sender.Tries.{Tries}
use Rattle.sender.specs.declared.sender.Sender.{Sender}
use Rattle.sender.specs.Phases.{by_phase}
use Rattle.sender.specs.Senders.{max_silences, max_legs, packet_size}

-- "size is below 16; length is 0 or above 1,048,576"
abbrev pub bad_offer : Offer → Bool
bad_offer o = ltb o.size min_packet || (eqb o.length 0 || ltb max_area o.length)

-- "silences or new legs are above 3"
abbrev pub bad_tries : Tries → Bool
bad_tries t = ltb max_silences t.silences || ltb max_legs t.new_legs

-- "in sending, place is not below length, or number times the packet is above place"
abbrev pub bad_packet : Position → Offer → Bool
bad_packet p o = not (ltb p.place o.length) || ltb p.place (p.number * packet_size o.size)

-- "Place and number are not looked at in other phases."
abbrev pub bad_position : Position → Offer → Bool
bad_position p o = by_phase p.phase false false (ltb o.length p.place) (bad_packet p o) false false false

unfoldable pub breaks_rules : Sender → Bool
breaks_rules s = bad_offer s.offer || (bad_tries s.tries || bad_position s.position s.offer)

-- The same as propositions, one to a rule.
pub record KeepsRules (s : Sender) : Type 0 where
  pub least_size : min_packet ≤ s.offer.size
  pub some-image : 0 < s.offer.length
  pub most-image : s.offer.length ≤ max_area
  pub silences : s.tries.silences ≤ max_silences
  pub legs : s.tries.new_legs ≤ max_legs
  pub placing : s.position.phase ≡ Placing → s.position.place ≤ s.offer.length
  pub sending : s.position.phase ≡ Sending → s.position.place < s.offer.length
  pub numbered : s.position.phase ≡ Sending → s.position.number * packet_size s.offer.size ≤ s.position.place

-- The claim: the two say the same.
abbrev pub RulesMean : Type 0
RulesMean = (s : Sender) → (breaks_rules s ≡ false) ↔ KeepsRules s

-- The claim: "The last keeps the number within two bytes".
abbrev pub NumberFits : Type 0
NumberFits = (s : Sender) → breaks_rules s ≡ false → s.position.phase ≡ Sending → s.position.number < max16
