-- docs/SENDER.md, "Calls": opening. Assumes nothing.
use Rattle.std.specs.Prelude.{◌≡◌, ◌↔◌, cond, List, ℕ, ◌≤◌, ◌<◌}
use Rattle.sender.specs.declared.sender.Offer.{Offer}
use Rattle.sender.specs.declared.opening.Opened.{Opened}
use Rattle.commands.specs.Outcomes.{accepted, wrong_image}
use Rattle.sender.specs.Senders.{fresh_sender, no_sender}
use Rattle.sender.specs.Rules.{bad_offer}
use Rattle.commands.specs.Limits.{min_packet, max_area}

-- what opening takes; n is the image's length
abbrev pub offer_of : ℕ → List ℕ → List ℕ → List ℕ → ℕ → ℕ → Offer
offer_of channel pid version md5 size n =
    record { channel = channel; pid = pid; version = version; md5 = md5; size = size; length = n }

-- 20: "opening: size below 16, or the image empty or above 1,048,576", and then "the all-zero record"
unfoldable pub opened_sender : Offer → Opened
opened_sender o =
    cond (bad_offer o) (record { outcome = wrong_image; sender = no_sender }) (record { outcome = accepted; sender = fresh_sender o })

-- The claim: 0 exactly when the size is one that FA takes and the image neither empty nor above the longest area; else 20.
pub record OfferOpens (o : Offer) : Type 0 where
  pub opens : ((opened_sender o).outcome ≡ accepted) ↔ ((min_packet ≤ o.size) × ((0 < o.length) × (o.length ≤ max_area)))
  pub refuses : ((opened_sender o).outcome ≡ accepted → ⊥) → (opened_sender o).outcome ≡ wrong_image

abbrev pub EveryOfferOpens : Type 0
EveryOfferOpens = (o : Offer) → OfferOpens o
