-- The claim about every call of the sender. Assumes nothing.
use mathlib.Core.Path.{◌≡◌, refl, ap}
use mathlib.Core.Bool.{Bool, false, ◌||◌}
use Rattle.sequences.proofs.Conditionals.{of_each}
use Rattle.sender.specs.declared.sender.Offer.{Offer}
use Rattle.sender.specs.declared.opening.Opened.{Opened}
use Rattle.commands.specs.Outcomes.{accepted}
use Rattle.sender.specs.Senders.{fresh_sender, no_sender}
use Rattle.sender.specs.Rules.{bad_offer, breaks_rules}
use Rattle.sender.specs.Opening.{opened_sender}
use Rattle.sender.specs.Kept.{SenderKeeps}
use Rattle.sender.proofs.RequestReads.{number_fits}
use Rattle.sender.proofs.Kept.{reply-keeps, silence-keeps}
use Rattle.sender.proofs.Endings.{over-replied, over-silent, done-by-replied, done-after-replied, done-by-silent, done-after-silent}

module _ (o : Offer) where
  fresh-lawful : bad_offer o ≡ false → breaks_rules (fresh_sender o) ≡ false
  unfolding breaks_rules
  fresh-lawful e = ap (λ (b : Bool). b || false) e

  open_lawful : (opened_sender o).outcome ≡ accepted → breaks_rules (opened_sender o).sender ≡ false
  unfolding opened_sender
  open_lawful =
      of_each (λ (x : Opened). x.outcome ≡ accepted → breaks_rules x.sender ≡ false) (bad_offer o) _ _ (λ e z. absurd cc)
      (λ e z. fresh-lawful e)

  open_none : ((opened_sender o).outcome ≡ accepted → ⊥) → (opened_sender o).sender ≡ no_sender
  unfolding opened_sender
  open_none =
      of_each (λ (x : Opened). (x.outcome ≡ accepted → ⊥) → x.sender ≡ no_sender)
      (bad_offer o) _ _ (λ e z. refl) (λ e z. absurd (z refl))

pub sender-keeps : SenderKeeps
unfolding breaks_rules
sender-keeps =
    record {
      opened-lawful = open_lawful;
      opened-none = open_none;
      none-unlawful = refl;
      reply = reply-keeps;
      silence = silence-keeps;
      number = number_fits;
      over-reply = over-replied;
      over-silence = over-silent;
      done-by-reply = done-by-replied;
      done-by-silence = done-by-silent;
      done-after-reply = done-after-replied;
      done-after-silence = done-after-silent;
    }
