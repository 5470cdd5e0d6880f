-- docs/SENDER.md: what every call keeps, and what alone leads to done. Assumes nothing.
use Rattle.std.specs.Prelude.{◌≡◌, true, false, ◌⊎◌, ◌↔◌, List, ℕ, length}
use Rattle.frames.specs.Buffer.{data_at}
use Rattle.commands.specs.States.{granted}
use Rattle.replies.specs.ReplyFields.{is_reply, fields_state}
use Rattle.sender.specs.declared.phase.Phase.TheVariants.{Ending, Done}
use Rattle.sender.specs.declared.decision.Decision.TheVariants as decision
use Rattle.sender.specs.declared.decision.Decided.{Decided}
use Rattle.sender.specs.declared.sender.Offer.{Offer}
use Rattle.sender.specs.declared.sender.Sender.{Sender}
use Rattle.commands.specs.Outcomes.{accepted, wrong_reply}
use Rattle.sender.specs.Phases.{is_final}
use Rattle.sender.specs.Senders.{no_sender}
use Rattle.sender.specs.Rules.{breaks_rules, NumberFits}
use Rattle.sender.specs.Opening.{opened_sender}
use Rattle.sender.specs.Decisions.{nothing_decided}
use Rattle.sender.specs.Requests.{sender_refusal}
use Rattle.sender.specs.Replies.{after_reply}
use Rattle.sender.specs.Silences.{after_silence}

-- a call that gives any outcome but 0 has decided nothing and changes nothing
abbrev pub UnlessAccepted : Sender → Decided → Type 0
UnlessAccepted s d = (d.outcome ≡ accepted → ⊥) → d ≡ nothing_decided s d.outcome

-- what a reply or a silence leaves
pub record Keeps (s : Sender) (d : Decided) : Type 0 where
  pub lawful : breaks_rules s ≡ false → breaks_rules d.next ≡ false
  -- what the record was opened with
  pub offer : d.next.offer ≡ s.offer
  pub unchanged : UnlessAccepted s d

-- "FE's 00 alone is done": the call meets neither 9 nor 20, and this is the reply to FE, on this channel, with state 00
pub record EndGranted (s : Sender) (image b : List ℕ) : Type 0 where
  pub taken : sender_refusal s (length image) ≡ accepted
  pub ending : s.position.phase ≡ Ending
  pub reply : is_reply 0xFE b ≡ true
  pub state : fields_state (data_at b) ≡ record { channel = s.offer.channel; state = granted }

-- The claim.
pub record SenderKeeps : Type 0 where
  -- opening that succeeds gives a lawful record; the all-zero one, which a refused one gives, is not
  pub opened-lawful : (o : Offer) → (opened_sender o).outcome ≡ accepted → breaks_rules (opened_sender o).sender ≡ false
  pub opened-none : (o : Offer) → ((opened_sender o).outcome ≡ accepted → ⊥) → (opened_sender o).sender ≡ no_sender
  pub none-unlawful : breaks_rules no_sender ≡ true
  pub reply : (s : Sender) (image b : List ℕ) → Keeps s (after_reply s image b)
  pub silence : (s : Sender) (n : ℕ) → Keeps s (after_silence s n)
  pub number : NumberFits
  -- "done and given up stay, replies then getting 21"
  pub over-reply : (s : Sender) (image b : List ℕ) → is_final s.position.phase ≡ true → sender_refusal s (length image) ≡ accepted
      → after_reply s image b ≡ nothing_decided s wrong_reply
  pub over-silence : (s : Sender) (n : ℕ) → is_final s.position.phase ≡ true → (after_silence s n).next ≡ s
  -- "FE's 00 alone is done": exactly then a reply decides on done; a silence does where the sender was done already
  pub done-by-reply : (s : Sender) (image b : List ℕ) → ((after_reply s image b).decision ≡ decision.Done) ↔ EndGranted s image b
  pub done-by-silence : (s : Sender) (n : ℕ)
      → ((after_silence s n).decision ≡ decision.Done) ↔ ((sender_refusal s n ≡ accepted) × (s.position.phase ≡ Done))
  -- the next phase is done exactly when it was so already, or by FE's 00 now
  pub done-after-reply : (s : Sender) (image b : List ℕ)
      → ((after_reply s image b).next.position.phase ≡ Done) ↔ ((s.position.phase ≡ Done) ⊎ EndGranted s image b)
  pub done-after-silence : (s : Sender) (n : ℕ) → ((after_silence s n).next.position.phase ≡ Done) ↔ (s.position.phase ≡ Done)
