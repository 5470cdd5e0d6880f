-- With all silent, FA is sent sixteen times, and then the sender has given up. Assumes nothing.
use mathlib.Core.Path.{◌≡◌, refl, sym, ap, ap₂, subst, ◌∙◌}
use mathlib.Core.Bool.{false}
use mathlib.Core.List.{List}
use Prim.Native.Nat.{ℕ, zero, suc}
use lib.ListN.{length}
use Rattle.sender.specs.declared.phase.Phase.{Phase}
use Rattle.sender.specs.declared.decision.Decided.{Decided}
use Rattle.sender.specs.declared.sender.Offer.{Offer}
use Rattle.sender.specs.declared.sender.Sender.{Sender}
use Rattle.sender.specs.declared.sender.Tries.{Tries}
use Rattle.sender.specs.Rules.{breaks_rules}
use Rattle.sender.specs.Decisions.{leg_over}
use Rattle.sender.specs.Requests.{request_of}
use Rattle.sender.specs.Silences.{unheard, silent_in, after_silence}
use Rattle.sender.specs.Exchanges.{exchange}
use Rattle.sender.specs.AllSilent.{exchange_silent, AllSilent}
use Rattle.sender.proofs.Refusals.{is-accepted}
use Rattle.sender.proofs.Kept.{silence-keeps}
use Rattle.sender.proofs.Exchanges.{then, exchange-step}

-- a silence is not refused
taken : (s : Sender) (image : List ℕ) → breaks_rules s ≡ false → length image ≡ s.offer.length → after_silence s (length image) ≡ silent_in s
unfolding after_silence
taken s image ok size = rw (is-accepted s (length image) ok size) refl

never-refused : (n : ℕ) (s : Sender) (image : List ℕ) → breaks_rules s ≡ false → length image ≡ s.offer.length
    → exchange_silent n s image ≡ exchange silent_in n s image
unfolding exchange
never-refused zero s image ok size = refl
never-refused (suc n) s image ok size =
    let heard : Sender → Decided = λ t. after_silence t (length image) in
    let same = taken s image ok size in
    let keeps = silence-keeps s (length image) in
    let lawful = subst (λ (d : Decided). breaks_rules d.next ≡ false) same (keeps.lawful ok) in
    let fits = size ∙ sym (ap (λ (o : Offer). o.length) keeps.offer) ∙ ap (λ (d : Decided). d.next.offer.length) same in
    exchange-step heard n s image (silent_in s) same
    ∙ ap (then (request_of s image) (silent_in s).decision) (never-refused n (silent_in s).next image lawful fits)

pub all-silent : AllSilent
unfolding exchange silent_in unheard leg_over request_of
all-silent s image ok is none size =
    let asking : Phase → Tries → Sender = λ p t.
    record { offer = s.offer; position = record { phase = p; place = s.position.place; number = s.position.number }; tries = t } in
    never-refused 16 s image ok size ∙ ap (λ (t : Sender). exchange silent_in 16 t image) (ap₂ asking is none)
