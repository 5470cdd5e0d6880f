-- What every call keeps. Assumes nothing.
use mathlib.Core.Path.{◌≡◌, refl, sym, ap, ◌∙◌}
use mathlib.Core.Bool.{true, false, not, ◌||◌}
use mathlib.Core.List.{List}
use Prim.Native.Nat.{ℕ, ◌+◌, ◌*◌, ◌-◌, ◌≤◌, ◌<◌}
use native.Mathlib.Nat.{zero-mul, add-mul, one-mul}
use native.Mathlib.Omega.{arith}
use borrow.Author.Tests.{ltb-true}
use lib.Dec.{ltb, eqb}
use lib.ListN.{length}
use Rattle.frames.specs.Buffer.{data_at}
use Rattle.sequences.proofs.Conditionals.{of-both, of_each}
use Rattle.commands.specs.Limits.{max_packet}
use Rattle.commands.specs.States.{granted, denied_fa, bad_length_fb, not_receiving_fd, never_sent_fe, refused_fe}
use Rattle.replies.specs.declared.reply_fields.ReplyFA.{ReplyFA}
use Rattle.replies.specs.declared.reply_fields.ReplyFB.{ReplyFB}
use Rattle.replies.specs.declared.reply_fields.ReplyFC.{ReplyFC}
use Rattle.replies.specs.declared.reply_fields.ReplyState.{ReplyState}
use Rattle.replies.specs.ReplyFields.{fields_fa, fields_fb, fields_fc, fields_state}
use Rattle.sender.specs.declared.phase.Phase.{Phase}
use Rattle.sender.specs.declared.phase.Phase.TheVariants.{Asking, Telling, Placing, Sending, Ending, Done, GivenUp}
use Rattle.sender.specs.declared.decision.Decision.{Decision}
use Rattle.sender.specs.declared.decision.Decision.TheVariants as decision
use Rattle.sender.specs.declared.sender.Sender.{Sender}
use Rattle.commands.specs.declared.outcome.Outcome.{Outcome}
use Rattle.commands.specs.Outcomes.{accepted, wrong_reply, same_outcome}
use Rattle.sender.specs.Phases.{by_phase}
use Rattle.sender.specs.Senders.{max_silences, max_legs, packet_size, next_size, begun, moved_to, again}
use Rattle.sender.specs.Rules.{breaks_rules}
use Rattle.sender.specs.Decisions.{nothing_decided, decided, go_on, given_up, leg_over}
use Rattle.sender.specs.Requests.{sender_refusal}
use Rattle.sender.specs.Replies.{own_reply, judged_fa, judged_fb, judged_fc, judged_fd, judged_fe, resume_at, onward, judged_in, after_reply}
use Rattle.sender.specs.Silences.{unheard, silent_in, after_silence}
use Rattle.sender.specs.Kept.{Keeps}
use Rattle.sender.proofs.Phases.{of_phase}
use Rattle.sender.proofs.RulesKept.{lawful, lawful-accepted}
use Rattle.sender.proofs.Refusals.{same_length}
use Rattle.commands.proofs.Outcomes.{same-true}
use Rattle.sender.proofs.Resumptions.{resume_fits}

-- the phases in which place and number are not looked at
abbrev pub Free : Phase → Type 0
Free p = (p ≡ Placing → ⊥) × (p ≡ Sending → ⊥)

pub free : (p : Phase) → by_phase p true true false false true true true ≡ true → Free p
free p e =
    let told : (q : Phase) → p ≡ q → by_phase q true true false false true true true ≡ true =
    λ q is. ap (λ (x : Phase). by_phase x true true false false true true true) (sym is) ∙ e in
    (λ is. false_true (told Placing is), λ is. false_true (told Sending is))
  where
    false_true : false ≡ true → ⊥
    false_true e = let z : ◌≡◌ {A = ℕ} 0 1 = cc in omega arith

module _ (s : Sender) where
  -- ---- records that keep the rules

  -- another request: its place and number are those of its phase
  pub moved-lawful : (p : Phase) (place number : ℕ) → (p ≡ Placing → place ≤ s.offer.length) → (p ≡ Sending → place < s.offer.length)
      → (p ≡ Sending → number * packet_size s.offer.size ≤ place) → breaks_rules s ≡ false
      → breaks_rules (moved_to s p place number) ≡ false
  moved-lawful p place number placing sending numbered ok =
      let l = lawful s ok in
      lawful-accepted (moved_to s p place number)
      (record {
        least_size = l.least_size;
        some-image = l.some-image;
        most-image = l.most-image;
        silences = omega arith;
        legs = l.legs;
        placing = placing;
        sending = sending;
        numbered = numbered;
      })

  pub free-lawful : (p : Phase) → Free p → breaks_rules s ≡ false → breaks_rules (moved_to s p 0 0) ≡ false
  free-lawful p free = moved-lawful p 0 0 (λ q. absurd (free.0 q)) (λ q. absurd (free.1 q)) (λ q. absurd (free.1 q))

  pub placing-lawful : (place : ℕ) → place ≤ s.offer.length → breaks_rules s ≡ false → breaks_rules (moved_to s Placing place 0) ≡ false
  placing-lawful place fits =
      moved-lawful Placing place 0 (λ q. fits) (λ q. let z : ◌≡◌ {A = ℕ} 0 1 = cc in absurd (omega arith))
      (λ q. let z : ◌≡◌ {A = ℕ} 0 1 = cc in absurd (omega arith))

  pub sending-lawful : (place number : ℕ) → place < s.offer.length → number * packet_size s.offer.size ≤ place → breaks_rules s ≡ false
      → breaks_rules (moved_to s Sending place number) ≡ false
  sending-lawful place number below numbered = moved-lawful Sending place number (λ q. omega arith) (λ q. below) (λ q. numbered)

  begun-lawful : (legs : ℕ) → legs ≤ max_legs → breaks_rules s ≡ false → breaks_rules (begun s.offer legs) ≡ false
  begun-lawful legs few ok =
      let l = lawful s ok in
      lawful-accepted (begun s.offer legs)
      (record {
        least_size = l.least_size;
        some-image = l.some-image;
        most-image = l.most-image;
        silences = omega arith;
        legs = few;
        placing = λ q. absurd ((free Asking refl).0 q);
        sending = λ q. absurd ((free Asking refl).1 q);
        numbered = λ q. absurd ((free Asking refl).1 q);
      })

  again-lawful : s.tries.silences < max_silences → breaks_rules s ≡ false → breaks_rules (again s) ≡ false
  again-lawful few ok =
      let l = lawful s ok in
      lawful-accepted (again s)
      (record {
        least_size = l.least_size;
        some-image = l.some-image;
        most-image = l.most-image;
        silences = omega arith;
        legs = l.legs;
        placing = l.placing;
        sending = l.sending;
        numbered = l.numbered;
      })

  -- ---- decisions

  refused-keeps : (k : Outcome) → Keeps s (nothing_decided s k)
  refused-keeps k = record { lawful = λ ok. ok; offer = refl; unchanged = λ n. refl }

  -- another record of the same image
  decided-keeps : (d : Decision) (t : Sender) → t.offer ≡ s.offer → (breaks_rules s ≡ false → breaks_rules t ≡ false)
      → Keeps s (decided d t)
  decided-keeps d t same ok = record { lawful = ok; offer = same; unchanged = λ n. absurd (n refl) }

  moved_keeps : (d : Decision) (p : Phase) → Free p → Keeps s (decided d (moved_to s p 0 0))
  moved_keeps d p is = decided-keeps d (moved_to s p 0 0) refl (free-lawful p is)

  given_up_keeps : Keeps s (given_up s)
  given_up_keeps = moved_keeps decision.GivenUp GivenUp (free GivenUp refl)

  leg_over_keeps : Keeps s (leg_over s)
  unfolding leg_over
  leg_over_keeps =
      let legs = s.tries.new_legs in
      of_each (Keeps s) (ltb legs max_legs) _ _
      (λ e.
      let few = ltb-true legs max_legs e in
      decided-keeps decision.NewLeg (begun s.offer (legs + 1)) refl (begun-lawful (legs + 1) (omega arith)))
      (λ e. given_up_keeps)

  -- ---- replies

  fa-keeps : (r : ReplyFA) → Keeps s (judged_fa s r)
  unfolding judged_fa
  fa-keeps r =
      of-both (Keeps s) (ltb denied_fa r.flag || not (eqb r.len2 max_packet)) _ _ (refused-keeps wrong_reply)
      (of-both (Keeps s) (eqb r.flag granted) _ _ (moved_keeps decision.GoOn Telling (free Telling refl)) given_up_keeps)

  fb-keeps : (r : ReplyFB) (image : List ℕ) → length image ≡ s.offer.length → Keeps s (judged_fb s r image)
  unfolding judged_fb
  fb-keeps r image size =
      let place = resume_at r image in
      let fits : place ≤ s.offer.length = omega (arith, resume_fits r image) in
      of-both (Keeps s) (ltb bad_length_fb r.state) _ _ (refused-keeps wrong_reply)
      (of-both (Keeps s) (eqb r.state granted) _ _
      (decided-keeps decision.GoOn (moved_to s Placing place 0) refl (placing-lawful place fits)) given_up_keeps)

  -- the packet at a place below the image's end, or the end
  onward-keeps : (place number : ℕ) → (breaks_rules s ≡ false → place < s.offer.length → number * packet_size s.offer.size ≤ place)
      → Keeps s (go_on (onward s place number))
  unfolding onward
  onward-keeps place number numbered =
      of_each (λ (t : Sender). Keeps s (go_on t)) (ltb place s.offer.length) _ _
      (λ e.
      let below = ltb-true place s.offer.length e in
      decided-keeps decision.GoOn (moved_to s Sending place number) refl (λ ok. sending-lawful place number below (numbered ok below) ok))
      (λ e. moved_keeps decision.GoOn Ending (free Ending refl))

  fc-keeps : (r : ReplyFC) → Keeps s (judged_fc s r)
  unfolding judged_fc
  fc-keeps r =
      of-both (Keeps s) (not (eqb r.offset s.position.place || eqb r.offset 0)) _ _ (refused-keeps wrong_reply)
      (onward-keeps r.offset 0 (λ ok below. let none = zero-mul (packet_size s.offer.size) in omega arith))

  -- a packet before the end is a whole one
  pub next-number : s.position.phase ≡ Sending → breaks_rules s ≡ false → s.position.place + next_size s < s.offer.length
      → (s.position.number + 1) * packet_size s.offer.size ≤ s.position.place + next_size s
  unfolding next_size
  next-number is ok =
      let l = lawful s ok in
      let n = s.offer.length in
      let place = s.position.place in
      let packet = packet_size s.offer.size in
      let begins = l.sending is in
      let before = l.numbered is in
      let sum = add-mul s.position.number 1 packet in
      let one = one-mul packet in
      of_each (λ (k : ℕ). place + k < n → (s.position.number + 1) * packet ≤ place + k) (ltb (n - place) packet) (n - place) packet
      (λ e h. absurd (omega arith)) (λ e h. omega arith)

  fd-keeps : (r : ReplyState) → s.position.phase ≡ Sending → Keeps s (judged_fd s r)
  unfolding judged_fd
  fd-keeps r is =
      of-both (Keeps s) (ltb not_receiving_fd r.state) _ _ (refused-keeps wrong_reply)
      (of-both (Keeps s) (eqb r.state granted) _ _
      (onward-keeps (s.position.place + next_size s) (s.position.number + 1) (next-number is)) leg_over_keeps)

  fe-keeps : (r : ReplyState) → Keeps s (judged_fe s r)
  unfolding judged_fe
  fe-keeps r =
      of-both (Keeps s) (ltb refused_fe r.state || eqb r.state never_sent_fe) _ _ (refused-keeps wrong_reply)
      (of-both (Keeps s) (eqb r.state granted) _ _ (moved_keeps decision.Done Done (free Done refl)) leg_over_keeps)

  judged-keeps : (d image : List ℕ) → length image ≡ s.offer.length → Keeps s (judged_in s d image)
  unfolding judged_in
  judged-keeps d image size =
      of_phase (Keeps s) s.position.phase _ _ _ _ _ _ _ (λ q. fa-keeps (fields_fa d)) (λ q. fb-keeps (fields_fb d) image size)
      (λ q. fc-keeps (fields_fc d)) (fd-keeps (fields_state d)) (λ q. fe-keeps (fields_state d)) (λ q. refused-keeps wrong_reply)
      (λ q. refused-keeps wrong_reply)

  pub reply-keeps : (image b : List ℕ) → Keeps s (after_reply s image b)
  unfolding after_reply
  reply-keeps image b =
      let refusal = sender_refusal s (length image) in
      of_each (Keeps s) (same_outcome refusal accepted) _ _
      (λ e.
      of-both (Keeps s) (own_reply s b) _ _ (judged-keeps (data_at b) image (same_length s (length image) (same-true refusal accepted e)))
      (refused-keeps wrong_reply))
      (λ e. refused-keeps refusal)

  -- ---- silences

  unheard-keeps : Keeps s (unheard s)
  unfolding unheard
  unheard-keeps =
      of_each (Keeps s) (ltb s.tries.silences max_silences) _ _
      (λ e. decided-keeps decision.SendAgain (again s) refl (again-lawful (ltb-true s.tries.silences max_silences e)))
      (λ e. leg_over_keeps)

  stays-keeps : (d : Decision) → Keeps s (decided d s)
  stays-keeps d = decided-keeps d s refl (λ ok. ok)

  pub silence-keeps : (n : ℕ) → Keeps s (after_silence s n)
  unfolding after_silence silent_in
  silence-keeps n =
      let u = unheard-keeps in
      of-both (Keeps s) (same_outcome (sender_refusal s n) accepted) _ _
      (of_phase (Keeps s) s.position.phase _ _ _ _ _ _ _ (λ q. u) (λ q. u) (λ q. u) (λ q. u) (λ q. u) (λ q. stays-keeps decision.Done)
      (λ q. stays-keeps decision.GivenUp))
      (refused-keeps (sender_refusal s n))
