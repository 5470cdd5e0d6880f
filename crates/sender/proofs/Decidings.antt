-- Which decision a call comes to, and what it leaves. Assumes nothing.
use mathlib.Core.Path.{◌≡◌, refl, sym, ap, subst, ◌∙◌}
use mathlib.Core.Bool.{Bool, true, false, not, ◌||◌}
use mathlib.Core.Logic.{◌⊎◌, inl, inr, ⊎_elim, ◌↔◌}
use mathlib.Core.List.{List}
use Prim.Native.Nat.{ℕ, zero, suc, ◌+◌, ◌≤◌, ◌<◌}
use native.Mathlib.Omega.{arith}
use borrow.Author.Tests.{ltb-true, ltb-false, eqb-true, eqb-false, lt-ltb, le-ltb, not-false}
use lib.Dec.{ltb, eqb}
use lib.ListN.{length}
use Rattle.frames.specs.Buffer.{data_at}
use Rattle.sequences.proofs.Conditionals.{of-both, of_each, neither}
use Rattle.commands.specs.Limits.{max_packet}
use Rattle.commands.specs.States.{granted, denied_fa, bad_length_fb, not_receiving_fd, never_sent_fe, refused_fe}
use Rattle.replies.specs.ReplyFields.{fields_fa, fields_fb, fields_fc, fields_state}
use Rattle.sender.specs.declared.phase.Phase.{Phase}
use Rattle.sender.specs.declared.phase.Phase.TheVariants as phase
use Rattle.sender.specs.declared.decision.Decision.{Decision}
use Rattle.sender.specs.declared.decision.Decision.TheVariants.{Nothing, GoOn, SendAgain, NewLeg, Done, GivenUp}
use Rattle.sender.specs.declared.decision.Decided.{Decided}
use Rattle.sender.specs.declared.sender.Sender.{Sender}
use Rattle.commands.specs.Outcomes.{accepted, same_outcome}
use Rattle.sender.specs.Phases.{is_final, command_of}
use Rattle.sender.specs.Senders.{max_silences, max_legs, next_size, begun, again}
use Rattle.sender.specs.Decisions.{decided, go_on, given_up, leg_over}
use Rattle.sender.specs.Requests.{sender_refusal}
use Rattle.sender.specs.Replies.{own_reply, judged_fa, judged_fb, judged_fc, judged_fd, judged_fe, onward, judged_in, after_reply}
use Rattle.sender.specs.Silences.{unheard, silent_in, after_silence}
use Rattle.sender.specs.Deciding.{Heard, StepGranted, ImageRefused, LegRefused, Waited, FourthSilence, LeftBy, SenderDecides}
use Rattle.sender.proofs.Phases.{of_phase, open_choice}
use Rattle.sender.proofs.RulesKept.{lawful}
use Rattle.sender.proofs.Refusals.{not-refused}
use Rattle.commands.proofs.Outcomes.{same-true}
use Rattle.sender.proofs.Hearings.{
  heard,
  asking-granted,
  asking_denied,
  offer-granted,
  offer-refused,
  place-given,
  packet-granted,
  packet-refused,
  end_refused,
}

-- ---- numbers

positive : (n : ℕ) → eqb n 0 ≡ false → 1 ≤ n
positive zero e = absurd (eqb-false 0 0 e refl)
positive (suc n) e = omega arith

one_or_three : (n : ℕ) → n ≤ 3 → 1 ≤ n → eqb n 2 ≡ false → (n ≡ 1) ⊎ (n ≡ 3)
one_or_three zero most least e = absurd (omega arith)
one_or_three (suc zero) most least e = inl refl
one_or_three (suc (suc zero)) most least e = absurd (eqb-false 2 2 e refl)
one_or_three (suc (suc (suc n))) most least e = inr (omega arith)

-- ---- the leg's end

module _ (s : Sender) where
  few-legs : (n : ℕ) → sender_refusal s n ≡ accepted → s.tries.new_legs ≤ max_legs
  few-legs n taken = (lawful s (not-refused s n taken)).legs

  -- what holds of a new leg where fewer than three are begun, and of given up where three are, holds of the leg's end
  of_leg_over : (P : Decided → Type 0) (n : ℕ) → sender_refusal s n ≡ accepted
      → (s.tries.new_legs < max_legs → P (decided NewLeg (begun s.offer (s.tries.new_legs + 1))))
      → (s.tries.new_legs ≡ max_legs → P (given_up s)) → P (leg_over s)
  unfolding leg_over
  of_leg_over P n taken another last =
      let legs = s.tries.new_legs in
      of_each P (ltb legs max_legs) _ _ (λ e. another (ltb-true legs max_legs e))
      (λ e. let few = few-legs n taken in let many = ltb-false legs max_legs e in last (omega arith))

  leg_begins : s.tries.new_legs < max_legs → leg_over s ≡ decided NewLeg (begun s.offer (s.tries.new_legs + 1))
  unfolding leg_over
  leg_begins few = rw (lt-ltb s.tries.new_legs max_legs few) refl

  leg_last : s.tries.new_legs ≡ max_legs → leg_over s ≡ given_up s
  unfolding leg_over
  leg_last is = rw (le-ltb s.tries.new_legs max_legs (omega arith)) refl

-- ---- replies

-- what each decision means of the reply
abbrev Meant : Sender → List ℕ → List ℕ → Decision → Type 0
Meant s image b Nothing = Unit
Meant s image b GoOn = StepGranted s image b
Meant s image b SendAgain = ⊥
Meant s image b NewLeg = LegRefused s image b × (s.tries.new_legs < max_legs)
Meant s image b Done = Unit
Meant s image b GivenUp = ImageRefused s image b ⊎ (LegRefused s image b × (s.tries.new_legs ≡ max_legs))

module _ (s : Sender) (image b : List ℕ) where
  abbrev Means : Decided → Type 0
  Means d = Meant s image b d.decision

  fa-means : Heard phase.Asking 0xFA s image b → Means (judged_fa s (fields_fa (data_at b)))
  unfolding judged_fa
  fa-means h =
      let r = fields_fa (data_at b) in
      of_each Means (ltb denied_fa r.flag || not (eqb r.len2 max_packet)) _ _ (λ wrong. tt)
      (λ right.
      let both = neither (ltb denied_fa r.flag) (not (eqb r.len2 max_packet)) right in
      let most = ltb-false denied_fa r.flag both.0 in
      let size = eqb-true r.len2 max_packet (not-false (eqb r.len2 max_packet) both.1) in
      of_each Means (eqb r.flag granted) _ _
      (λ none. inl (record { heard = h; flagged = eqb-true r.flag granted none; len2 = size }))
      (λ some. let least = positive r.flag some in inl (inl (record { heard = h; flagged = omega arith; len2 = size }))))

  fb-means : Heard phase.Telling 0xFB s image b → Means (judged_fb s (fields_fb (data_at b)) image)
  unfolding judged_fb
  fb-means h =
      let r = fields_fb (data_at b) in
      of_each Means (ltb bad_length_fb r.state) _ _ (λ wrong. tt)
      (λ right.
      of_each Means (eqb r.state granted) _ _ (λ none. inr (inl (record { heard = h; state = eqb-true r.state granted none })))
      (λ some. inl (inr (record { heard = h; least = positive r.state some; most = ltb-false bad_length_fb r.state right }))))

  fc-means : Heard phase.Placing 0xFC s image b → Means (judged_fc s (fields_fc (data_at b)))
  unfolding judged_fc
  fc-means h =
      let r = fields_fc (data_at b) in
      of_each Means (not (eqb r.offset s.position.place || eqb r.offset 0)) _ _ (λ wrong. tt)
      (λ right.
      inr (inr (inl (record {
        heard = h;
        offset =
            ⊎_elim (λ e. inl (eqb-true r.offset s.position.place e)) (λ e. inr (eqb-true r.offset 0 e))
            (either (eqb r.offset s.position.place) (eqb r.offset 0) right);
      }))))
    where
      either : (x y : Bool) → not (x || y) ≡ false → (x ≡ true) ⊎ (y ≡ true)
      either true y e = inl refl
      either false y e = inr (not-false y e)

  leg_over_means : LegRefused s image b → sender_refusal s (length image) ≡ accepted → Means (leg_over s)
  leg_over_means lost taken = of_leg_over s Means (length image) taken (λ few. (lost, few)) (λ three. inr (lost, three))

  fd-means : Heard phase.Sending 0xFD s image b → Means (judged_fd s (fields_state (data_at b)))
  unfolding judged_fd
  fd-means h =
      let r = fields_state (data_at b) in
      of_each Means (ltb not_receiving_fd r.state) _ _ (λ wrong. tt)
      (λ right.
      of_each Means (eqb r.state granted) _ _ (λ none. inr (inr (inr (record { heard = h; state = eqb-true r.state granted none }))))
      (λ some.
      leg_over_means (inl (record { heard = h; least = positive r.state some; most = ltb-false not_receiving_fd r.state right }))
      h.taken))

  fe-means : Heard phase.Ending 0xFE s image b → Means (judged_fe s (fields_state (data_at b)))
  unfolding judged_fe
  fe-means h =
      let r = fields_state (data_at b) in
      of_each Means (ltb refused_fe r.state || eqb r.state never_sent_fe) _ _ (λ wrong. tt)
      (λ right.
      let both = neither (ltb refused_fe r.state) (eqb r.state never_sent_fe) right in
      of_each Means (eqb r.state granted) _ _ (λ none. tt)
      (λ some.
      leg_over_means
      (inr (record {
        heard = h;
        state = one_or_three r.state (ltb-false refused_fe r.state both.0) (positive r.state some) both.1;
      }))
      h.taken))

  reply-means : Means (after_reply s image b)
  unfolding after_reply judged_in
  reply-means =
      let refusal = sender_refusal s (length image) in
      of_each Means (same_outcome refusal accepted) _ _
      (λ e.
      let taken = same-true refusal accepted e in
      of_each Means (own_reply s b) _ _
      (λ own.
      let h : (p : Phase) → s.position.phase ≡ p → Heard p (command_of p) s image b = λ p is. heard s image b p taken is own in
      of_phase Means s.position.phase _ _ _ _ _ _ _ (λ q. fa-means (h phase.Asking q)) (λ q. fb-means (h phase.Telling q))
      (λ q. fc-means (h phase.Placing q)) (λ q. fd-means (h phase.Sending q)) (λ q. fe-means (h phase.Ending q)) (λ q. tt) (λ q. tt))
      (λ other. tt))
      (λ e. tt)

  meant-by-reply : (x : Decision) → (after_reply s image b).decision ≡ x → Meant s image b x
  meant-by-reply x is = subst (Meant s image b) is reply-means

  leg_refused : LegRefused s image b → after_reply s image b ≡ leg_over s
  leg_refused = ⊎_elim (packet-refused s image b) (end_refused s image b)

  decides : (d : Decided) → after_reply s image b ≡ d → (after_reply s image b).decision ≡ d.decision
  decides d is = ap (λ (x : Decided). x.decision) is

  replied-go-on : ((after_reply s image b).decision ≡ GoOn) ↔ StepGranted s image b
  replied-go-on = (
    meant-by-reply GoOn,
    ⊎_elim (λ g. decides _ (asking-granted s image b g))
        (⊎_elim (λ g. decides _ (offer-granted s image b g))
        (⊎_elim (λ g. decides _ (place-given s image b g)) (λ g. decides _ (packet-granted s image b g)))),
  )

  replied_new_leg : ((after_reply s image b).decision ≡ NewLeg) ↔ (LegRefused s image b × (s.tries.new_legs < max_legs))
  replied_new_leg = (meant-by-reply NewLeg, λ both. decides _ (leg_refused both.0 ∙ leg_begins s both.1))

  replied_given_up : ((after_reply s image b).decision ≡ GivenUp)
      ↔ (ImageRefused s image b ⊎ (LegRefused s image b × (s.tries.new_legs ≡ max_legs)))
  replied_given_up = (
    meant-by-reply GivenUp,
    ⊎_elim (⊎_elim (λ g. decides _ (asking_denied s image b g)) (λ g. decides _ (offer-refused s image b g)))
        (λ both. decides _ (leg_refused both.0 ∙ leg_last s both.1)),
  )

-- ---- silences

-- what each decision means of a silence
abbrev MeantSilent : Sender → ℕ → Decision → Type 0
MeantSilent s n Nothing = Unit
MeantSilent s n GoOn = ⊥
MeantSilent s n SendAgain = Waited s n × (s.tries.silences < max_silences)
MeantSilent s n NewLeg = FourthSilence s n × (s.tries.new_legs < max_legs)
MeantSilent s n Done = Unit
MeantSilent s n GivenUp =
    ((sender_refusal s n ≡ accepted) × (s.position.phase ≡ phase.GivenUp)) ⊎ (FourthSilence s n × (s.tries.new_legs ≡ max_legs))

module _ (s : Sender) (n : ℕ) where
  abbrev MeansSilent : Decided → Type 0
  MeansSilent d = MeantSilent s n d.decision

  unheard-means : Waited s n → MeansSilent (unheard s)
  unfolding unheard
  unheard-means w =
      let silences = s.tries.silences in
      of_each MeansSilent (ltb silences max_silences) _ _ (λ e. (w, ltb-true silences max_silences e))
      (λ e.
      let few = (lawful s (not-refused s n w.taken)).silences in
      let many = ltb-false silences max_silences e in
      let fourth : FourthSilence s n = record { waited = w; silences = omega arith } in
      of_leg_over s MeansSilent n w.taken (λ legs. (fourth, legs)) (λ legs. inr (fourth, legs)))

  silence-means : MeansSilent (after_silence s n)
  unfolding after_silence silent_in
  silence-means =
      let refusal = sender_refusal s n in
      of_each MeansSilent (same_outcome refusal accepted) _ _
      (λ e.
      let taken = same-true refusal accepted e in
      let u : (p : Phase) → is_final p ≡ false → s.position.phase ≡ p → MeansSilent (unheard s) =
      λ p goes is. unheard-means (record { taken = taken; unended = ap is_final is ∙ goes }) in
      of_phase MeansSilent s.position.phase _ _ _ _ _ _ _ (u phase.Asking refl) (u phase.Telling refl) (u phase.Placing refl)
      (u phase.Sending refl) (u phase.Ending refl) (λ q. tt) (λ q. inl (taken, q)))
      (λ e. tt)

  meant-by-silence : (x : Decision) → (after_silence s n).decision ≡ x → MeantSilent s n x
  meant-by-silence x is = subst (MeantSilent s n) is silence-means

  waited-unheard : Waited s n → after_silence s n ≡ unheard s
  unfolding after_silence silent_in
  waited-unheard w = rw w.taken (open_choice s.position.phase (unheard s) _ _ w.unended)

  fourth_leg_over : FourthSilence s n → after_silence s n ≡ leg_over s
  unfolding unheard
  fourth_leg_over f =
      let three = f.silences in
      waited-unheard f.waited ∙ rw (le-ltb s.tries.silences max_silences (omega arith)) refl

  decides-silent : (d : Decided) → after_silence s n ≡ d → (after_silence s n).decision ≡ d.decision
  decides-silent d is = ap (λ (x : Decided). x.decision) is

  silent-again : ((after_silence s n).decision ≡ SendAgain) ↔ (Waited s n × (s.tries.silences < max_silences))
  unfolding unheard
  silent-again = (
    meant-by-silence SendAgain,
    λ both. decides-silent (decided SendAgain (again s))
        (waited-unheard both.0 ∙ rw (lt-ltb s.tries.silences max_silences both.1) refl),
  )

  silent_new_leg : ((after_silence s n).decision ≡ NewLeg) ↔ (FourthSilence s n × (s.tries.new_legs < max_legs))
  silent_new_leg = (meant-by-silence NewLeg, λ both. decides-silent _ (fourth_leg_over both.0 ∙ leg_begins s both.1))

  silent_given_up : ((after_silence s n).decision ≡ GivenUp)
      ↔ (((sender_refusal s n ≡ accepted) × (s.position.phase ≡ phase.GivenUp)) ⊎ (FourthSilence s n × (s.tries.new_legs ≡ max_legs)))
  unfolding after_silence silent_in
  silent_given_up = (
    meant-by-silence GivenUp,
    ⊎_elim (λ both. simp (both.0, both.1)) (λ both. decides-silent _ (fourth_leg_over both.0 ∙ leg_last s both.1)),
  )

-- ---- what is left

module _ (s : Sender) where
  abbrev Leaves : Decided → Type 0
  Leaves d = LeftBy d.decision s d.next

  leg_over_leaves : Leaves (leg_over s)
  unfolding leg_over
  leg_over_leaves = of-both Leaves (ltb s.tries.new_legs max_legs) _ _ (refl, refl) (refl, refl)

  onward-leaves : (place number : ℕ) → Leaves (go_on (onward s place number))
  unfolding onward
  onward-leaves place number = of-both (λ (t : Sender). Leaves (go_on t)) (ltb place s.offer.length) _ _ refl refl

  judged-leaves : (d image : List ℕ) → Leaves (judged_in s d image)
  unfolding judged_in judged_fa judged_fb judged_fc judged_fd judged_fe
  judged-leaves d image =
      let fa = fields_fa d in
      let fb = fields_fb d in
      let fc = fields_fc d in
      let r = fields_state d in
      of_phase Leaves s.position.phase _ _ _ _ _ _ _
      (λ q.
      of-both Leaves (ltb denied_fa fa.flag || not (eqb fa.len2 max_packet)) _ _ refl
      (of-both Leaves (eqb fa.flag granted) _ _ refl (refl, refl)))
      (λ q. of-both Leaves (ltb bad_length_fb fb.state) _ _ refl (of-both Leaves (eqb fb.state granted) _ _ refl (refl, refl)))
      (λ q.
      of-both Leaves (not (eqb fc.offset s.position.place || eqb fc.offset 0)) _ _ refl (onward-leaves fc.offset 0))
      (λ q.
      of-both Leaves (ltb not_receiving_fd r.state) _ _ refl
      (of-both Leaves (eqb r.state granted) _ _ (onward-leaves (s.position.place + next_size s) (s.position.number + 1))
      leg_over_leaves))
      (λ q.
      of-both Leaves (ltb refused_fe r.state || eqb r.state never_sent_fe) _ _ refl
      (of-both Leaves (eqb r.state granted) _ _ (refl, refl) leg_over_leaves))
      (λ q. refl) (λ q. refl)

  reply-leaves : (image b : List ℕ) → Leaves (after_reply s image b)
  unfolding after_reply
  reply-leaves image b =
      of-both Leaves (same_outcome (sender_refusal s (length image)) accepted) _ _
      (of-both Leaves (own_reply s b) _ _ (judged-leaves (data_at b) image) refl) refl

  silence-leaves : (n : ℕ) → is_final s.position.phase ≡ false → Leaves (after_silence s n)
  unfolding after_silence silent_in unheard
  silence-leaves n goes =
      of-both Leaves (same_outcome (sender_refusal s n) accepted) _ _
      (subst Leaves (sym (open_choice s.position.phase (unheard s) _ _ goes))
      (of-both Leaves (ltb s.tries.silences max_silences) _ _ (refl, refl) leg_over_leaves)) refl

pub sender-decides : SenderDecides
sender-decides =
    record {
      go-on-by-reply = replied-go-on;
      new_leg_by_reply = replied_new_leg;
      given_up_by_reply = replied_given_up;
      again-by-reply = λ s image b. meant-by-reply s image b SendAgain;
      left-by-reply = reply-leaves;
      again-by-silence = silent-again;
      new_leg_by_silence = silent_new_leg;
      given_up_by_silence = silent_given_up;
      go-on-by-silence = λ s n. meant-by-silence s n GoOn;
      left-by-silence = silence-leaves;
    }
