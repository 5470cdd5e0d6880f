-- Done and given up stay, and FE's 00 alone is done. Assumes nothing.
use mathlib.Core.Path.{◌≡◌, refl, ap, ap₂, ◌∙◌}
use mathlib.Core.Bool.{true, cond, not, ◌||◌}
use mathlib.Core.Logic.{◌⊎◌, inl, inr, ⊎_elim, ◌↔◌}
use mathlib.Core.List.{List}
use Prim.Native.Nat.{ℕ, ◌+◌}
use native.Mathlib.Omega.{arith}
use borrow.Author.Tests.{eqb-true}
use lib.Dec.{ltb, eqb}
use lib.ListN.{length}
use Rattle.frames.specs.Buffer.{data_at}
use Rattle.sequences.proofs.Conditionals.{of-both, of_each}
use Rattle.commands.specs.Limits.{max_packet}
use Rattle.commands.specs.States.{granted, denied_fa, bad_length_fb, not_receiving_fd, never_sent_fe, refused_fe}
use Rattle.replies.specs.declared.reply_fields.ReplyFA.{ReplyFA}
use Rattle.replies.specs.declared.reply_fields.ReplyFB.{ReplyFB}
use Rattle.replies.specs.declared.reply_fields.ReplyFC.{ReplyFC}
use Rattle.replies.specs.declared.reply_fields.ReplyState.{ReplyState}
use Rattle.replies.specs.ReplyFields.{fields_fa, fields_fb, fields_fc, fields_state}
use Rattle.sender.specs.declared.phase.Phase.{Phase}
use Rattle.sender.specs.declared.phase.Phase.TheVariants.{Asking, Telling, Placing, Sending, Ending, Done, GivenUp}
use Rattle.sender.specs.declared.decision.Decision.{Decision}
use Rattle.sender.specs.declared.decision.Decision.TheVariants as decision
use Rattle.sender.specs.declared.decision.Decided.{Decided}
use Rattle.sender.specs.declared.sender.Sender.{Sender}
use Rattle.commands.specs.declared.outcome.Outcome.{Outcome}
use Rattle.commands.specs.Outcomes.{accepted, wrong_reply, same_outcome}
use Rattle.sender.specs.Phases.{by_phase, is_final}
use Rattle.sender.specs.Senders.{max_silences, max_legs, next_size, moved_to}
use Rattle.sender.specs.Decisions.{nothing_decided, decided, go_on, done, given_up, leg_over}
use Rattle.sender.specs.Requests.{sender_refusal}
use Rattle.sender.specs.Replies.{own_reply, judged_fa, judged_fb, judged_fc, judged_fd, judged_fe, resume_at, onward, judged_in, after_reply}
use Rattle.sender.specs.Silences.{unheard, silent_in, after_silence}
use Rattle.sender.specs.Kept.{EndGranted}
use Rattle.commands.proofs.Outcomes.{same-true}
use Rattle.sender.proofs.Phases.{of_phase, final_choice}
use Rattle.sender.proofs.Grants.{end_done}
use Rattle.sender.proofs.Hearings.{heard}

-- ---- done and given up

judged-over : (s : Sender) (image b : List ℕ) → is_final s.position.phase ≡ true
    → cond (own_reply s b) (judged_in s (data_at b) image) (nothing_decided s wrong_reply) ≡ nothing_decided s wrong_reply
unfolding judged_in
judged-over s image b over =
    of-both (λ (d : Decided). d ≡ nothing_decided s wrong_reply) (own_reply s b) _ _
    (final_choice s.position.phase _ _ _ _ _ (nothing_decided s wrong_reply) over) refl

pub over-replied : (s : Sender) (image b : List ℕ) → is_final s.position.phase ≡ true → sender_refusal s (length image) ≡ accepted
    → after_reply s image b ≡ nothing_decided s wrong_reply
unfolding after_reply
over-replied s image b over ok = rw ok (judged-over s image b over)

over-stays : (s : Sender) (image b : List ℕ) → is_final s.position.phase ≡ true → (after_reply s image b).next ≡ s
unfolding after_reply
over-stays s image b over =
    of-both (λ (d : Decided). d.next ≡ s) (same_outcome (sender_refusal s (length image)) accepted) _ _
    (ap (λ (d : Decided). d.next) (judged-over s image b over)) refl

pub over-silent : (s : Sender) (n : ℕ) → is_final s.position.phase ≡ true → (after_silence s n).next ≡ s
unfolding after_silence silent_in
over-silent s n over =
    of-both (λ (d : Decided). d.next ≡ s) (same_outcome (sender_refusal s n) accepted) _ _
    (go s.position.phase over) refl
  where
    u : Decided
    u = unheard s

    go : (p : Phase) → is_final p ≡ true → (by_phase p u u u u u (decided decision.Done s) (decided decision.GivenUp s)).next ≡ s
    go Asking o = let z : ◌≡◌ {A = ℕ} 0 1 = cc in absurd (omega arith)
    go Telling o = let z : ◌≡◌ {A = ℕ} 0 1 = cc in absurd (omega arith)
    go Placing o = let z : ◌≡◌ {A = ℕ} 0 1 = cc in absurd (omega arith)
    go Sending o = let z : ◌≡◌ {A = ℕ} 0 1 = cc in absurd (omega arith)
    go Ending o = let z : ◌≡◌ {A = ℕ} 0 1 = cc in absurd (omega arith)
    go Done o = refl
    go GivenUp o = refl

-- ---- what does not lead to done

module _ (s : Sender) where
  abbrev Undone : Decided → Type 0
  Undone d = (d.next.position.phase ≡ Done → s.position.phase ≡ Done) × (d.decision ≡ decision.Done → ⊥)

  refused-undone : (k : Outcome) → Undone (nothing_decided s k)
  refused-undone k = (λ e. e, λ e. let z : ◌≡◌ {A = ℕ} 0 1 = cc in omega arith)

  -- a decision and a phase that are not done
  other-undone : (d : Decision) (t : Sender) → (d ≡ decision.Done → ⊥) → (t.position.phase ≡ Done → ⊥) → Undone (decided d t)
  other-undone d t not-now not_there = (λ e. absurd (not_there e), not-now)

  given_up_undone : Undone (given_up s)
  given_up_undone =
      other-undone decision.GivenUp (moved_to s GivenUp 0 0) (λ e. let z : ◌≡◌ {A = ℕ} 0 1 = cc in omega arith)
      (λ e. let z : ◌≡◌ {A = ℕ} 0 1 = cc in omega arith)

  go-on-undone : (t : Sender) → (t.position.phase ≡ Done → ⊥) → Undone (go_on t)
  go-on-undone t = other-undone decision.GoOn t (λ e. let z : ◌≡◌ {A = ℕ} 0 1 = cc in omega arith)

  leg_over_undone : Undone (leg_over s)
  unfolding leg_over
  leg_over_undone =
      of-both Undone (ltb s.tries.new_legs max_legs) _ _
      (λ e. let z : ◌≡◌ {A = ℕ} 0 1 = cc in absurd (omega arith), λ e. let z : ◌≡◌ {A = ℕ} 0 1 = cc in omega arith) given_up_undone

  onward-undone : (place number : ℕ) → Undone (go_on (onward s place number))
  unfolding onward
  onward-undone place number =
      of-both (λ (t : Sender). Undone (go_on t)) (ltb place s.offer.length) _ _
      (go-on-undone (moved_to s Sending place number) (λ e. let z : ◌≡◌ {A = ℕ} 0 1 = cc in omega arith))
      (go-on-undone (moved_to s Ending 0 0) (λ e. let z : ◌≡◌ {A = ℕ} 0 1 = cc in omega arith))

  fa-undone : (r : ReplyFA) → Undone (judged_fa s r)
  unfolding judged_fa
  fa-undone r =
      of-both Undone (ltb denied_fa r.flag || not (eqb r.len2 max_packet)) _ _ (refused-undone wrong_reply)
      (of-both Undone (eqb r.flag granted) _ _
      (go-on-undone (moved_to s Telling 0 0) (λ e. let z : ◌≡◌ {A = ℕ} 0 1 = cc in omega arith)) given_up_undone)

  fb-undone : (r : ReplyFB) (image : List ℕ) → Undone (judged_fb s r image)
  unfolding judged_fb
  fb-undone r image =
      of-both Undone (ltb bad_length_fb r.state) _ _ (refused-undone wrong_reply)
      (of-both Undone (eqb r.state granted) _ _
      (go-on-undone (moved_to s Placing (resume_at r image) 0) (λ e. let z : ◌≡◌ {A = ℕ} 0 1 = cc in omega arith)) given_up_undone)

  fc-undone : (r : ReplyFC) → Undone (judged_fc s r)
  unfolding judged_fc
  fc-undone r =
      of-both Undone (not (eqb r.offset s.position.place || eqb r.offset 0)) _ _ (refused-undone wrong_reply)
      (onward-undone r.offset 0)

  fd-undone : (r : ReplyState) → Undone (judged_fd s r)
  unfolding judged_fd
  fd-undone r =
      of-both Undone (ltb not_receiving_fd r.state) _ _ (refused-undone wrong_reply)
      (of-both Undone (eqb r.state granted) _ _ (onward-undone (s.position.place + next_size s) (s.position.number + 1))
      leg_over_undone)

  -- ---- FE's 00

  -- done before, or by FE's 00 now
  abbrev Earned : List ℕ → List ℕ → Decided → Type 0
  Earned image b d =
      (d.next.position.phase ≡ Done → (s.position.phase ≡ Done) ⊎ EndGranted s image b)
      × (d.decision ≡ decision.Done → EndGranted s image b)

  undone-earned : (image b : List ℕ) (d : Decided) → Undone d → Earned image b d
  undone-earned image b d u = (λ e. inl (u.0 e), λ e. absurd (u.1 e))

  fe-earned : (image b : List ℕ) → sender_refusal s (length image) ≡ accepted → s.position.phase ≡ Ending → own_reply s b ≡ true
      → Earned image b (judged_fe s (fields_state (data_at b)))
  unfolding judged_fe fields_state
  fe-earned image b taken ending own =
      let r = fields_state (data_at b) in
      let h = heard s image b Ending taken ending own in
      of_each (Earned image b) (ltb refused_fe r.state || eqb r.state never_sent_fe) _ _
      (λ e. undone-earned image b (nothing_decided s wrong_reply) (refused-undone wrong_reply))
      (λ right.
      of_each (Earned image b) (eqb r.state granted) _ _
      (λ zero.
      let granted-end : EndGranted s image b =
      record {
        taken = taken;
        ending = ending;
        reply = h.reply;
        state = ap₂ (λ (c x : ℕ). record { channel = c; state = x }) h.channel (eqb-true r.state granted zero);
      } in
      (λ e. inr granted-end, λ e. granted-end))
      (λ e. undone-earned image b (leg_over s) leg_over_undone))

  done-earned : (image b : List ℕ) → Earned image b (after_reply s image b)
  unfolding after_reply judged_in
  done-earned image b =
      let d = data_at b in
      let refusal = sender_refusal s (length image) in
      let P : Decided → Type 0 = Earned image b in
      let stays = undone-earned image b (nothing_decided s wrong_reply) (refused-undone wrong_reply) in
      of_each P (same_outcome refusal accepted) _ _
      (λ taken.
      of_each P (own_reply s b) _ _
      (λ own.
      let fa = judged_fa s (fields_fa d) in
      let fb = judged_fb s (fields_fb d) image in
      let fc = judged_fc s (fields_fc d) in
      let fd = judged_fd s (fields_state d) in
      let wrong = nothing_decided s wrong_reply in
      of_phase P s.position.phase fa fb fc fd (judged_fe s (fields_state d)) wrong wrong
      (λ q. undone-earned image b fa (fa-undone (fields_fa d))) (λ q. undone-earned image b fb (fb-undone (fields_fb d) image))
      (λ q. undone-earned image b fc (fc-undone (fields_fc d))) (λ q. undone-earned image b fd (fd-undone (fields_state d)))
      (λ q. fe-earned image b (same-true refusal accepted taken) q own) (λ q. stays) (λ q. stays))
      (λ e. stays))
      (λ e. undone-earned image b (nothing_decided s refusal) (refused-undone refusal))

  ended : (image b : List ℕ) → EndGranted s image b → after_reply s image b ≡ done s
  ended image b g = end_done s image g.taken b g.ending g.reply g.state

  pub done-by-replied : (image b : List ℕ) → ((after_reply s image b).decision ≡ decision.Done) ↔ EndGranted s image b
  done-by-replied image b = ((done-earned image b).1, λ g. ap (λ (d : Decided). d.decision) (ended image b g))

  pub done-after-replied : (image b : List ℕ)
      → ((after_reply s image b).next.position.phase ≡ Done) ↔ ((s.position.phase ≡ Done) ⊎ EndGranted s image b)
  done-after-replied image b = (
    (done-earned image b).0,
    ⊎_elim (λ is. ap (λ (t : Sender). t.position.phase) (over-stays s image b (ap is_final is)) ∙ is)
        (λ g. ap (λ (d : Decided). d.next.position.phase) (ended image b g)),
  )

  -- ---- silences

  unheard-undone : Undone (unheard s)
  unfolding unheard
  unheard-undone =
      of-both Undone (ltb s.tries.silences max_silences) _ _ (λ e. e, λ e. let z : ◌≡◌ {A = ℕ} 0 1 = cc in omega arith) leg_over_undone

  -- done before
  abbrev Stayed : ℕ → Decided → Type 0
  Stayed n d =
      (d.decision ≡ decision.Done → (sender_refusal s n ≡ accepted) × (s.position.phase ≡ Done))
      × (d.next.position.phase ≡ Done → s.position.phase ≡ Done)

  done-stayed : (n : ℕ) → Stayed n (after_silence s n)
  unfolding after_silence silent_in
  done-stayed n =
      let refusal = sender_refusal s n in
      let undone : (d : Decided) → Undone d → Stayed n d = λ d u. (λ e. absurd (u.1 e), u.0) in
      let u = undone (unheard s) unheard-undone in
      of_each (Stayed n) (same_outcome refusal accepted) _ _
      (λ taken.
      of_phase (Stayed n) s.position.phase _ _ _ _ _ _ _ (λ q. u) (λ q. u) (λ q. u) (λ q. u) (λ q. u)
      (λ q. (λ e. (same-true refusal accepted taken, q), λ e. e))
      (λ q. (λ e. let z : ◌≡◌ {A = ℕ} 0 1 = cc in absurd (omega arith), λ e. e)))
      (λ e. undone (nothing_decided s refusal) (refused-undone refusal))

  pub done-by-silent : (n : ℕ)
      → ((after_silence s n).decision ≡ decision.Done) ↔ ((sender_refusal s n ≡ accepted) × (s.position.phase ≡ Done))
  unfolding after_silence silent_in
  done-by-silent n = ((done-stayed n).0, λ both. simp (both.0, both.1))

  pub done-after-silent : (n : ℕ) → ((after_silence s n).next.position.phase ≡ Done) ↔ (s.position.phase ≡ Done)
  done-after-silent n = ((done-stayed n).1, λ is. ap (λ (t : Sender). t.position.phase) (over-silent s n (ap is_final is)) ∙ is)
