-- From where the image is sent on after FB's reply. Assumes nothing.
use mathlib.Core.Path.{◌≡◌, refl, sym, ap, subst, ◌∙◌}
use mathlib.Core.Logic.{◌⊎◌, inl, inr, ⊎_elim}
use mathlib.Core.List.{List}
use Prim.Native.Nat.{ℕ, ◌≤◌, ◌<◌}
use native.Mathlib.Omega.{arith}
use borrow.Author.Tests.{ltb-true, ltb-false, eqb-true, eqb-false}
use lib.Dec.{ltb, eqb}
use lib.ListN.{length, take}
use Rattle.crc.specs.Crc.{checksum, crc32}
use Rattle.frames.specs.Buffer.{data_at}
use Rattle.sequences.proofs.Conditionals.{of-both, of_each}
use Rattle.commands.specs.States.{granted, bad_length_fb}
use Rattle.replies.specs.declared.reply_fields.ReplyFB.{ReplyFB}
use Rattle.replies.specs.ReplyFields.{fields_fb}
use Rattle.sender.specs.declared.phase.Phase.TheVariants.{Telling, Placing}
use Rattle.sender.specs.declared.decision.Decided.{Decided}
use Rattle.sender.specs.declared.sender.Sender.{Sender}
use Rattle.commands.specs.declared.outcome.Outcome.{Outcome}
use Rattle.commands.specs.Outcomes.{accepted, wrong_reply, same_outcome}
use Rattle.sender.specs.Decisions.{nothing_decided}
use Rattle.sender.specs.Requests.{sender_refusal}
use Rattle.sender.specs.Replies.{own_reply, judged_fb, resume_at, judged_in, after_reply}
use Rattle.sender.specs.Deciding.{OfferGranted}
use Rattle.sender.specs.Resuming.{FirstBytes, AsksFor, Resumed, Resumption}
use Rattle.commands.proofs.Outcomes.{same-true}
use Rattle.sender.proofs.Hearings.{heard, offer-granted}

module _ (r : ReplyFB) (image : List ℕ) where
  -- the reply is of the image's first bytes
  abbrev First : Type 0
  First = FirstBytes r.stored r.crc image

  -- the stored length, and it is; or 0, and it is not
  resume_case : ((resume_at r image ≡ r.stored) × First) ⊎ ((resume_at r image ≡ 0) × (First → ⊥))
  unfolding resume_at
  resume_case =
      let P : ℕ → Type 0 = λ n. ((n ≡ r.stored) × First) ⊎ ((n ≡ 0) × (First → ⊥)) in
      let own = checksum crc32 (take r.stored image) in
      of_each P (ltb (length image) r.stored) _ _
      (λ e. let past = ltb-true (length image) r.stored e in inr (refl, λ f. let fits = f.within in omega arith))
      (λ e.
      of_each P (eqb own r.crc) _ _
      (λ same. inl (refl, record { within = ltb-false (length image) r.stored e; same = sym (eqb-true own r.crc same) }))
      (λ other. inr (refl, λ f. eqb-false own r.crc other (sym f.same))))

  pub resume_asks : AsksFor (λ n. resume_at r image ≡ n) r.stored r.crc image
  resume_asks =
      record {
        that = λ f. ⊎_elim (λ c. c.0) (λ c. absurd (c.1 f)) resume_case;
        differ = λ f. ⊎_elim (λ c. absurd (f c.1)) (λ c. c.0) resume_case;
      }

  resume_above : 0 < resume_at r image → (resume_at r image ≡ r.stored) × First
  resume_above some = ⊎_elim (λ c. c) (λ c. let none = c.0 in absurd (omega arith)) resume_case

  pub resume_fits : resume_at r image ≤ length image
  resume_fits = ⊎_elim (λ c. let is = c.0 in let fits = c.1.within in omega arith) (λ c. let is = c.0 in omega arith) resume_case

resume_right : (image b : List ℕ) → Resumed image b (resume_at (fields_fb (data_at b)) image)
resume_right image b =
    let r = fields_fb (data_at b) in
    record {
      asks = resume_asks r image;
      above = λ some.
          let a = resume_above r image some in
          (sym a.0, subst (λ (n : ℕ). FirstBytes n r.crc image) (sym a.0) a.1);
    }

judged-told : (s : Sender) (d image : List ℕ) → s.position.phase ≡ Telling → judged_in s d image ≡ judged_fb s (fields_fb d) image
unfolding judged_in
judged-told s d image is = simp is

module _ (s : Sender) (image b : List ℕ) where
  told-moves : s.position.phase ≡ Telling → (after_reply s image b).next.position.phase ≡ Placing → OfferGranted s image b
  unfolding after_reply judged_fb
  told-moves is =
      let P : Decided → Type 0 = λ d. d.next.position.phase ≡ Placing → OfferGranted s image b in
      let stays : (k : Outcome) → P (nothing_decided s k) = λ k e. let q = sym is ∙ e in let z : ◌≡◌ {A = ℕ} 0 1 = cc in absurd (omega arith) in
      let refusal = sender_refusal s (length image) in
      let r = fields_fb (data_at b) in
      of_each P (same_outcome refusal accepted) _ _
      (λ taken.
      of_each P (own_reply s b) _ _
      (λ own.
      let told : P (judged_fb s r image) =
      of-both P (ltb bad_length_fb r.state) _ _ (stays wrong_reply)
      (of_each P (eqb r.state granted) _ _
      (λ zero e.
      record { heard = heard s image b Telling (same-true refusal accepted taken) is own; state = eqb-true r.state granted zero })
      (λ some e. let z : ◌≡◌ {A = ℕ} 0 1 = cc in absurd (omega arith))) in
      subst P (sym (judged-told s (data_at b) image is)) told)
      (λ e. stays wrong_reply))
      (λ e. stays refusal)

pub resumption : Resumption
resumption =
    record {
      moves = λ s image b. (
        λ both. told-moves s image b both.0 both.1,
        λ g. (g.heard.standing, ap (λ (d : Decided). d.next.position.phase) (offer-granted s image b g)),
      );
      resumes = λ s image b g.
          subst (Resumed image b) (sym (ap (λ (d : Decided). d.next.position.place) (offer-granted s image b g))) (resume_right image b);
    }
