-- What a reply comes to, by its fields. Assumes nothing.
use mathlib.Core.Path.{◌≡◌, refl, subst, ◌∙◌}
use mathlib.Core.Bool.{true, and-eq-true_iff, or-true}
use mathlib.Core.Logic.{⊎_elim}
use mathlib.Core.List.{List}
use Prim.Native.Nat.{ℕ, ◌+◌}
use native.Mathlib.Omega.{arith}
use borrow.Author.Tests.{eqb-true, eq-eqb, ne_eqb, le-ltb}
use lib.Dec.{eqb}
use lib.ListN.{length}
use Rattle.frames.specs.Buffer.{data_at}
use Rattle.commands.specs.States.{granted, denied_fa, bad_length_fb, not_receiving_fd}
use Rattle.replies.specs.ReplyFields.{is_reply, reply_channel, fields_fb, fields_fc, fields_state}
use Rattle.sender.specs.declared.phase.Phase.{Phase}
use Rattle.sender.specs.declared.phase.Phase.TheVariants.{Asking, Telling, Placing, Sending, Ending}
use Rattle.sender.specs.declared.sender.Sender.{Sender}
use Rattle.commands.specs.Outcomes.{accepted}
use Rattle.sender.specs.Phases.{command_of}
use Rattle.sender.specs.Senders.{next_size, moved_to}
use Rattle.sender.specs.Decisions.{go_on, given_up, leg_over}
use Rattle.sender.specs.Requests.{sender_refusal}
use Rattle.sender.specs.Replies.{own_reply, judged_fa, judged_fb, judged_fc, judged_fd, judged_fe, resume_at, onward, after_reply}
use Rattle.sender.specs.Deciding.{Heard, FlagIs, OfferGranted, OfferRefused, PlaceGiven, PacketGranted, PacketRefused, EndRefused}
use Rattle.sender.proofs.Grants.{InPhase, in_phase_lem}

module _ (s : Sender) (image b : List ℕ) where
  pub heard : (p : Phase) → sender_refusal s (length image) ≡ accepted → s.position.phase ≡ p → own_reply s b ≡ true
      → Heard p (command_of p) s image b
  unfolding own_reply
  heard p taken is own =
      let channel = reply_channel (data_at b) in
      let both = (and-eq-true_iff (is_reply (command_of s.position.phase) b) (eqb channel s.offer.channel)).0 own in
      record {
        taken = taken;
        standing = is;
        reply = subst (λ (q : Phase). is_reply (command_of q) b ≡ true) is both.0;
        channel = eqb-true channel s.offer.channel both.1;
      }

  judged : (p : Phase) (h : Heard p (command_of p) s image b) → after_reply s image b ≡ InPhase s image h.taken p (data_at b)
  judged p h = in_phase_lem s image h.taken b p h.standing h.reply h.channel

  pub asking-granted : FlagIs granted s image b → after_reply s image b ≡ go_on (moved_to s Telling 0 0)
  unfolding judged_fa
  asking-granted g = judged Asking g.heard ∙ rw (g.flagged, g.len2) refl

  pub asking_denied : FlagIs denied_fa s image b → after_reply s image b ≡ given_up s
  unfolding judged_fa
  asking_denied g = judged Asking g.heard ∙ rw (g.flagged, g.len2) refl

  pub offer-granted : OfferGranted s image b
      → after_reply s image b ≡ go_on (moved_to s Placing (resume_at (fields_fb (data_at b)) image) 0)
  unfolding judged_fb
  offer-granted g = judged Telling g.heard ∙ rw g.state refl

  pub offer-refused : OfferRefused s image b → after_reply s image b ≡ given_up s
  unfolding judged_fb
  offer-refused g =
      let state = (fields_fb (data_at b)).state in
      let least = g.least in
      judged Telling g.heard ∙ rw (le-ltb bad_length_fb state g.most, ne_eqb state granted (λ e. omega arith)) refl

  pub place-given : PlaceGiven s image b → after_reply s image b ≡ go_on (onward s (fields_fc (data_at b)).offset 0)
  unfolding judged_fc
  place-given g =
      let offset = (fields_fc (data_at b)).offset in
      let asked = eqb offset s.position.place in
      judged Placing g.heard
      ∙ ⊎_elim (λ same. simp (eq-eqb offset s.position.place same)) (λ none. simp (eq-eqb offset 0 none, or-true asked)) g.offset

  pub packet-granted : PacketGranted s image b
      → after_reply s image b ≡ go_on (onward s (s.position.place + next_size s) (s.position.number + 1))
  unfolding judged_fd
  packet-granted g = judged Sending g.heard ∙ rw g.state refl

  pub packet-refused : PacketRefused s image b → after_reply s image b ≡ leg_over s
  unfolding judged_fd
  packet-refused g =
      let state = (fields_state (data_at b)).state in
      let least = g.least in
      judged Sending g.heard ∙ rw (le-ltb not_receiving_fd state g.most, ne_eqb state granted (λ e. omega arith)) refl

  pub end_refused : EndRefused s image b → after_reply s image b ≡ leg_over s
  unfolding judged_fe
  end_refused g = judged Ending g.heard ∙ ⊎_elim (λ is. rw is refl) (λ is. rw is refl) g.state
