-- What a granting reply comes to, request by request. Assumes nothing.
use mathlib.Core.Path.{◌≡◌, refl, ap, ◌∙◌}
use mathlib.Core.Bool.{true}
use mathlib.Core.List.{List}
use Prim.Native.Nat.{ℕ, ◌+◌, ◌<◌}
use borrow.Author.Tests.{eq-eqb}
use lib.ListN.{length}
use Rattle.frames.specs.Buffer.{data_at}
use Rattle.commands.specs.States.{granted}
use Rattle.replies.specs.declared.reply_fields.ReplyFA.{ReplyFA}
use Rattle.replies.specs.declared.reply_fields.ReplyFB.{ReplyFB}
use Rattle.replies.specs.declared.reply_fields.ReplyFC.{ReplyFC}
use Rattle.replies.specs.declared.reply_fields.ReplyState.{ReplyState}
use Rattle.replies.specs.ReplyFields.{is_reply, reply_channel, fields_fa, fields_fb, fields_fc, fields_state}
use Rattle.replies.specs.Replies.{reply_fa, reply_fb, reply_fc, reply_state}
use Rattle.sequences.specs.Numbers.{max32}
use Rattle.replies.specs.RoundTrips.{reply_bytes}
use Rattle.replies.proofs.RoundTrips.{replies_read_back}
use Rattle.sender.specs.declared.phase.Phase.{Phase}
use Rattle.sender.specs.declared.phase.Phase.TheVariants.{Asking, Telling, Placing, Sending, Ending}
use Rattle.sender.specs.declared.decision.Decided.{Decided}
use Rattle.sender.specs.declared.sender.Sender.{Sender}
use Rattle.commands.specs.Outcomes.{accepted, wrong_reply}
use Rattle.sender.specs.Phases.{by_phase, command_of}
use Rattle.sender.specs.Senders.{next_size, moved_to}
use Rattle.sender.specs.Decisions.{nothing_decided, go_on, done}
use Rattle.sender.specs.Requests.{sender_refusal}
use Rattle.sender.specs.Replies.{own_reply, judged_fa, judged_fb, judged_fc, judged_fd, judged_fe, resume_at, onward, judged_in, after_reply}

module _ (s : Sender) (image : List ℕ) (ok : sender_refusal s (length image) ≡ accepted) where
  abbrev channel : ℕ
  channel = s.offer.channel

  -- what the phase makes of the reply's data
  abbrev pub InPhase : Phase → List ℕ → Decided
  InPhase p d =
      by_phase p
      (judged_fa s (fields_fa d))
      (judged_fb s (fields_fb d) image)
      (judged_fc s (fields_fc d))
      (judged_fd s (fields_state d))
      (judged_fe s (fields_state d))
      (nothing_decided s wrong_reply)
      (nothing_decided s wrong_reply)

  -- the reply to the request, on the channel, is judged
  pub in_phase_lem : (b : List ℕ) (p : Phase) → s.position.phase ≡ p → is_reply (command_of p) b ≡ true → reply_channel (data_at b) ≡ channel
      → after_reply s image b ≡ InPhase p (data_at b)
  unfolding after_reply judged_in own_reply
  in_phase_lem b p is own same = simp (ok, is, own, eq-eqb (reply_channel (data_at b)) channel same)

  pub granted-fa : (soft : List ℕ) → s.position.phase ≡ Asking
      → after_reply s image (reply_bytes 0xFA (reply_fa channel granted soft)) ≡ go_on (moved_to s Telling 0 0)
  unfolding judged_fa fields_fa
  granted-fa soft is =
      let b = reply_bytes 0xFA (reply_fa channel granted soft) in
      let r = replies_read_back.fa channel granted soft in
      in_phase_lem b Asking is (replies_read_back.fa-reply channel granted soft) (ap (λ (x : ReplyFA). x.channel) r) ∙ ap (judged_fa s) r

  pub granted-fb : (stored crc : ℕ) → s.position.phase ≡ Telling → stored < max32 → crc < max32
      → after_reply s image (reply_bytes 0xFB (reply_fb channel granted stored crc))
      ≡ go_on (moved_to s Placing (resume_at (record { channel = channel; state = granted; stored = stored; crc = crc }) image) 0)
  unfolding judged_fb fields_fb
  granted-fb stored crc is small fits =
      let b = reply_bytes 0xFB (reply_fb channel granted stored crc) in
      let r = replies_read_back.fb channel granted stored crc small fits in
      in_phase_lem b Telling is (replies_read_back.fb-reply channel granted stored crc) (ap (λ (x : ReplyFB). x.channel) r)
      ∙ ap (λ (x : ReplyFB). judged_fb s x image) r

  pub granted-fc : s.position.phase ≡ Placing → s.position.place < max32
      → after_reply s image (reply_bytes 0xFC (reply_fc channel s.position.place)) ≡ go_on (onward s s.position.place 0)
  unfolding judged_fc fields_fc
  granted-fc is small =
      let place = s.position.place in
      let b = reply_bytes 0xFC (reply_fc channel place) in
      let r = replies_read_back.fc channel place small in
      in_phase_lem b Placing is (replies_read_back.fc-reply channel place) (ap (λ (x : ReplyFC). x.channel) r)
      ∙ ap (judged_fc s) r
      ∙ simp (eq-eqb place place refl)

  pub granted-fd : s.position.phase ≡ Sending
      → after_reply s image (reply_bytes 0xFD (reply_state channel granted))
      ≡ go_on (onward s (s.position.place + next_size s) (s.position.number + 1))
  unfolding judged_fd fields_state
  granted-fd is =
      let b = reply_bytes 0xFD (reply_state channel granted) in
      let r = replies_read_back.fd channel granted in
      in_phase_lem b Sending is (replies_read_back.fd-reply channel granted) (ap (λ (x : ReplyState). x.channel) r) ∙ ap (judged_fd s) r

  -- FE's 00
  pub end_done : (b : List ℕ) → s.position.phase ≡ Ending → is_reply 0xFE b ≡ true
      → fields_state (data_at b) ≡ record { channel = channel; state = granted } → after_reply s image b ≡ done s
  unfolding judged_fe fields_state
  end_done b is own r = in_phase_lem b Ending is own (ap (λ (x : ReplyState). x.channel) r) ∙ ap (judged_fe s) r

  pub granted-fe : s.position.phase ≡ Ending → after_reply s image (reply_bytes 0xFE (reply_state channel granted)) ≡ done s
  granted-fe is =
      end_done (reply_bytes 0xFE (reply_state channel granted)) is (replies_read_back.fe-reply channel granted)
      (replies_read_back.fe channel granted)
