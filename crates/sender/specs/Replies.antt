-- docs/SENDER.md, "Replies": "In each phase only the reply to its own request is taken; else 21." Assumes nothing.
use Rattle.std.specs.Prelude.{Bool, cond, not, ◌&&◌, ◌||◌, List, ℕ, ◌+◌, ◌≤◌, ltb, eqb, length, take}
use Rattle.crc.specs.Crc.{checksum, crc32}
use Rattle.frames.specs.Buffer.{data_at}
use Rattle.commands.specs.Limits.{max_packet, max_area}
use Rattle.commands.specs.States.{granted, denied_fa, bad_length_fb, not_receiving_fd, never_sent_fe, refused_fe}
use Rattle.replies.specs.declared.reply_fields.ReplyFA.{ReplyFA}
use Rattle.replies.specs.declared.reply_fields.ReplyFB.{ReplyFB}
use Rattle.replies.specs.declared.reply_fields.ReplyFC.{ReplyFC}
use Rattle.replies.specs.declared.reply_fields.ReplyState.{ReplyState}
use Rattle.replies.specs.ReplyFields.{is_reply, reply_channel, fields_fa, fields_fb, fields_fc, fields_state}
use Rattle.sender.specs.declared.phase.Phase.TheVariants.{Telling, Placing, Sending, Ending}
use Rattle.sender.specs.declared.decision.Decided.{Decided}
use Rattle.sender.specs.declared.sender.Sender.{Sender}
use Rattle.commands.specs.Outcomes.{accepted, wrong_reply, same_outcome}
use Rattle.sender.specs.Phases.{by_phase, command_of}
use Rattle.sender.specs.Senders.{next_size, moved_to}
use Rattle.sender.specs.Decisions.{nothing_decided, go_on, done, given_up, leg_over}
use Rattle.sender.specs.Requests.{sender_refusal}

-- the reply to its own request: one whole frame of that command, version byte and L, on its channel
unfoldable pub own_reply : Sender → List ℕ → Bool
own_reply s b = is_reply (command_of s.position.phase) b && eqb (reply_channel (data_at b)) s.offer.channel

-- a field that 01 never gives there
abbrev pub unless : Sender → Bool → Decided → Decided
unless s wrong d = cond wrong (nothing_decided s wrong_reply) d

-- ---- asking: 21 unless "00 FA, L 7, channel, flag 0 or 1, Len2 512"; "flag 0: go on, telling. Flag 1: given up"

unfoldable pub judged_fa : Sender → ReplyFA → Decided
judged_fa s r =
    unless s (ltb denied_fa r.flag || not (eqb r.len2 max_packet))
    (cond (eqb r.flag granted) (go_on (moved_to s Telling 0 0)) (given_up s))

-- ---- telling: 21 unless "10 FB, L 26, channel, state 0 to 3"

-- "place is the reply's stored if that is at most length and the reply's CRC-32 is that of the image's first stored bytes, else 0"
unfoldable pub resume_at : ReplyFB → List ℕ → ℕ
resume_at r image = cond (ltb (length image) r.stored) 0 (cond (eqb (checksum crc32 (take r.stored image)) r.crc) r.stored 0)

-- "state 0: go on, placing .. State 1, 2, 3: given up"
unfoldable pub judged_fb : Sender → ReplyFB → List ℕ → Decided
judged_fb s r image =
    unless s (ltb bad_length_fb r.state) (cond (eqb r.state granted) (go_on (moved_to s Placing (resume_at r image) 0)) (given_up s))

-- ---- placing: 21 unless "00 FC, L 5, channel, offset the asked one or 0"

-- "sending if place is .. below length, else ending"; after ending begins place and number are 0
unfoldable pub onward : Sender → ℕ → ℕ → Sender
onward s place number = cond (ltb place s.offer.length) (moved_to s Sending place number) (moved_to s Ending 0 0)

-- "go on; place the offset, number 0"
unfoldable pub judged_fc : Sender → ReplyFC → Decided
judged_fc s r = unless s (not (eqb r.offset s.position.place || eqb r.offset 0)) (go_on (onward s r.offset 0))

-- ---- sending: 21 unless "00 FD, L 2, channel, state 0 to 4"; "state 0: go on; place + n, number + 1 .. State 1 to 4: leg over"

unfoldable pub judged_fd : Sender → ReplyState → Decided
judged_fd s r =
    let after = onward s (s.position.place + next_size s) (s.position.number + 1) in
    unless s (ltb not_receiving_fd r.state) (cond (eqb r.state granted) (go_on after) (leg_over s))

-- ---- ending: 21 unless "00 FE, L 2, channel, state 0, 1 or 3"; "state 0: done. State 1 or 3: leg over"

unfoldable pub judged_fe : Sender → ReplyState → Decided
judged_fe s r =
    unless s (ltb refused_fe r.state || eqb r.state never_sent_fe) (cond (eqb r.state granted) (done s) (leg_over s))

-- ---- the call

-- by the phase, d being the reply's data; "done and given up stay, replies then getting 21"
unfoldable pub judged_in : Sender → List ℕ → List ℕ → Decided
judged_in s d image =
    by_phase s.position.phase
    (judged_fa s (fields_fa d))
    (judged_fb s (fields_fb d) image)
    (judged_fc s (fields_fc d))
    (judged_fd s (fields_state d))
    (judged_fe s (fields_state d))
    (nothing_decided s wrong_reply)
    (nothing_decided s wrong_reply)

-- "9, 20, 21"
unfoldable pub after_reply : Sender → List ℕ → List ℕ → Decided
after_reply s image b =
    let refusal = sender_refusal s (length image) in
    cond (same_outcome refusal accepted) (cond (own_reply s b) (judged_in s (data_at b) image) (nothing_decided s wrong_reply))
    (nothing_decided s refusal)

-- What a record that keeps its rules has in phase sending. Internal: the functions that go on to the next packet ask for it.
pub record AtPacket (s : Sender) : Type 0 where
  pub place-fits : s.position.place ≤ s.offer.length
  pub length-fits : s.offer.length ≤ max_area
  pub number_fits : s.position.number ≤ max_area
