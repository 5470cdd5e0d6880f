-- Document 02, K3: "decides between go on, send again, new leg, done and given up". Which decision a reply or a silence comes to, by the
-- phase, the reply's fields and the tries, and what each decision leaves; Kept.antt has done. Assumes nothing.
use Rattle.std.specs.Prelude.{◌≡◌, true, false, ◌⊎◌, ◌↔◌, List, ℕ, ◌+◌, ◌≤◌, ◌<◌, length}
use Rattle.frames.specs.Buffer.{data_at}
use Rattle.commands.specs.Limits.{max_packet}
use Rattle.commands.specs.States.{granted, denied_fa, other_pid_fb, bad_length_fb, other_number_fd, not_receiving_fd, incomplete_fe, refused_fe}
use Rattle.replies.specs.ReplyFields.{is_reply, reply_channel, fields_fa, fields_fb, fields_fc, fields_state}
use Rattle.sender.specs.declared.phase.Phase.{Phase}
use Rattle.sender.specs.declared.phase.Phase.TheVariants as phase
use Rattle.sender.specs.declared.decision.Decision.{Decision}
use Rattle.sender.specs.declared.decision.Decision.TheVariants.{Nothing, GoOn, SendAgain, NewLeg, Done, GivenUp}
use Rattle.sender.specs.declared.sender.Sender.{Sender}
use Rattle.commands.specs.Outcomes.{accepted}
use Rattle.sender.specs.Phases.{is_final}
use Rattle.sender.specs.Senders.{max_silences, max_legs}
use Rattle.sender.specs.Requests.{sender_refusal}
use Rattle.sender.specs.Replies.{after_reply}
use Rattle.sender.specs.Silences.{after_silence}

-- ---- the replies

-- the call meets neither 9 nor 20, and in this phase this is the reply to this command, on the channel
pub record Heard (p : Phase) (command : ℕ) (s : Sender) (image b : List ℕ) : Type 0 where
  pub taken : sender_refusal s (length image) ≡ accepted
  pub standing : s.position.phase ≡ p
  pub reply : is_reply command b ≡ true
  pub channel : reply_channel (data_at b) ≡ s.offer.channel

-- asking: "flag 0 or 1, Len2 512"
pub record FlagIs (flag : ℕ) (s : Sender) (image b : List ℕ) : Type 0 where
  pub heard : Heard phase.Asking 0xFA s image b
  pub flagged : (fields_fa (data_at b)).flag ≡ flag
  pub len2 : (fields_fa (data_at b)).len2 ≡ max_packet

-- telling: "state 0"
pub record OfferGranted (s : Sender) (image b : List ℕ) : Type 0 where
  pub heard : Heard phase.Telling 0xFB s image b
  pub state : (fields_fb (data_at b)).state ≡ granted

-- telling: "State 1, 2, 3: given up"
pub record OfferRefused (s : Sender) (image b : List ℕ) : Type 0 where
  pub heard : Heard phase.Telling 0xFB s image b
  pub least : other_pid_fb ≤ (fields_fb (data_at b)).state
  pub most : (fields_fb (data_at b)).state ≤ bad_length_fb

-- placing: "offset the asked one or 0"
pub record PlaceGiven (s : Sender) (image b : List ℕ) : Type 0 where
  pub heard : Heard phase.Placing 0xFC s image b
  pub offset : ((fields_fc (data_at b)).offset ≡ s.position.place) ⊎ ((fields_fc (data_at b)).offset ≡ 0)

-- sending: "state 0: go on"
pub record PacketGranted (s : Sender) (image b : List ℕ) : Type 0 where
  pub heard : Heard phase.Sending 0xFD s image b
  pub state : (fields_state (data_at b)).state ≡ granted

-- sending: "State 1 to 4: leg over"
pub record PacketRefused (s : Sender) (image b : List ℕ) : Type 0 where
  pub heard : Heard phase.Sending 0xFD s image b
  pub least : other_number_fd ≤ (fields_state (data_at b)).state
  pub most : (fields_state (data_at b)).state ≤ not_receiving_fd

-- ending: "State 1 or 3: leg over"
pub record EndRefused (s : Sender) (image b : List ℕ) : Type 0 where
  pub heard : Heard phase.Ending 0xFE s image b
  pub state : ((fields_state (data_at b)).state ≡ incomplete_fe) ⊎ ((fields_state (data_at b)).state ≡ refused_fe)

-- "go on"
abbrev pub StepGranted : Sender → List ℕ → List ℕ → Type 0
StepGranted s image b = FlagIs granted s image b ⊎ (OfferGranted s image b ⊎ (PlaceGiven s image b ⊎ PacketGranted s image b))

-- K3: "Flag 1 or an FB refusal"
abbrev pub ImageRefused : Sender → List ℕ → List ℕ → Type 0
ImageRefused s image b = FlagIs denied_fa s image b ⊎ OfferRefused s image b

-- K3: "an FD or FE refusal"
abbrev pub LegRefused : Sender → List ℕ → List ℕ → Type 0
LegRefused s image b = PacketRefused s image b ⊎ EndRefused s image b

-- ---- the silences

-- the call meets neither 9 nor 20, and the phase is neither done nor given up; n is the lent image's length
pub record Waited (s : Sender) (n : ℕ) : Type 0 where
  pub taken : sender_refusal s n ≡ accepted
  pub unended : is_final s.position.phase ≡ false

-- K3: "a fourth in a row for one request"
pub record FourthSilence (s : Sender) (n : ℕ) : Type 0 where
  pub waited : Waited s n
  pub silences : s.tries.silences ≡ max_silences

-- ---- what is left

-- s is the record before and t the one after; its offer stays in any case (`Keeps`)
abbrev pub LeftBy : Decision → Sender → Sender → Type 0
LeftBy Nothing s t = t ≡ s
LeftBy GoOn s t = t.tries ≡ record { silences = 0; new_legs = s.tries.new_legs }
LeftBy SendAgain s t =
    (t.position ≡ s.position) × (t.tries ≡ record { silences = s.tries.silences + 1; new_legs = s.tries.new_legs })
LeftBy NewLeg s t =
    (t.position ≡ record { phase = phase.Asking; place = 0; number = 0 })
    × (t.tries ≡ record { silences = 0; new_legs = s.tries.new_legs + 1 })
LeftBy Done s t =
    (t.position ≡ record { phase = phase.Done; place = 0; number = 0 })
    × (t.tries ≡ record { silences = 0; new_legs = s.tries.new_legs })
LeftBy GivenUp s t =
    (t.position ≡ record { phase = phase.GivenUp; place = 0; number = 0 })
    × (t.tries ≡ record { silences = 0; new_legs = s.tries.new_legs })

-- The claim.
pub record SenderDecides : Type 0 where
  pub go-on-by-reply : (s : Sender) (image b : List ℕ) → ((after_reply s image b).decision ≡ GoOn) ↔ StepGranted s image b
  -- "New legs below 3: decision new leg"
  pub new_leg_by_reply : (s : Sender) (image b : List ℕ)
      → ((after_reply s image b).decision ≡ NewLeg) ↔ (LegRefused s image b × (s.tries.new_legs < max_legs))
  -- "New legs 3: decision given up"
  pub given_up_by_reply : (s : Sender) (image b : List ℕ)
      → ((after_reply s image b).decision ≡ GivenUp)
      ↔ (ImageRefused s image b ⊎ (LegRefused s image b × (s.tries.new_legs ≡ max_legs)))
  pub again-by-reply : (s : Sender) (image b : List ℕ) → (after_reply s image b).decision ≡ SendAgain → ⊥
  pub left-by-reply : (s : Sender) (image b : List ℕ) → LeftBy (after_reply s image b).decision s (after_reply s image b).next
  -- "Silences below 3: decision send again"
  pub again-by-silence : (s : Sender) (n : ℕ)
      → ((after_silence s n).decision ≡ SendAgain) ↔ (Waited s n × (s.tries.silences < max_silences))
  -- "Silences 3: leg over"
  pub new_leg_by_silence : (s : Sender) (n : ℕ)
      → ((after_silence s n).decision ≡ NewLeg) ↔ (FourthSilence s n × (s.tries.new_legs < max_legs))
  -- "Phase done or given up: that decision, nothing changed."
  pub given_up_by_silence : (s : Sender) (n : ℕ)
      → ((after_silence s n).decision ≡ GivenUp)
      ↔ (((sender_refusal s n ≡ accepted) × (s.position.phase ≡ phase.GivenUp)) ⊎ (FourthSilence s n × (s.tries.new_legs ≡ max_legs)))
  pub go-on-by-silence : (s : Sender) (n : ℕ) → (after_silence s n).decision ≡ GoOn → ⊥
  -- in done and given up the whole record stays (`SenderKeeps`)
  pub left-by-silence : (s : Sender) (n : ℕ) → is_final s.position.phase ≡ false
      → LeftBy (after_silence s n).decision s (after_silence s n).next
