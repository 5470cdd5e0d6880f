-- Document 02, K3: "all granted, it follows FA, FB, FC, full packets but the last, and FE". Stated of the whole exchange between a
-- sender in phase asking and a controller that grants every request, whatever its FB reply tells of the stored bytes. Assumes nothing.
use Rattle.std.specs.Prelude.{◌≡◌, Bool, true, false, cond, List, [], ◌∷◌, ◌++◌, ℕ, zero, suc, ◌+◌, ◌≤◌, ◌<◌, length, take, drop, replicate}
use Rattle.crc.specs.Crc.{checksum, crc16_modbus}
use Rattle.sequences.specs.Numbers.{max32}
use Rattle.fronts.specs.Frame.{Frame}
use Rattle.requests.specs.RequestFrames.{data_fc, data_fd, data_fe, request_frame}
use Rattle.commands.specs.States.{granted}
use Rattle.replies.specs.Replies.{reply_fa, reply_fb, reply_fc, reply_state}
use Rattle.replies.specs.RoundTrips.{reply_bytes}
use Rattle.sender.specs.declared.phase.Phase.TheVariants.{Asking, Done}
use Rattle.sender.specs.declared.decision.Decision.{Decision}
use Rattle.sender.specs.declared.decision.Decision.TheVariants as decision
use Rattle.sender.specs.declared.sender.Sender.{Sender}
use Rattle.sender.specs.Phases.{by_phase}
use Rattle.sender.specs.Senders.{packet_size}
use Rattle.sender.specs.Rules.{breaks_rules}
use Rattle.sender.specs.Replies.{after_reply}
use Rattle.sender.specs.Resuming.{AsksFor}
use Rattle.sender.specs.Exchanges.{Exchange, exchange, frame_fa, frame_fb}

-- ---- the exchange

-- a controller that grants: the stored length and the CRC-32 of its FB reply, and its board's version
pub record Granting : Type 0 where
  pub stored : ℕ
  pub crc : ℕ
  pub soft : List ℕ

-- its replies: flag 0, states 00 and the asked offset
unfoldable pub granting_reply : Granting → Sender → List ℕ
granting_reply g s =
    let channel = s.offer.channel in
    by_phase s.position.phase
    (reply_bytes 0xFA (reply_fa channel granted g.soft))
    (reply_bytes 0xFB (reply_fb channel granted g.stored g.crc))
    (reply_bytes 0xFC (reply_fc channel s.position.place))
    (reply_bytes 0xFD (reply_state channel granted))
    (reply_bytes 0xFE (reply_state channel granted))
    []
    []

-- n requests, each granted
abbrev pub exchange_granted : Granting → ℕ → Sender → List ℕ → Exchange
exchange_granted g n s image = exchange (λ t. after_reply t image (granting_reply g t)) n s image

-- ---- what it follows

abbrev pub is_empty : List ℕ → Bool
is_empty [] = true
is_empty (b ∷ s) = false

-- some bytes in pieces of n, the last one what is left; at most `most` pieces
unfoldable pub pieces : ℕ → ℕ → List ℕ → List (List ℕ)
pieces zero n s = []
pieces (suc most) n s = cond (is_empty s) [] (take n s ∷ pieces most n (drop n s))

-- the packets of some pieces, numbered from `number` on
unfoldable pub packets : ℕ → ℕ → List (List ℕ) → List Frame
packets channel number [] = []
packets channel number (p ∷ ps) =
    request_frame 0xFD (data_fd (record { channel = channel; number = number; size = length p; crc = checksum crc16_modbus p }) p)
    ∷ packets channel (number + 1) ps

-- the pieces from a place on
abbrev pub pieces_from : Sender → ℕ → List ℕ → List (List ℕ)
pieces_from s from image = pieces (length image) (packet_size s.offer.size) (drop from image)

-- "FA, FB, FC, full packets but the last, and FE", `from` being the offset that FC asks for
abbrev pub plan : Sender → ℕ → List ℕ → List Frame
plan s from image =
    frame_fa s.offer
    ∷ frame_fb s.offer image
    ∷ request_frame 0xFC (data_fc (record { channel = s.offer.channel; offset = from }))
    ∷ (packets s.offer.channel 0 (pieces_from s from image) ++ (request_frame 0xFE (data_fe s.offer.channel) ∷ []))

-- FA, FB, FC and n packets go on to the next request, and FE is done
abbrev pub goes_on : ℕ → List Decision
goes_on n = decision.GoOn ∷ decision.GoOn ∷ decision.GoOn ∷ (replicate n decision.GoOn ++ (decision.Done ∷ []))

-- every piece has n bytes, the last one 1 to n
abbrev pub FullButLast : ℕ → List (List ℕ) → Type 0
FullButLast n [] = Unit
FullButLast n (p ∷ []) = (0 < length p) × (length p ≤ n)
FullButLast n (p ∷ q ∷ ps) = (length p ≡ n) × FullButLast n (q ∷ ps)

abbrev pub joined : List (List ℕ) → List ℕ
joined [] = []
joined (p ∷ ps) = p ++ joined ps

-- the sender at the end: done, its offer and new legs as they were, the rest 0
abbrev pub done_sender : Sender → Sender
done_sender s =
    record {
      offer = s.offer;
      position = record { phase = Done; place = 0; number = 0 };
      tries = record { silences = 0; new_legs = s.tries.new_legs };
    }

-- ---- what is claimed

pub record AllGranted (s : Sender) (g : Granting) (image : List ℕ) (from : ℕ) : Type 0 where
  -- the requests are the plan's, each goes on to the next, and the last one is done
  pub follows : (exchange_granted g (length (plan s from image)) s image).requests ≡ plan s from image
  pub decides : (exchange_granted g (length (plan s from image)) s image).decisions ≡ goes_on (length (pieces_from s from image))
  pub ends : (exchange_granted g (length (plan s from image)) s image).sender ≡ done_sender s
  -- the packets are the image's bytes from there on, all full but the last
  pub whole : joined (pieces_from s from image) ≡ drop from image
  pub full : FullButLast (packet_size s.offer.size) (pieces_from s from image)

-- The claim: from the stored length on if that and the CRC-32 are those of the image's first bytes, else from 0.
abbrev pub GrantedExchange : Type 0
GrantedExchange =
    (s : Sender) (image : List ℕ) (g : Granting) → breaks_rules s ≡ false → s.position.phase ≡ Asking → length image ≡ s.offer.length
    → g.stored < max32 → g.crc < max32 → AsksFor (AllGranted s g image) g.stored g.crc image
