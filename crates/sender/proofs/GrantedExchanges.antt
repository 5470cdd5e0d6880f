-- All granted, the requests are FA, FB, FC, full packets but the last, and FE. Assumes nothing.
use mathlib.Core.Path.{◌≡◌, refl, sym, ap, ap₂, subst, ◌∙◌}
use mathlib.Core.Bool.{Bool, false, cond}
use mathlib.Core.Logic.{⊎_elim}
use mathlib.Core.List.{List, [], ◌∷◌, ◌++◌}
use Prim.Native.Nat.{ℕ, zero, suc, ◌+◌, ◌*◌, ◌-◌, ◌≤◌, ◌<◌}
use native.Mathlib.Nat.{zero-mul}
use native.Mathlib.Omega.{arith}
use borrow.Author.Tests.{ltb-true, ltb-false, lt-ltb, le-ltb}
use lib.Dec.{ltb}
use lib.ListN.{length, take, drop, replicate, length-append, length-take, length-drop, drop_of_length-le}
use lib.Seq.{take_all, length-take-le, drop-drop}
use Rattle.crc.specs.Crc.{checksum, crc16_modbus}
use Rattle.sequences.specs.Numbers.{max32}
use Rattle.fronts.specs.Frame.{Frame}
use Rattle.sequences.proofs.Orders.{lt_or_le}
use Rattle.sequences.proofs.Conditionals.{of_each}
use Rattle.requests.specs.RequestFrames.{data_fd, data_fe, request_frame}
use Rattle.commands.specs.States.{granted}
use Rattle.replies.specs.declared.reply_fields.ReplyFB.{ReplyFB}
use Rattle.replies.specs.Replies.{reply_fa}
use Rattle.replies.specs.RoundTrips.{reply_bytes}
use Rattle.sender.specs.declared.phase.Phase.TheVariants.{Asking, Telling, Placing, Sending, Ending}
use Rattle.sender.specs.declared.decision.Decision.TheVariants as decision
use Rattle.sender.specs.declared.decision.Decided.{Decided}
use Rattle.sender.specs.declared.sender.Sender.{Sender}
use Rattle.sender.specs.Senders.{packet_size, next_size, moved_to}
use Rattle.sender.specs.Rules.{breaks_rules}
use Rattle.sender.specs.Decisions.{go_on, done}
use Rattle.sender.specs.Requests.{request_of}
use Rattle.sender.specs.Replies.{resume_at, onward, after_reply}
use Rattle.sender.specs.Exchanges.{Exchange, exchange}
use Rattle.sender.specs.Granted.{Granting, granting_reply, exchange_granted, pieces, packets, pieces_from, plan, goes_on, done_sender}
use Rattle.sender.specs.Granted.{AllGranted, GrantedExchange}
use Rattle.sender.proofs.RulesKept.{lawful}
use Rattle.sender.proofs.Packets.{packet-some}
use Rattle.sender.proofs.Refusals.{is-accepted}
use Rattle.sender.proofs.Requests.{frame-asking, frame-telling}
use Rattle.sender.proofs.Kept.{free-lawful, free, placing-lawful, sending-lawful, next-number}
use Rattle.sender.proofs.Resumptions.{resume_asks, resume_fits}
use Rattle.sender.proofs.Grants.{granted-fa, granted-fb, granted-fc, granted-fd, granted-fe}
use Rattle.sender.proofs.Exchanges.{then, exchange-step}
use Rattle.sender.proofs.Pieces.{pieces_none, pieces-next, packets-size, pieces_whole, pieces-full}

-- one request granted, what its reply comes to being known
step : (n : ℕ) (g : Granting) (s : Sender) (image : List ℕ) (d : Decided) → after_reply s image (granting_reply g s) ≡ d
    → exchange_granted g (suc n) s image ≡ then (request_of s image) d.decision (exchange_granted g n d.next image)
step n g s image d e = exchange-step (λ t. after_reply t image (granting_reply g t)) n s image d e

module _ (s : Sender) (ok : breaks_rules s ≡ false) (image : List ℕ) (g : Granting) (size : length image ≡ s.offer.length) where
  abbrev packet : ℕ
  packet = packet_size s.offer.size

  abbrev at : ℕ → ℕ → Sender
  at place number = moved_to s Sending place number

  -- what the exchange comes to that sends these pieces
  abbrev sending : ℕ → List (List ℕ) → Exchange
  sending number ps =
      record {
        requests = packets s.offer.channel number ps ++ (request_frame 0xFE (data_fe s.offer.channel) ∷ []);
        decisions = replicate (length ps) decision.GoOn ++ (decision.Done ∷ []);
        sender = done_sender s;
      }

  -- ---- the end

  ending : exchange_granted g 1 (moved_to s Ending 0 0) image ≡ sending 0 []
  unfolding exchange packets request_of granting_reply
  ending =
      let t = moved_to s Ending 0 0 in
      let fine = is-accepted t (length image) (free-lawful s Ending (free Ending refl) ok) size in
      step 0 g t image (done t) (granted-fe t image fine refl)

  -- ---- the packets

  module _ (place number : ℕ) (below : place < s.offer.length) where
    abbrev ahead : List ℕ
    ahead = drop place image

    abbrev left : ℕ
    left = s.offer.length - place

    ahead-size : length ahead ≡ left
    ahead-size = omega (arith, length-drop place image)

    piece_is : take (next_size (at place number)) ahead ≡ take packet ahead
    unfolding next_size
    piece_is =
        of_each (λ (n : ℕ). take n ahead ≡ take packet ahead) (ltb left packet) left packet
        (λ e.
        let less = ltb-true left packet e in
        take_all left ahead (omega (arith, ahead-size)) ∙ sym (take_all packet ahead (omega (arith, ahead-size))))
        (λ e. refl)

    piece_size : next_size (at place number) ≡ length (take packet ahead)
    unfolding next_size
    piece_size =
        of_each (λ (n : ℕ). n ≡ length (take packet ahead)) (ltb left packet) left packet
        (λ e. let less = ltb-true left packet e in sym (ap length (take_all packet ahead (omega (arith, ahead-size))) ∙ ahead-size))
        (λ e. let more = ltb-false left packet e in sym (length-take-le packet ahead (omega (arith, ahead-size))))

    ahead-next : drop (place + next_size (at place number)) image ≡ drop packet ahead
    unfolding next_size
    ahead-next =
        of_each (λ (n : ℕ). drop (place + n) image ≡ drop packet ahead) (ltb left packet) left packet
        (λ e.
        let less = ltb-true left packet e in
        let over : length image ≤ place + left = omega arith in
        let none : length ahead ≤ packet = omega (arith, ahead-size) in
        drop_of_length-le image over ∙ sym (drop_of_length-le ahead none))
        (λ e. sym (drop-drop packet place image))

    -- the packet of n bytes p
    abbrev packet_of : ℕ → List ℕ → Frame
    packet_of n p =
        request_frame 0xFD (data_fd (record { channel = s.offer.channel; number = number; size = n; crc = checksum crc16_modbus p }) p)

    first-packet : request_of (at place number) image ≡ packet_of (length (take packet ahead)) (take packet ahead)
    unfolding request_of
    first-packet = ap (packet_of (next_size (at place number))) piece_is ∙ ap (λ (n : ℕ). packet_of n (take packet ahead)) piece_size

    some : 0 < next_size (at place number)
    some = omega (arith, piece_size, length-take packet ahead, ahead-size, packet-some s.offer.size (lawful s ok).least_size)

  -- from a place on
  abbrev FromPlace : ℕ → ℕ → ℕ → Type 0
  FromPlace most place number =
      let ps = pieces most packet (drop place image) in
      exchange_granted g (suc (length ps)) (onward s place number) image ≡ sending number ps

  at_end : (most place number : ℕ) → s.offer.length ≤ place → FromPlace most place number
  unfolding onward packets
  at_end most place number past =
      let over : length image ≤ place = omega arith in
      let none : pieces most packet (drop place image) ≡ [] =
      ap (pieces most packet) (drop_of_length-le image over) ∙ pieces_none most packet in
      subst (λ (ps : List (List ℕ)). exchange_granted g (suc (length ps)) (onward s place number) image ≡ sending number ps) (sym none)
      (ap (λ (b : Bool). exchange_granted g 1 (cond b (at place number) (moved_to s Ending 0 0)) image)
      (le-ltb place s.offer.length past) ∙ ending)

  at-packet : (most place number : ℕ) (below : place < s.offer.length) → number * packet ≤ place
      → FromPlace most (place + next_size (at place number)) (number + 1) → FromPlace (suc most) place number
  unfolding onward packets granting_reply
  at-packet most place number below numbered after =
      let t = at place number in
      let ahead = drop place image in
      let p = take packet ahead in
      let qs = pieces most packet (drop packet ahead) in
      let next : pieces (suc most) packet ahead ≡ p ∷ qs = pieces-next most packet ahead (omega (arith, ahead-size place number below)) in
      let fine = is-accepted t (length image) (sending-lawful s place number below numbered ok) size in
      let on = onward s (place + next_size t) (number + 1) in
      let after-it : exchange_granted g (suc (length qs)) on image ≡ sending (number + 1) qs =
      subst
      (λ (r : List ℕ). exchange_granted g (suc (length (pieces most packet r))) on image ≡ sending (number + 1) (pieces most packet r))
      (ahead-next place number below) after in
      subst (λ (ps : List (List ℕ)). exchange_granted g (suc (length ps)) (onward s place number) image ≡ sending number ps) (sym next)
      (ap (λ (b : Bool). exchange_granted g (suc (suc (length qs))) (cond b t (moved_to s Ending 0 0)) image)
      (lt-ltb place s.offer.length below)
      ∙ step (suc (length qs)) g t image (go_on (onward t (place + next_size t) (number + 1))) (granted-fd t image fine refl)
      ∙ ap (then (request_of t image) decision.GoOn) after-it
      ∙ ap (λ (f : Frame). then f decision.GoOn (sending (number + 1) qs)) (first-packet place number below))

  from_place : (most place number : ℕ) → (place < s.offer.length → number * packet ≤ place) → s.offer.length - place ≤ most
      → FromPlace most place number
  from_place zero place number numbered fits = at_end zero place number (omega arith)
  from_place (suc most) place number numbered fits =
      ⊎_elim
      (λ below.
      let t = at place number in
      let lawful-here = sending-lawful s place number below (numbered below) ok in
      at-packet most place number below (numbered below)
      (from_place most (place + next_size t) (number + 1) (next-number t refl lawful-here) (omega (arith, some place number below))))
      (λ past. at_end (suc most) place number past) (lt_or_le place s.offer.length)

-- ---- the whole exchange

-- what the FB reply tells
abbrev told : Sender → Granting → ReplyFB
told s g = record { channel = s.offer.channel; state = granted; stored = g.stored; crc = g.crc }

module _ (s : Sender) (image : List ℕ) (g : Granting) (ok : breaks_rules s ≡ false) (is : s.position.phase ≡ Asking)
    (size : length image ≡ s.offer.length) (small : g.stored < max32) (narrow : g.crc < max32) where
  granted-asking : after_reply s image (granting_reply g s) ≡ go_on (moved_to s Telling 0 0)
  unfolding granting_reply
  granted-asking =
      let reply : granting_reply g s ≡ reply_bytes 0xFA (reply_fa s.offer.channel granted g.soft) = simp is in
      ap (after_reply s image) reply ∙ granted-fa s image (is-accepted s (length image) ok size) g.soft is

  module _ (from : ℕ) (resumed : resume_at (told s g) image ≡ from) where
    abbrev ps : List (List ℕ)
    ps = pieces_from s from image

    fits : from ≤ length image
    fits = omega (arith, resume_fits (told s g) image)

    whole-exchange : exchange_granted g (suc (suc (suc (suc (length ps))))) s image
        ≡ record { requests = plan s from image; decisions = goes_on (length ps); sender = done_sender s }
    unfolding granting_reply onward request_of
    whole-exchange =
        let most = (lawful s ok).most-image in
        let telling = moved_to s Telling 0 0 in
        let placing = moved_to s Placing from 0 in
        let n = length image in
        let told-lawful = is-accepted telling n (free-lawful s Telling (free Telling refl) ok) size in
        let granted-telling = granted-fb telling image told-lawful g.stored g.crc refl small narrow
        ∙ ap (λ (place : ℕ). go_on (moved_to s Placing place 0)) resumed in
        let placed-lawful = is-accepted placing n (placing-lawful s from (omega (arith, fits)) ok) size in
        let granted-placing = granted-fc placing image placed-lawful refl (omega (arith, fits)) in
        let numbered : from < s.offer.length → 0 * packet_size s.offer.size ≤ from =
        λ h. let none = zero-mul (packet_size s.offer.size) in omega arith in
        step (suc (suc (suc (length ps)))) g s image (go_on telling) granted-asking
        ∙ ap₂ (λ (f : Frame) (e : Exchange). then f decision.GoOn e) (frame-asking s image is)
        (step (suc (suc (length ps))) g telling image (go_on placing) granted-telling
        ∙ ap₂ (λ (f : Frame) (e : Exchange). then f decision.GoOn e) (frame-telling telling image refl size)
        (step (suc (length ps)) g placing image (go_on (onward placing from 0)) granted-placing
        ∙ ap (then (request_of placing image) decision.GoOn) (from_place s ok image g size n from 0 numbered (omega arith))))

    plan-size : length (plan s from image) ≡ suc (suc (suc (suc (length ps))))
    plan-size =
        let channel = s.offer.channel in
        omega (
          arith,
          length-append (packets channel 0 ps) (request_frame 0xFE (data_fe channel) ∷ []),
          packets-size channel 0 ps,
        )

    all-granted : AllGranted s g image from
    all-granted =
        let e = ap (λ (n : ℕ). exchange_granted g n s image) plan-size ∙ whole-exchange in
        let packet = packet_size s.offer.size in
        let some = packet-some s.offer.size (lawful s ok).least_size in
        let size-left = length-drop from image in
        record {
          follows = ap (λ (x : Exchange). x.requests) e;
          decides = ap (λ (x : Exchange). x.decisions) e;
          ends = ap (λ (x : Exchange). x.sender) e;
          whole = pieces_whole (length image) packet (drop from image) (omega arith) (omega arith);
          full = pieces-full (length image) packet (drop from image) (omega arith) (omega arith);
        }

pub granted-exchange : GrantedExchange
granted-exchange s image g ok is size small narrow =
    let asks = resume_asks (told s g) image in
    let follows = all-granted s image g ok is size small narrow in
    record { that = λ f. follows g.stored (asks.that f); differ = λ f. follows 0 (asks.differ f) }
