-- An accepted packet that comes again, and when the last packet's length stays. Assumes nothing.
use mathlib.Core.Path.{◌≡◌, refl, sym, ap, ap₂, ◌∙◌, subst}
use mathlib.Core.Bool.{Bool, true, false, cond, not, ◌&&◌}
use mathlib.Core.List.{List}
use Prim.Native.Nat.{ℕ, ◌+◌, ◌≤◌}
use native.Mathlib.Omega.{arith}
use borrow.Author.Tests.{eqb-true, eq-eqb, not-false}
use lib.Dec.{eqb}
use lib.ListN.{length}
use Rattle.image.specs.declared.progress.Progress.{Progress}
use Rattle.image.specs.Progresses.{grown_by, last_stored}
use Rattle.image.proofs.Storing.{storing-fits, last_stored_lem, IsLast, last-is}
use Rattle.requests.specs.declared.request.RequestFD.{RequestFD}
use Rattle.replies.specs.Replies.{reply_state}
use Rattle.transfer.specs.declared.state.Transfer.{Transfer}
use Rattle.transfer.specs.declared.state.Step.{Step}
use Rattle.transfer.specs.Transfers.{replied}
use Rattle.packets.specs.FD.{not_receiving_here, not_next, wrong_size, wrong_crc, repeats, state_fd, takes, after_packet, area_with, answer_fd}
use Rattle.packets.specs.Repeats.{Packet, TransferAndArea, state_to, answer_to_packet, then_packet, RepeatedPacket}
use Rattle.packets.proofs.Packets.{Repeated, repeated, taken, passed, acceptable}
use Rattle.packets.proofs.Results.{packet-stored, packet-counted, packet-not-taken}
use Rattle.crc.specs.Crc.{checksum, crc16_modbus}
use Rattle.transfer.specs.Phases.{receiving}
use Rattle.sequences.proofs.Conditionals.{no-refusal, neither}

-- ---- packets other than the next

-- one that is not the next is not taken, and leaves the leg as it was
module _ (y : TransferAndArea) (k : Packet) (other : k.request.number ≡ y.transfer.leg.next → ⊥) where
  pub not_taken : takes y.transfer k.request k.bytes y.area ≡ false
  not_taken = go (takes y.transfer k.request k.bytes y.area) refl
    where
      go : (b : Bool) → takes y.transfer k.request k.bytes y.area ≡ b → b ≡ false
      go true e = absurd (other (taken y.transfer k.request k.bytes y.area e).number)
      go false e = refl

  pub passed-by : then_packet y k ≡ y
  passed-by =
      let n = packet-not-taken y.transfer k.request k.bytes y.area not_taken in
      ap₂ (λ (t : Transfer) (a : List ℕ). record { transfer = t; area = a }) (ap (λ (s : Step). s.transfer) n.1) n.0

  -- answered 00 it is the repeated one
  pub repeats_with_00 : state_to y k ≡ 0 → Repeated y.transfer k.request k.bytes y.area
  repeats_with_00 z = go (repeats y.transfer k.request k.bytes y.area) refl
    where
      go : (b : Bool) → repeats y.transfer k.request k.bytes y.area ≡ b
          → Repeated y.transfer k.request k.bytes y.area
      go true e = repeated y.transfer k.request k.bytes y.area e
      go false e = absurd (other (passed y.transfer k.request k.bytes y.area z e).number)

-- state 00 is given on the session's channel and to a right CRC-16 alone
granted-here : (y : TransferAndArea) (q : Packet) → state_to y q ≡ 0
    → (q.request.channel ≡ y.transfer.leg.channel) × (checksum crc16_modbus q.bytes ≡ q.request.crc)
unfolding state_fd
granted-here y q z =
    let t = y.transfer in
    let r = q.request in
    let p = q.bytes in
    let here = no-refusal (not_receiving_here t r) 4 _ (omega arith) z in
    let n = neither (not (receiving t.leg.phase)) _ here.0 in
    (eqb-true _ _ (not-false _ n.1), go (repeats t r p y.area) refl here.1)
  where
    crc-right : (b : Bool) → wrong_crc q.request q.bytes ≡ b → ◌≡◌ {A = ℕ} (cond b 3 0) 0
        → checksum crc16_modbus q.bytes ≡ q.request.crc
    crc-right true e w = absurd (omega arith)
    crc-right false e w = eqb-true _ _ (not-false _ e)

    rest : ℕ
    rest = cond (not_next y.transfer q.request) 1
        (cond (wrong_size y.transfer q.request (length q.bytes)) 2 (cond (wrong_crc q.request q.bytes) 3 0))

    chosen : {b : Bool} → repeats y.transfer q.request q.bytes y.area ≡ b
        → cond (repeats y.transfer q.request q.bytes y.area) (cond (wrong_crc q.request q.bytes) 3 0) rest
        ≡ cond b (cond (wrong_crc q.request q.bytes) 3 0) rest
    chosen e = ap (λ (b : Bool). cond b (cond (wrong_crc q.request q.bytes) 3 0) rest) e

    go : (b : Bool) → repeats y.transfer q.request q.bytes y.area ≡ b
        → cond (repeats y.transfer q.request q.bytes y.area) (cond (wrong_crc q.request q.bytes) 3 0) rest ≡ 0
        → checksum crc16_modbus q.bytes ≡ q.request.crc
    go true e w = crc-right (wrong_crc q.request q.bytes) refl (sym (chosen e) ∙ w)
    go false e w =
        let a = no-refusal (not_next y.transfer q.request) 1 _ (omega arith) (sym (chosen e) ∙ w) in
        let b = no-refusal (wrong_size y.transfer q.request (length q.bytes)) 2 _ (omega arith) a.1 in
        crc-right (wrong_crc q.request q.bytes) refl b.1

-- a packet by its fields
packet-of : {k q : Packet} → q.request.channel ≡ k.request.channel → q.request.number ≡ k.request.number
    → q.request.size ≡ k.request.size → q.request.crc ≡ k.request.crc → q.bytes ≡ k.bytes → q ≡ k
packet-of {k} {q} channel number size crc bytes =
    ap₂ (λ (c n : ℕ). record {
      request = record { channel = c; number = n; size = q.request.size; crc = q.request.crc };
      bytes = q.bytes;
    }) channel number
    ∙ ap₂ (λ (s c : ℕ). record {
      request = record { channel = k.request.channel; number = k.request.number; size = s; crc = c };
      bytes = q.bytes;
    }) size crc
    ∙ ap (λ (p : List ℕ). record { request = k.request; bytes = p }) bytes

-- ---- the packet accepted

module _ (t : Transfer) (r : RequestFD) (p area : List ℕ) (inside : t.image.announced ≤ length area) (e : takes t r p area ≡ true) where
  abbrev next : Transfer
  next = after_packet t p area

  abbrev written : List ℕ
  written = area_with t p area

  there : t.progress.stored + length p ≤ length area
  there = omega (arith, (taken t r p area e).fits)

  stored : next.progress ≡ grown_by t.progress (length p)
  stored = storing-fits t.progress p area there

  -- its bytes are the area's last stored ones
  pub last_written : IsLast next.progress p written
  last_written =
      let k = taken t r p area e in
      record {
        some = λ none. k.some (sym (ap (λ (q : Progress). q.last) stored) ∙ none);
        size = sym (ap (λ (q : Progress). q.last) stored);
        same_bytes = sym (last_stored_lem t.progress p area there);
      }

  repeats_it : repeats next r p written ≡ true
  unfolding repeats
  repeats_it =
      let k = taken t r p area e in
      ap₂ ◌&&◌ (eq-eqb (r.number + 1) (t.leg.next + 1) (ap (λ (n : ℕ). n + 1) k.number))
      (ap₂ ◌&&◌ (eq-eqb r.size next.progress.last (k.size ∙ last_written.size)) (last-is next.progress p written last_written))

  again_00 : state_fd next r p written ≡ 0
  unfolding state_fd
  again_00 = let k = taken t r p area e in simp (k.here, repeats_it, k.right-crc)

  again-not-taken : takes next r p written ≡ false
  unfolding takes
  again-not-taken = ap₂ (λ (n : ℕ) (b : Bool). eqb n 0 && not b) again_00 repeats_it

  pub again-answered : answer_fd next r p written ≡ replied next (reply_state r.channel 0)
  again-answered = (packet-not-taken next r p written again-not-taken).1 ∙ ap (λ (n : ℕ). replied next (reply_state r.channel n)) again_00

-- what the packet left, and came to again
pub packet-left : (x : TransferAndArea) (k : Packet) → takes x.transfer k.request k.bytes x.area ≡ true
    → then_packet x k ≡ record {
      transfer = after_packet x.transfer k.bytes x.area;
      area = area_with x.transfer k.bytes x.area;
    }
packet-left x k e =
    ap₂ (λ (t : Transfer) (a : List ℕ). record { transfer = t; area = a })
    (ap (λ (s : Step). s.transfer) (packet-counted x.transfer k.request k.bytes x.area e))
    (packet-stored x.transfer k.request k.bytes x.area e)

-- k again has state 00
state-again : (x : TransferAndArea) (k : Packet) → x.transfer.image.announced ≤ length x.area
    → takes x.transfer k.request k.bytes x.area ≡ true
    → then_packet x k ≡ record {
      transfer = after_packet x.transfer k.bytes x.area;
      area = area_with x.transfer k.bytes x.area;
    } → state_to (then_packet x k) k ≡ 0
state-again x k inside e is =
    ap (λ (z : TransferAndArea). state_to z k) is ∙ again_00 x.transfer k.request k.bytes x.area inside e

-- a packet answered 00 that is not the next is k itself
same-packet : (x : TransferAndArea) (k q : Packet) → x.transfer.image.announced ≤ length x.area
    → takes x.transfer k.request k.bytes x.area ≡ true
    → then_packet x k ≡ record {
      transfer = after_packet x.transfer k.bytes x.area;
      area = area_with x.transfer k.bytes x.area;
    } → (q.request.number ≡ (then_packet x k).transfer.leg.next → ⊥) → state_to (then_packet x k) q ≡ 0 → q ≡ k
same-packet x k q inside e is other z =
    let t = x.transfer in
    let y = then_packet x k in
    let came = taken t k.request k.bytes x.area e in
    let written = last_written t k.request k.bytes x.area inside e in
    let again = repeats_with_00 y q other z in
    let bytes : q.bytes ≡ k.bytes =
    again.last.same_bytes ∙ ap (λ (w : TransferAndArea). last_stored w.transfer.progress w.area) is ∙ sym written.same_bytes in
    let next : y.transfer.leg.next ≡ t.leg.next + 1 = ap (λ (w : TransferAndArea). w.transfer.leg.next) is in
    let number : q.request.number ≡ k.request.number = omega (arith, again.number, came.number) in
    let size : q.request.size ≡ k.request.size =
    again.size ∙ ap (λ (w : TransferAndArea). w.transfer.progress.last) is ∙ sym written.size ∙ sym came.size in
    let leg-channel : y.transfer.leg.channel ≡ t.leg.channel = ap (λ (w : TransferAndArea). w.transfer.leg.channel) is in
    let Passed-here = granted-here y q z in
    let channel : q.request.channel ≡ k.request.channel =
    Passed-here.0 ∙ leg-channel ∙ sym (acceptable t k.request k.bytes x.area e).channel in
    let crc : q.request.crc ≡ k.request.crc =
    sym Passed-here.1 ∙ ap (checksum crc16_modbus) bytes ∙ (acceptable t k.request k.bytes x.area e).right-crc in
    packet-of channel number size crc bytes

pub repeated-packet : RepeatedPacket
repeated-packet x k inside e =
    let y = then_packet x k in
    let came = taken x.transfer k.request k.bytes x.area e in
    let is = packet-left x k e in
    let next-is : y.transfer.leg.next ≡ k.request.number + 1 =
    ap (λ (z : TransferAndArea). z.transfer.leg.next) is ∙ ap (λ (n : ℕ). n + 1) (sym came.number) in
    let bytes_are : last_stored y.transfer.progress y.area ≡ k.bytes =
    ap (λ (z : TransferAndArea). last_stored z.transfer.progress z.area) is
    ∙ sym (last_written x.transfer k.request k.bytes x.area inside e).same_bytes in
    record {
      answered_00 =
          subst (λ (z : TransferAndArea). answer_to_packet z k ≡ replied z.transfer (reply_state k.request.channel 0)) (sym is)
          (again-answered x.transfer k.request k.bytes x.area inside e);
      unchanged = λ q other. passed-by y q (λ n. other (n ∙ next-is));
      itself_alone = λ q other. (
        λ z. same-packet x k q inside e is (λ n. other (n ∙ next-is)) z,
        λ same. ap (state_to y) same ∙ state-again x k inside e is,
      );
    }

-- ---- when no packet is a repeated one

module _ (t : Transfer) where
  pub never-repeated : t.progress.last ≡ 0 → (r : RequestFD) (p area : List ℕ) → repeats t r p area ≡ false
  never-repeated none r p area = go (repeats t r p area) refl
    where
      go : (b : Bool) → repeats t r p area ≡ b → b ≡ false
      go true e = absurd ((repeated t r p area e).last.some none)
      go false e = refl

  pub first-never-repeated : t.leg.next ≡ 0 → (r : RequestFD) (p area : List ℕ) → repeats t r p area ≡ false
  first-never-repeated first r p area = go (repeats t r p area) refl
    where
      go : (b : Bool) → repeats t r p area ≡ b → b ≡ false
      go true e = let n = (repeated t r p area e).number in absurd (omega arith)
      go false e = refl
