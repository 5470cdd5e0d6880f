-- 01, "How the session answers": "FD. In order: not receiving or not the session's channel, 04; number is not the next, 01; n differs
-- from L - 7, or n is 0, or above the agreed size, or stored + n above announced, 02; CRC-16 wrong, 03. None of these changes
-- anything. Otherwise 00: the data is written from place stored on, into that part of the area only; stored grows by n, next number
-- by 1." Between 04 and 01 stands document 02's test for a packet that is sent again because its reply was lost (K2). p is the packet's
-- L - 7 bytes. Assumes nothing.
use Rattle.std.specs.Prelude.{◌≡◌, ◌↔◌, Bool, true, false, cond, not, ◌||◌, ◌&&◌, List, ◌++◌, ℕ, ◌+◌, ◌≤◌, ◌<◌, ltb, eqb, length, take, drop}
use Rattle.sequences.specs.Places.{written_at}
use Rattle.crc.specs.Crc.{checksum, crc16_modbus}
use Rattle.image.specs.Progresses.{storing, is_last}
use Rattle.commands.specs.Limits.{max_next}
use Rattle.requests.specs.declared.request.RequestFD.{RequestFD}
use Rattle.commands.specs.States.{granted, other_number_fd, bad_size_fd, bad_crc_fd, not_receiving_fd}
use Rattle.replies.specs.Replies.{reply_state}
use Rattle.transfer.specs.declared.phase.Phase.TheVariants.{Receiving}
use Rattle.transfer.specs.declared.state.Leg.{Leg}
use Rattle.transfer.specs.declared.state.Transfer.{Transfer}
use Rattle.transfer.specs.declared.state.Step.{Step}
use Rattle.transfer.specs.Phases.{receiving}
use Rattle.transfer.specs.Transfers.{other_channel, replied, Effect, unwritten}

abbrev pub not_receiving_here : Transfer → RequestFD → Bool
not_receiving_here t r = not (receiving t.leg.phase) || other_channel t r.channel

-- "number is not the next"; "After number 65,535 no packet is next"
abbrev pub not_next : Transfer → RequestFD → Bool
not_next t r = not (ltb t.leg.next max_next) || not (eqb r.number t.leg.next)

-- "n differs from L - 7, or n is 0, or above the agreed size, or stored + n above announced", `size` being L - 7
abbrev pub wrong_size : Transfer → RequestFD → ℕ → Bool
wrong_size t r size =
    not (eqb r.size size)
    || (eqb r.size 0 || (ltb t.leg.agreed r.size || ltb t.image.announced (t.progress.stored + r.size)))

-- "the CRC-16 in FD is the MODBUS one" (document 02, K1). As all numbers its two bytes come high byte first, unlike on a Modbus line.
abbrev pub wrong_crc : RequestFD → List ℕ → Bool
wrong_crc r p = not (eqb (checksum crc16_modbus p) r.crc)

-- "A packet whose number is one below the next, whose length (n and L - 7 alike) is that of the packet accepted last in this leg and
-- whose bytes equal the area's last stored bytes"
unfoldable pub repeats : Transfer → RequestFD → List ℕ → List ℕ → Bool
repeats t r p area = eqb (r.number + 1) t.leg.next && (eqb r.size t.progress.last && is_last t.progress p area)

-- the state replied; of the repeated packet: "Its CRC-16 must be right, else 03"
unfoldable pub state_fd : Transfer → RequestFD → List ℕ → List ℕ → ℕ
state_fd t r p area =
    cond (not_receiving_here t r) not_receiving_fd
    (cond (repeats t r p area) (cond (wrong_crc r p) bad_crc_fd granted)
    (cond (not_next t r) other_number_fd
    (cond (wrong_size t r (length p)) bad_size_fd
    (cond (wrong_crc r p) bad_crc_fd granted))))

-- a packet answered 00 is taken, but for the repeated one: that "is answered 00 and changes nothing"
unfoldable pub takes : Transfer → RequestFD → List ℕ → List ℕ → Bool
takes t r p area = eqb (state_fd t r p area) granted && not (repeats t r p area)

-- "stored grows by n, next number by 1"
abbrev pub numbered_on : Leg → Leg
numbered_on l = record { phase = l.phase; channel = l.channel; agreed = l.agreed; next = l.next + 1 }

abbrev pub after_packet : Transfer → List ℕ → List ℕ → Transfer
after_packet t p area = record { leg = numbered_on t.leg; progress = storing t.progress p area; image = t.image; check = t.check }

-- "the data is written from place stored on, into that part of the area only"
abbrev pub area_with : Transfer → List ℕ → List ℕ → List ℕ
area_with t p area = written_at area t.progress.stored p

unfoldable pub effect_fd : Transfer → RequestFD → List ℕ → List ℕ → Effect Step
effect_fd t r p area =
    let reply = reply_state r.channel (state_fd t r p area) in
    cond (takes t r p area)
    (record { gives = replied (after_packet t p area) reply; area = area_with t p area })
    (unwritten (replied t reply) area)

abbrev pub answer_fd : Transfer → RequestFD → List ℕ → List ℕ → Step
answer_fd t r p area = (effect_fd t r p area).gives

abbrev pub area_fd : Transfer → RequestFD → List ℕ → List ℕ → List ℕ
area_fd t r p area = (effect_fd t r p area).area

-- what 01's sentence asks of a packet, one condition after the other
pub record Acceptable (t : Transfer) (r : RequestFD) (p : List ℕ) : Type 0 where
  pub receiving : t.leg.phase ≡ Receiving
  pub channel : r.channel ≡ t.leg.channel
  pub number : r.number ≡ t.leg.next
  pub within : t.leg.next < max_next
  pub size : r.size ≡ length p
  pub some : 0 < r.size
  pub agreed : r.size ≤ t.leg.agreed
  pub fits : t.progress.stored + r.size ≤ t.image.announced
  pub right-crc : checksum crc16_modbus p ≡ r.crc

-- The claim: exactly such a packet is taken, whatever stands in the area.
abbrev pub TakesExactly : Type 0
TakesExactly = (t : Transfer) (r : RequestFD) (p area : List ℕ) → (takes t r p area ≡ true) ↔ Acceptable t r p

-- The claim: a packet that is taken, in an area that has room for the announced image, is written "from place stored on, into that part
-- of the area only; stored grows by n, next number by 1"; it is answered 00, and nothing else changes.
pub record PacketStored (t : Transfer) (r : RequestFD) (p area : List ℕ) : Type 0 where
  pub written : area_fd t r p area ≡ take t.progress.stored area ++ (p ++ drop (t.progress.stored + length p) area)
  pub counted : answer_fd t r p area ≡ replied (record {
    leg = record { phase = t.leg.phase; channel = t.leg.channel; agreed = t.leg.agreed; next = t.leg.next + 1 };
    progress = record { stored = t.progress.stored + length p; last = length p };
    image = t.image;
    check = t.check;
  }) (reply_state r.channel granted)

abbrev pub StoresPackets : Type 0
StoresPackets =
    (t : Transfer) (r : RequestFD) (p area : List ℕ) → t.image.announced ≤ length area → takes t r p area ≡ true → PacketStored t r p area

-- The claim: "None of these changes anything", nor does the repeated packet; the reply has the state. "After number 65,535 no packet is
-- next".
pub record PacketUntaken (t : Transfer) (r : RequestFD) (p area : List ℕ) : Type 0 where
  pub not_taken : takes t r p area ≡ false → effect_fd t r p area ≡ unwritten (replied t (reply_state r.channel (state_fd t r p area))) area
  pub refused : (state_fd t r p area ≡ granted → ⊥) → takes t r p area ≡ false
  pub repeated : repeats t r p area ≡ true → takes t r p area ≡ false
  pub none-next : t.leg.next ≡ max_next → takes t r p area ≡ false

abbrev pub UntakenPackets : Type 0
UntakenPackets = (t : Transfer) (r : RequestFD) (p area : List ℕ) → PacketUntaken t r p area
