-- Document 02, K2, "A lost reply must not cost the whole leg", of one transfer: an accepted packet that comes again is answered 00 and
-- changes nothing, and of all packets but the next it alone is: number, size, CRC-16 and bytes as they were. What may come in between is
-- the session's claim. Assumes nothing.
use Rattle.std.specs.Prelude.{◌≡◌, ◌↔◌, true, List, ℕ, ◌+◌, ◌≤◌, length}
use Rattle.commands.specs.States.{granted}
use Rattle.requests.specs.declared.request.RequestFD.{RequestFD}
use Rattle.replies.specs.Replies.{reply_state}
use Rattle.transfer.specs.declared.state.Transfer.{Transfer}
use Rattle.transfer.specs.declared.state.Step.{Step}
use Rattle.transfer.specs.Transfers.{replied}
use Rattle.packets.specs.FD.{state_fd, takes, answer_fd, area_fd}

-- the fields of an FD and its bytes
pub record Packet : Type 0 where
  pub request : RequestFD
  pub bytes : List ℕ

-- what a packet comes to, and leaves
pub record TransferAndArea : Type 0 where
  pub transfer : Transfer
  pub area : List ℕ

abbrev pub state_to : TransferAndArea → Packet → ℕ
state_to x k = state_fd x.transfer k.request k.bytes x.area

abbrev pub answer_to_packet : TransferAndArea → Packet → Step
answer_to_packet x k = answer_fd x.transfer k.request k.bytes x.area

abbrev pub then_packet : TransferAndArea → Packet → TransferAndArea
then_packet x k = record { transfer = (answer_to_packet x k).transfer; area = area_fd x.transfer k.request k.bytes x.area }

-- what holds once packet k was accepted at x
pub record Repetition (x : TransferAndArea) (k : Packet) : Type 0 where
  -- k again is answered 00
  pub answered_00 : answer_to_packet (then_packet x k) k ≡ replied (then_packet x k).transfer (reply_state k.request.channel granted)
  -- and changes nothing, no more than any packet but the next
  pub unchanged : (q : Packet) → (q.request.number ≡ k.request.number + 1 → ⊥) → then_packet (then_packet x k) q ≡ then_packet x k
  -- of the packets with another number than the next, k alone is answered 00
  pub itself_alone : (q : Packet) → (q.request.number ≡ k.request.number + 1 → ⊥) → (state_to (then_packet x k) q ≡ granted) ↔ (q ≡ k)

abbrev pub RepeatedPacket : Type 0
RepeatedPacket =
    (x : TransferAndArea) (k : Packet) → x.transfer.image.announced ≤ length x.area
    → takes x.transfer k.request k.bytes x.area ≡ true → Repetition x k
