-- The sender of the bench, and the frames that both ends send. Assumes nothing.
use Rattle.std.specs.Prelude.{◌≡◌, List, [], ◌∷◌, ◌++◌, ℕ, ◌≤◌, ◌<◌, length, take, drop}
use Rattle.fronts.specs.Frame.{max_frame}
use Rattle.sequences.specs.Padding.{zeros}
use Rattle.commands.specs.Limits.{min_packet, max_area}
use Rattle.sender.specs.declared.sender.Sender.{Sender}
use Rattle.sender.specs.declared.sender.Offer.{Offer}
use Rattle.sender.specs.Senders.{fresh_sender}
use Rattle.sender.specs.Opening.{offer_of, opened_sender}
use Rattle.sender.specs.Requests.{requested, room_requested}
use Rattle.link.specs.declared.frame.Frame.{Frame}
use Rattle.link.specs.declared.frame.Way.TheVariants.{ToController, ToSender}

-- PID all zero, version 1.0.3, MD5 all zero; n is the image's length
abbrev pub image_offer : ℕ → ℕ → ℕ → Offer
image_offer channel size n = offer_of channel (zeros 8) (1 ∷ 0 ∷ 3 ∷ []) (zeros 16) size n

abbrev pub open_sender : ℕ → ℕ → ℕ → Sender
open_sender channel size n = fresh_sender (image_offer channel size n)

-- what opening gives, and that this is the fresh sender: no size from 16 on is refused, nor an image that has a byte and fits
pub record SenderOpens (channel size n : ℕ) (r : Sender) : Type 0 where
  pub gives : r ≡ (opened_sender (image_offer channel size n)).sender
  pub fresh : min_packet ≤ size → 0 < n → n ≤ max_area → r ≡ open_sender channel size n

-- the frame's bytes
abbrev pub frame_bytes : Frame → List ℕ
frame_bytes f = take f.length f.bytes

-- what the sender writes into a room of zeros
abbrev pub request_sent : Sender → List ℕ → Frame
request_sent s image =
    record { way = ToController; bytes = room_requested s image (zeros max_frame); length = (requested s image (zeros max_frame)).length }

-- what the controller has written into its room
abbrev pub reply_sent : List ℕ → ℕ → Frame
reply_sent room n = record { way = ToSender; bytes = room ++ drop (length room) (zeros max_frame); length = n }
