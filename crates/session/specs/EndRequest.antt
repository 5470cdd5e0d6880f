-- Demand 2: "An end request is answered "success" exactly when a transfer on that channel is open or just accepted, the stored length is
-- the announced one, and the CRC-32 of the bytes then standing in the area is the announced one." Document 02, K5: it "speaks of an end
-- request that does not meet 12, once its check is finished ..; its verdict is that of the check in one go". Here the check is made in one
-- go; that portions of any size come to the same is the record's claim, one layer up. Assumes nothing.
use Rattle.std.specs.Prelude.{◌≡◌, true, false, ◌↔◌, Some, List, ℕ, length, take}
use Rattle.crc.specs.Crc.{checksum, crc32}
use Rattle.frames.specs.declared.finished.FinishedFrame.{FinishedFrame}
use Rattle.sequences.specs.Padding.{padded}
use Rattle.requests.specs.Requests.{channel_of}
use Rattle.commands.specs.Limits.{max_reply}
use Rattle.replies.specs.Replies.{reply_state}
use Rattle.transfer.specs.declared.state.Transfer.{Transfer}
use Rattle.transfer.specs.Phases.{receiving_or_done}
use Rattle.session.specs.declared.session.Session.{Session}
use Rattle.session.specs.declared.answer.Answer.{Answer}
use Rattle.commands.specs.Outcomes.{accepted}
use Rattle.commands.specs.States.{granted}
use Rattle.session.specs.Transfers.{transfer_on}
use Rattle.session.specs.Lawful.{unlawful}
use Rattle.session.specs.OneGo.{in_one_go}

-- the frame FE of a channel: version 00, L 1
pub record IsEndRequest (f : FinishedFrame) (channel : ℕ) : Type 0 where
  pub command : f.command ≡ 0xFE
  pub version : f.version ≡ 0x00
  pub size : f.length ≡ 1
  pub for : channel_of f.bytes ≡ channel

-- the demand's four conditions
pub record Complete (t : Transfer) (channel : ℕ) (area : List ℕ) : Type 0 where
  pub open_or_accepted : receiving_or_done t.leg.phase ≡ true
  pub here : channel ≡ t.leg.channel
  pub all-stored : t.progress.stored ≡ t.image.announced
  pub right : checksum crc32 (take t.image.announced area) ≡ t.image.crc

-- an answer with the reply FE, that channel, 00
pub record SuccessIn (channel : ℕ) (a : Answer) : Type 0 where
  pub answered : a.outcome ≡ accepted
  pub reply : a.reply ≡ Some (padded max_reply (reply_state channel granted))

-- the claim: premises on the input alone
abbrev pub EndRequest : Type 0
EndRequest =
    (s : Session) (f : FinishedFrame) (channel : ℕ) (area : List ℕ) → unlawful s ≡ false → length area ≡ s.opened
    → (transfer_on s channel).check.running ≡ false
    → IsEndRequest f channel → SuccessIn channel (in_one_go s f area) ↔ Complete (transfer_on s channel) channel area
