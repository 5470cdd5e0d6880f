-- Lines that can be read: docs/EXCHANGE.md. Assumes nothing.
use Rattle.std.specs.Prelude.{◌≡◌, true, List, [], ◌∷◌, ℕ, length}
use Rattle.link.specs.declared.frame.Frame.{Frame}
use Rattle.link.specs.declared.frame.Way.{Way}
use Rattle.link.specs.declared.frame.Way.TheVariants.{ToController, ToSender}
use Rattle.sender.specs.declared.decision.Decision.TheVariants.{GoOn, SendAgain}
use Rattle.text.specs.Ascii.{ascii}
use Rattle.text.specs.Outputs.{as_one}
use Rattle.transfer.specs.declared.phase.Phase.TheVariants.{Done}
use Rattle.transcript.specs.Words.{lost}
use Rattle.transcript.specs.Lines.{gone_texts, at_controller_texts, at_sender_texts, silence_texts, stored_texts, sender_end_texts}
use Rattle.transcript.specs.Lines.{controller_end_texts, area_end_texts}

abbrev link_frame : Way → List ℕ → Frame
link_frame way bytes = record { way = way; bytes = bytes; length = length bytes }

-- an FE, and the reply to an FD
abbrev sent_fe : Frame
sent_fe = link_frame ToController (0x55 ∷ 0xAA ∷ 0x00 ∷ 0xFE ∷ 0x00 ∷ 0x01 ∷ 0x0A ∷ 0x08 ∷ [])

abbrev packet_reply : Frame
packet_reply = link_frame ToSender (0x55 ∷ 0xAA ∷ 0x00 ∷ 0xFD ∷ 0x00 ∷ 0x02 ∷ 0x0A ∷ 0x00 ∷ 0x08 ∷ [])

pub record LineExamples : Type 0 where
  pub fed : as_one (at_controller_texts sent_fe 0) ≡ ascii "-> FE 55AA00FE00010A08 controller 0\n"
  pub heard : as_one (at_sender_texts packet_reply 0 GoOn) ≡ ascii "<- FD 55AA00FD00020A0008 sender 0 go on\n"
  pub gone : as_one (gone_texts sent_fe lost) ≡ ascii "-> FE 55AA00FE00010A08 lost\n"
  pub silent : as_one (silence_texts 0 SendAgain) ≡ ascii "silence sender 0 send again\n"
  pub stored : as_one (stored_texts 16 40 true) ≡ ascii "stored 16 of 40, as in the image\n"
  pub sender_end_lem : as_one (sender_end_texts true) ≡ ascii "sender done\n"
  pub controller_end : as_one (controller_end_texts Done 40 40) ≡ ascii "controller done, stored 40 of 40\n"
  pub area_end_lem : as_one (area_end_texts true) ≡ ascii "area equals the image\n"
