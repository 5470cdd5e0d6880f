-- Records whose CHANGES can be read: docs/CONSOLE.md, "Output". Assumes nothing.
use Rattle.std.specs.Prelude.{◌≡◌, true, [], ◌∷◌, ◌++◌, replicate}
use Rattle.boards.specs.Boards.{no_board}
use Rattle.controller.specs.declared.record.Record.{Record}
use Rattle.controller.specs.Bench.{board}
use Rattle.controller.specs.Records.{fresh_record, no_record}
use Rattle.frames.specs.LiveReading.{holding}
use Rattle.sender.specs.declared.phase.Phase.TheVariants.{Sending}
use Rattle.sender.specs.declared.sender.Sender.{Sender}
use Rattle.sender.specs.Opening.{offer_of}
use Rattle.sender.specs.Senders.{no_sender, begun, moved_to, again}
use Rattle.text.specs.Ascii.{ascii}
use Rattle.text.specs.Outputs.{as_one}
use Rattle.transfer.specs.declared.phase.Phase.TheVariants.{Receiving}
use Rattle.changes.specs.RecordChanges.{record_texts}
use Rattle.changes.specs.SenderChanges.{sender_texts}

-- one board, and an area of 65,536
abbrev just_opened : Record
just_opened = fresh_record (board 10 ∷ replicate 9 no_board) 1 65536

-- every field is another than in the all-zero record, of the boards the last one
abbrev full : Record
full =
    record {
      reader = holding (0x55 ∷ 0x00 ∷ 0xAA ∷ []);
      session = record {
        boards = replicate 9 no_board ++ board 19 ∷ [];
        count = 10;
        opened = 9;
        transfer = record {
          leg = record { phase = Receiving; channel = 255; agreed = 256; next = 2 };
          progress = record { stored = 9; last = 4 };
          image = record { channel = 10; version = 1 ∷ 0 ∷ 3 ∷ []; announced = 40; md5 = replicate 16 0xE4; crc = 0xCBF43926 };
          check = record { running = true; read = 8; register = 0xFF };
        };
      };
    }

-- a sender in its third leg that sends its second packet, after a silence
abbrev second_packet : Sender
second_packet = again (moved_to (begun (offer_of 10 (replicate 8 7) (1 ∷ 0 ∷ 3 ∷ []) (replicate 16 0xAB) 512 1024) 2) Sending 512 1)

pub record ChangeExamples : Type 0 where
  pub unchanged : as_one (record_texts just_opened just_opened) ≡ ascii "|"
  pub opening : as_one (record_texts no_record just_opened) ≡ ascii "| boards=1 board0=1,0A,010002,010000,0000000000000000 opened=65536"
  pub every_field : as_one (record_texts no_record full) ≡ as_one (
      ascii "| boards=10 board9=1,13,010002,010000,0000000000000000 opened=9 holding=3 held=0:5500AA"
      ∷ ascii " phase=receiving channel=255 agreed=256 next=2 stored=9"
      ∷ ascii " image-channel=10 version=010003 announced=40 md5=E4E4E4E4E4E4E4E4E4E4E4E4E4E4E4E4 crc=CBF43926"
      ∷ ascii " last=4 checking=1 read=8 register=000000FF"
      ∷ [])
  pub of-sender : as_one (sender_texts no_sender second_packet) ≡ as_one (
      ascii "| channel=10 pid=0707070707070707 version=010003 md5=ABABABABABABABABABABABABABABABAB size=512 length=1024"
      ∷ ascii " phase=sending place=512 number=1 silences=1 legs=2"
      ∷ [])
  pub sender-unchanged : as_one (sender_texts second_packet second_packet) ≡ ascii "|"
