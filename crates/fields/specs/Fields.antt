-- docs/CONSOLE.md, "Fields of the record": what `set` makes of each. p is the phrase, b its bytes. Assumes nothing.
use Rattle.std.specs.Prelude.{cond, List, ℕ, ◌%◌, ltb, take, set}
use Rattle.sequences.specs.Fields.{byte_at, number32_at, field_at}
use Rattle.sequences.specs.Places.{written_at}
use Rattle.boards.specs.declared.board.Board.{Board}
use Rattle.boards.specs.Boards.{max_boards}
use Rattle.controller.specs.declared.record.Record.{Record}
use Rattle.frames.specs.declared.reader.Reader.{Reader}
use Rattle.image.specs.declared.check.Check.{Check}
use Rattle.image.specs.declared.progress.Progress.{Progress}
use Rattle.session.specs.declared.session.Session.{Session}
use Rattle.transfer.specs.declared.identity.Identity.{Identity}
use Rattle.transfer.specs.declared.phase.Phase.{Phase}
use Rattle.transfer.specs.declared.phase.Phase.TheVariants.{Idle, Asked, Told, Receiving, Done}
use Rattle.transfer.specs.declared.state.Leg.{Leg}
use Rattle.transfer.specs.declared.state.Transfer.{Transfer}
use Rattle.phrases.specs.declared.phrase.Phrase.{Phrase}
use Rattle.phrases.specs.Places.{set_boards_at, set_board_at, set_opened_at, set_holding_at, set_held_at, set_phase_idle_at, set_phase_asked_at}
use Rattle.phrases.specs.Places.{set_phase_told_at, set_phase_receiving_at, set_phase_done_at, set_channel_at, set_agreed_at, set_next_at, set_stored_at}
use Rattle.phrases.specs.Places.{set_image_channel_at, set_version_at, set_announced_at, set_md5_at, set_crc_at, set_last_at, set_checking_at, set_read_at}
use Rattle.phrases.specs.Places.{set_register_at}
use Rattle.fields.specs.Choices.{set_to, said_yes}

-- "channel(1), soft version(3), hard version(3), PID(8)", and the permit, "0 or 1"
abbrev pub board_said : ℕ → List ℕ → Board
board_said permit b =
    record { channel = byte_at 0 b; soft = field_at 1 3 b; hard = field_at 4 3 b; pid = field_at 7 8 b; permit = said_yes permit }

-- a board at its place of the list, which has ten
abbrev pub placed : List Board → ℕ → Board → List Board
placed boards place board = cond (ltb place max_boards) (set boards place board) boards

-- "the board at this place"
abbrev pub boards_set : Phrase → List ℕ → List Board → List Board
boards_set p b boards = set_to p.command set_board_at (placed boards p.first (board_said p.second b)) boards

-- "the 526 places for held bytes"
abbrev pub held_set : Phrase → List ℕ → List ℕ → List ℕ
held_set p b held = set_to p.command set_held_at (written_at held p.first (take p.count b)) held

-- "how many bytes are held"
abbrev pub reader_set : Phrase → List ℕ → Reader → Reader
reader_set p b r = record { held = held_set p b r.held; count = set_to p.command set_holding_at p.first r.count }

-- "idle, asked, told, receiving, done"
abbrev pub phase_set : ℕ → Phase → Phase
phase_set command old =
    set_to command set_phase_idle_at Idle
    (set_to command set_phase_asked_at Asked
    (set_to command set_phase_told_at Told (set_to command set_phase_receiving_at Receiving (set_to command set_phase_done_at Done old))))

module _ (p : Phrase) where
  -- "the session's channel", "the agreed packet size", "the next packet number"
  abbrev pub leg_set : Leg → Leg
  leg_set l =
      record {
        phase = phase_set p.command l.phase;
        channel = set_to p.command set_channel_at (p.first % 256) l.channel;
        agreed = set_to p.command set_agreed_at p.first l.agreed;
        next = set_to p.command set_next_at p.first l.next;
      }

  -- "the stored length", "the length of the packet accepted last"
  abbrev pub progress_set : Progress → Progress
  progress_set x =
      record {
        stored = set_to p.command set_stored_at p.first x.stored;
        last = set_to p.command set_last_at p.first x.last;
      }

module _ (p : Phrase) (b : List ℕ) where
  -- "the identity's channel", "version", "the announced length", "MD5", "CRC-32"
  abbrev pub identity_set : Identity → Identity
  identity_set i =
      record {
        channel = set_to p.command set_image_channel_at (p.first % 256) i.channel;
        version = set_to p.command set_version_at (field_at 0 3 b) i.version;
        announced = set_to p.command set_announced_at p.first i.announced;
        md5 = set_to p.command set_md5_at (field_at 0 16 b) i.md5;
        crc = set_to p.command set_crc_at (number32_at 0 b) i.crc;
      }

  -- "whether an end check runs", "how many bytes it has read", "the CRC-32's register, before the final xor"
  abbrev pub check_set : Check → Check
  check_set c =
      record {
        running = set_to p.command set_checking_at (said_yes p.first) c.running;
        read = set_to p.command set_read_at p.first c.read;
        register = set_to p.command set_register_at (number32_at 0 b) c.register;
      }

  abbrev pub transfer_set : Transfer → Transfer
  transfer_set t =
      record {
        leg = leg_set p t.leg;
        progress = progress_set p t.progress;
        image = identity_set t.image;
        check = check_set t.check;
      }

  -- "how many boards the list has", "the opened length"
  abbrev pub session_set : Session → Session
  session_set s =
      record {
        boards = boards_set p b s.boards;
        count = set_to p.command set_boards_at p.first s.count;
        opened = set_to p.command set_opened_at p.first s.opened;
        transfer = transfer_set s.transfer;
      }

  unfoldable pub record_set : Record → Record
  record_set r = record { reader = reader_set p b r.reader; session = session_set r.session }
