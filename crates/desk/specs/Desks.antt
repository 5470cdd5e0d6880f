-- docs/CONSOLE.md, "What it holds". Assumes nothing.
use Rattle.std.specs.Prelude.{Bool, not, List, ℕ, replicate}
use Rattle.boards.specs.declared.board.Board.{Board}
use Rattle.boards.specs.Boards.{no_board, max_boards}
use Rattle.controller.specs.declared.record.Record.{Record}
use Rattle.controller.specs.Records.{no_record}
use Rattle.phrases.specs.declared.phrase.Trouble.{Trouble}
use Rattle.phrases.specs.Phrases.{is_fine}
use Rattle.sender.specs.declared.sender.Sender.{Sender}
use Rattle.sender.specs.Senders.{no_sender}
use Rattle.desk.specs.declared.desk.Desk.{Desk}
use Rattle.desk.specs.Lent.{memory_size}

-- "at the start": the list and both records all zero; of the room and the area all bytes lent, of the image none
abbrev pub empty_desk : Desk
empty_desk =
    record {
      list = replicate max_boards no_board;
      «record» = no_record;
      sender = no_sender;
      room = memory_size;
      area = memory_size;
      image = 0;
    }

abbrev pub is_bad : Trouble → Bool
is_bad t = not (is_fine t)

module _ (d : Desk) where
  abbrev pub with_record : Record → Desk
  with_record r =
      record {
        list = d.list;
        «record» = r;
        sender = d.sender;
        room = d.room;
        area = d.area;
        image = d.image;
      }

  abbrev pub with_sender : Sender → Desk
  with_sender s =
      record {
        list = d.list;
        «record» = d.record;
        sender = s;
        room = d.room;
        area = d.area;
        image = d.image;
      }

  abbrev pub with_list : List Board → Desk
  with_list list =
      record {
        list = list;
        «record» = d.record;
        sender = d.sender;
        room = d.room;
        area = d.area;
        image = d.image;
      }

  -- so much of each memory is lent
  abbrev pub lending : ℕ → ℕ → ℕ → Desk
  lending room area image =
      record {
        list = d.list;
        «record» = d.record;
        sender = d.sender;
        room = room;
        area = area;
        image = image;
      }
