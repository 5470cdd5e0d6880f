-- 01, "Frames from the bench", as one table: for each row the frames fed before, each of which must be answered, then what is done and
-- everything that is to be seen of it. The rows behind P11's go on to the end check and its portions (document 02, K5). Assumes nothing.
use Rattle.std.specs.Prelude.{◌≡◌, Bool, true, ◌&&◌, List, [], ◌∷◌, ◌++◌, map, ℕ, eqb, length, take, drop, replicate}
use Rattle.sequences.specs.Padding.{zeros}
use Rattle.boards.specs.declared.board.Board.{Board}
use Rattle.image.specs.declared.check.Verdict.{Verdict}
use Rattle.image.specs.declared.check.Verdict.TheVariants.{Unfinished, Right}
use Rattle.boards.specs.Boards.{no_board}
use Rattle.commands.specs.Outcomes.{outcome_number}
use Rattle.controller.specs.declared.record.Record.{Record}
use Rattle.controller.specs.Records.{holding_nothing, opened_record}
use Rattle.controller.specs.Calls.{fed_call}
use Rattle.controller.specs.Portions.{portion_call}
use Rattle.controller.specs.OutwardReport.{reported, room_reported}
use Rattle.fronts.specs.Frame.{Frame}
use Rattle.frames.specs.Reading.{Reading, reading}
use Rattle.frames.specs.Series.{Series}
use Rattle.image.specs.declared.check.Check.{Check}
use Rattle.image.specs.Checks.{no_check, started_check, read_on}
use Rattle.transfer.specs.declared.identity.Identity.{Identity}
use Rattle.transfer.specs.declared.phase.Phase.{Phase}
use Rattle.transfer.specs.declared.phase.Phase.TheVariants.{Asked, Receiving, Done}
use Rattle.transfer.specs.Identities.{no_identity}

-- "Board: channel 10, soft 1.0.2, hard 1.0.0, PID all zero, permitted, area 65,536." The bench's programs may put it on another channel.
abbrev pub board : ℕ → Board
board channel = record { channel = channel; soft = 1 ∷ 0 ∷ 2 ∷ []; hard = 1 ∷ 0 ∷ 0 ∷ []; pid = zeros 8; permit = true }

abbrev pub area_size : ℕ
area_size = 65536

abbrev pub opened_on : ℕ → Record
opened_on channel = (opened_record (board channel ∷ replicate 9 no_board) 1 area_size).next

abbrev pub fresh : Record
fresh = opened_on 10

-- feeding some bytes, a portion of the end check, or the outward F9
pub data Action : Type 0 where
  feeds : List ℕ → Action
  checks : ℕ → Action
  reports : Action

-- the room that is lent: wider than is asked for, and not of zeros, so that what stays of it is seen
abbrev pub lent_room : List ℕ
lent_room = replicate 40 0xEE

-- all that is seen of it, and all that it leaves
pub record Seen : Type 0 where
  -- every frame fed before was answered
  pub earlier : Bool
  pub outcome : ℕ
  pub reply : List ℕ
  pub taken : ℕ
  pub dropped : ℕ
  pub command : ℕ
  pub L : ℕ
  -- bytes of the image that a portion read, and what it said
  pub count : ℕ
  pub verdict : Verdict
  -- the bytes that were fed, read as a byte sequence
  pub sequence : Reading
  pub at : Record
  pub room : List ℕ
  pub area : List ℕ

pub record Row : Type 0 where
  -- the P numbers that it shows; none where it goes beyond 01
  pub shows : List ℕ
  pub before : List (List ℕ)
  pub action : Action
  pub wanted : Seen

abbrev pub seen : Bool → Action → Record → List ℕ → Seen
seen earlier (feeds bytes) r area =
    let x = fed_call bytes r lent_room area in
    record {
      earlier = earlier;
      outcome = outcome_number x.called.outcome;
      reply = take x.called.reply_length x.room;
      taken = x.called.taken;
      dropped = x.called.dropped;
      command = x.called.command;
      L = x.called.data_length;
      count = 0;
      verdict = Unfinished;
      sequence = reading bytes;
      at = x.called.next;
      room = x.room;
      area = x.area;
    }
seen earlier (checks most) r area =
    let x = portion_call most r lent_room area in
    record {
      earlier = earlier;
      outcome = outcome_number x.called.outcome;
      reply = take x.called.reply_length x.room;
      taken = 0;
      dropped = 0;
      command = 0;
      L = 0;
      count = x.called.count;
      verdict = x.called.verdict;
      sequence = reading [];
      at = x.called.next;
      room = x.room;
      area = area;
    }
seen earlier reports r area =
    record {
      earlier = earlier;
      outcome = outcome_number (reported r lent_room).outcome;
      reply = take (reported r lent_room).length (room_reported r lent_room);
      taken = 0;
      dropped = 0;
      command = 0;
      L = 0;
      count = 0;
      verdict = Unfinished;
      sequence = reading [];
      at = r;
      room = room_reported r lent_room;
      area = area;
    }

abbrev pub seen_after : List (List ℕ) → Bool → Action → Record → List ℕ → Seen
seen_after [] earlier action r area = seen earlier action r area
seen_after (bytes ∷ more) earlier action r area =
    let x = fed_call bytes r lent_room area in
    seen_after more (earlier && eqb (outcome_number x.called.outcome) 0) action x.called.next x.area

abbrev pub got : List ℕ → Row → Seen
got area benchRow = seen_after benchRow.before true benchRow.action fresh area

-- ---- the frames

-- "P1 FE request"; "P2 fresh record replies"
abbrev pub p1 : List ℕ
p1 = 0x55 ∷ 0xAA ∷ 0x00 ∷ 0xFE ∷ 0x00 ∷ 0x01 ∷ 0x0A ∷ 0x08 ∷ []

abbrev pub p2 : List ℕ
p2 = 0x55 ∷ 0xAA ∷ 0x00 ∷ 0xFE ∷ 0x00 ∷ 0x02 ∷ 0x0A ∷ 0x03 ∷ 0x0C ∷ []

-- "P3 FA, Len1 256"; "P4 reply"
abbrev pub p3 : List ℕ
p3 = 0x55 ∷ 0xAA ∷ 0x00 ∷ 0xFA ∷ 0x00 ∷ 0x03 ∷ 0x0A ∷ 0x01 ∷ 0x00 ∷ 0x07 ∷ []

abbrev pub p4 : List ℕ
p4 = 0x55 ∷ 0xAA ∷ 0x00 ∷ 0xFA ∷ 0x00 ∷ 0x07 ∷ 0x0A ∷ 0x00 ∷ 0x01 ∷ 0x00 ∷ 0x02 ∷ 0x02 ∷ 0x00 ∷ 0x0F ∷ []

-- "P5 Len1 15: flag 1, sum 10; Len1 16: flag 0"
abbrev pub len15 : List ℕ
len15 = 0x55 ∷ 0xAA ∷ 0x00 ∷ 0xFA ∷ 0x00 ∷ 0x03 ∷ 0x0A ∷ 0x00 ∷ 0x0F ∷ 0x15 ∷ []

abbrev pub len16 : List ℕ
len16 = 0x55 ∷ 0xAA ∷ 0x00 ∷ 0xFA ∷ 0x00 ∷ 0x03 ∷ 0x0A ∷ 0x00 ∷ 0x10 ∷ 0x16 ∷ []

abbrev pub p5 : List ℕ
p5 = 0x55 ∷ 0xAA ∷ 0x00 ∷ 0xFA ∷ 0x00 ∷ 0x07 ∷ 0x0A ∷ 0x01 ∷ 0x01 ∷ 0x00 ∷ 0x02 ∷ 0x02 ∷ 0x00 ∷ 0x10 ∷ []

-- "P6 FC offset 0 ..; granted, the reply is the same bytes"
abbrev pub p6 : List ℕ
p6 = 0x55 ∷ 0xAA ∷ 0x00 ∷ 0xFC ∷ 0x00 ∷ 0x05 ∷ 0x0A ∷ 0x00 ∷ 0x00 ∷ 0x00 ∷ 0x00 ∷ 0x0A ∷ []

-- "an FB accepted for 9 bytes": version 1.0.3, MD5 zero, CRC-32 CBF43926
abbrev pub fb9 : List ℕ
fb9 =
    0x55 ∷ 0xAA ∷ 0x10 ∷ 0xFB ∷ 0x00 ∷ 0x24 ∷ 0x0A ∷ zeros 8 ++
    (1 ∷ 0 ∷ 3 ∷ zeros 16 ++ (0 ∷ 0 ∷ 0 ∷ 9 ∷ 0xCB ∷ 0xF4 ∷ 0x39 ∷ 0x26 ∷ 0x63 ∷ []))

-- "P7 .. packet 0, text 123456789", which "carries 4B 37 and the sum 8E" (document 02, K1);
-- "P8 reply ..", whose "second answer becomes 00" (K2): sent again it gets the same reply
abbrev pub p7 : List ℕ
p7 =
    0x55 ∷ 0xAA ∷ 0x10 ∷ 0xFD ∷ 0x00 ∷ 0x10 ∷ 0x0A ∷ 0x00 ∷ 0x00 ∷ 0x00 ∷ 0x09 ∷ 0x4B ∷ 0x37
    ∷ 0x31 ∷ 0x32 ∷ 0x33 ∷ 0x34 ∷ 0x35 ∷ 0x36 ∷ 0x37 ∷ 0x38 ∷ 0x39 ∷ 0x8E ∷ []

abbrev pub p8 : List ℕ
p8 = 0x55 ∷ 0xAA ∷ 0x00 ∷ 0xFD ∷ 0x00 ∷ 0x02 ∷ 0x0A ∷ 0x00 ∷ 0x08 ∷ []

-- the end request after all nine bytes starts a check, and the portion that reads the last of them gives success
abbrev pub success : List ℕ
success = 0x55 ∷ 0xAA ∷ 0x00 ∷ 0xFE ∷ 0x00 ∷ 0x02 ∷ 0x0A ∷ 0x00 ∷ 0x09 ∷ []

-- an end request for channel 11, which is not listed
abbrev pub fe_other : List ℕ
fe_other = 0x55 ∷ 0xAA ∷ 0x00 ∷ 0xFE ∷ 0x00 ∷ 0x01 ∷ 0x0B ∷ 0x09 ∷ []

-- "P9 outward F9"
abbrev pub p9 : List ℕ
p9 = 0x55 ∷ 0xAA ∷ 0x00 ∷ 0xF9 ∷ 0x00 ∷ 0x08 ∷ 0x01 ∷ 0x0A ∷ 0x01 ∷ 0x00 ∷ 0x02 ∷ 0x01 ∷ 0x00 ∷ 0x00 ∷ 0x0F ∷ []

-- "P10 stray 55 AA 00 FE 00 01 before P1"; "P11 stray 55 AA 00 56 00 00 before P1"
abbrev pub stray10 : List ℕ
stray10 = 0x55 ∷ 0xAA ∷ 0x00 ∷ 0xFE ∷ 0x00 ∷ 0x01 ∷ []

abbrev pub stray11 : List ℕ
stray11 = 0x55 ∷ 0xAA ∷ 0x00 ∷ 0x56 ∷ 0x00 ∷ 0x00 ∷ []

-- ---- what is left

-- 123456789 in the area, and nothing
abbrev pub empty_area : List ℕ
empty_area = zeros area_size

abbrev pub nine_stored : List ℕ
nine_stored = 0x31 ∷ 0x32 ∷ 0x33 ∷ 0x34 ∷ 0x35 ∷ 0x36 ∷ 0x37 ∷ 0x38 ∷ 0x39 ∷ drop 9 empty_area

-- the bench's record, holding nothing, with this transfer
abbrev pub bench_record : Phase → ℕ → ℕ → ℕ → Identity → Check → Record
bench_record phase agreed next stored image check =
    holding_nothing (record {
      boards = board 10 ∷ replicate 9 no_board;
      count = 1;
      opened = area_size;
      transfer =
          record {
            leg = record { phase = phase; channel = 10; agreed = agreed; next = next };
            progress = record { stored = stored; last = stored };
            image = image;
            check = check;
          };
    })

-- the identity that `fb9` tells
abbrev pub nine_bytes : Identity
nine_bytes = record { channel = 10; version = 1 ∷ 0 ∷ 3 ∷ []; announced = 9; md5 = zeros 16; crc = 0xCBF43926 }

-- after P7
abbrev pub nine_taken : Phase → Check → Record
nine_taken phase check = bench_record phase 256 1 9 nine_bytes check

-- ---- the rows

-- a frame of the maker's, as the reading of a byte sequence has it
abbrev pub one_frame : ℕ → ℕ → List ℕ → Reading
one_frame version command d = record { frames = record { version = version; command = command; payload = d } ∷ []; dropped = 0 }

-- with so many bytes dropped
abbrev pub after_dropping : ℕ → Reading → Reading
after_dropping n r = record { frames = r.frames; dropped = n }

-- what is left: record and area
pub record Left : Type 0 where
  pub at : Record
  pub area : List ℕ

-- P numbers, before, bytes; then outcome, reply, taken, dropped, command, L, their reading, and what is left
abbrev pub feed_row : List ℕ → List (List ℕ) → List ℕ → ℕ → List ℕ → ℕ → ℕ → ℕ → ℕ → Reading → Left → Row
feed_row shows before bytes outcome reply taken dropped command L sequence left =
    record {
      shows = shows;
      before = before;
      action = feeds bytes;
      wanted = record {
        earlier = true;
        outcome = outcome;
        reply = reply;
        taken = taken;
        dropped = dropped;
        command = command;
        L = L;
        count = 0;
        verdict = Unfinished;
        sequence = sequence;
        at = left.at;
        room = reply ++ drop (length reply) lent_room;
        area = left.area;
      };
    }

-- P numbers, before, another action; then outcome, reply, count, verdict, and what is left
abbrev pub other_row : List ℕ → List (List ℕ) → Action → ℕ → List ℕ → ℕ → Verdict → Left → Row
other_row shows before action outcome reply count verdict left =
    record {
      shows = shows;
      before = before;
      action = action;
      wanted = record {
        earlier = true;
        outcome = outcome;
        reply = reply;
        taken = 0;
        dropped = 0;
        command = 0;
        L = 0;
        count = count;
        verdict = verdict;
        sequence = record { frames = []; dropped = 0 };
        at = left.at;
        room = reply ++ drop (length reply) lent_room;
        area = left.area;
      };
    }

abbrev pub untouched : Left
untouched = record { at = fresh; area = empty_area }

abbrev pub asking : ℕ → Left
asking agreed = record { at = bench_record Asked agreed 0 0 no_identity no_check; area = empty_area }

abbrev pub taken9 : Phase → Check → Left
taken9 phase check = record { at = nine_taken phase check; area = nine_stored }

-- a frame on channel 10, by its reading
abbrev pub fa : ℕ → ℕ → Reading
fa high low = one_frame 0x00 0xFA (0x0A ∷ high ∷ low ∷ [])

abbrev pub fe : ℕ → Reading
fe channel = one_frame 0x00 0xFE (channel ∷ [])

abbrev pub packet9 : Reading
packet9 =
    one_frame 0x10 0xFD
    (0x0A ∷ 0x00 ∷ 0x00 ∷ 0x00 ∷ 0x09 ∷ 0x4B ∷ 0x37 ∷ 0x31 ∷ 0x32 ∷ 0x33 ∷ 0x34 ∷ 0x35 ∷ 0x36 ∷ 0x37 ∷ 0x38 ∷ 0x39 ∷ [])

abbrev pub bench_table : List Row
bench_table =
    feed_row (1 ∷ 2 ∷ []) [] p1 0 p2 8 0 0xFE 1 (fe 10) untouched
    ∷ feed_row (3 ∷ 4 ∷ []) [] p3 0 p4 10 0 0xFA 3 (fa 0x01 0x00) (asking 256)
    ∷ feed_row (5 ∷ []) [] len15 0 p5 10 0 0xFA 3 (fa 0x00 0x0F) untouched
    ∷ feed_row (5 ∷ []) [] len16 0 p4 10 0 0xFA 3 (fa 0x00 0x10) (asking 16)
    ∷ feed_row (6 ∷ []) (p3 ∷ fb9 ∷ []) p6 0 p6 12 0 0xFC 5 (one_frame 0x00 0xFC (0x0A ∷ zeros 4))
    (record { at = bench_record Receiving 256 0 0 nine_bytes no_check; area = empty_area })
    ∷ feed_row (7 ∷ 8 ∷ []) (p3 ∷ fb9 ∷ p6 ∷ []) p7 0 p8 23 0 0xFD 16 packet9 (taken9 Receiving no_check)
    ∷ feed_row (7 ∷ 8 ∷ []) (p3 ∷ fb9 ∷ p6 ∷ p7 ∷ []) p7 0 p8 23 0 0xFD 16 packet9 (taken9 Receiving no_check)
    ∷ other_row (9 ∷ []) [] reports 0 p9 0 Unfinished untouched
    ∷ feed_row (10 ∷ []) [] (stray10 ++ p1) 0 p2 14 6 0xFE 1 (after_dropping 6 (fe 10)) untouched
    ∷ feed_row (11 ∷ []) [] (stray11 ++ p1) 2 [] 7 0 0x56 0 (after_dropping 7 (one_frame 0x00 0x56 [])) untouched
    ∷ feed_row [] (p3 ∷ fb9 ∷ p6 ∷ p7 ∷ []) p1 0 [] 8 0 0xFE 1 (fe 10) (taken9 Receiving started_check)
    ∷ feed_row [] (p3 ∷ fb9 ∷ p6 ∷ p7 ∷ p1 ∷ []) p1 12 [] 8 0 0xFE 1 (fe 10) (taken9 Receiving started_check)
    ∷ feed_row [] (p3 ∷ fb9 ∷ p6 ∷ p7 ∷ p1 ∷ []) p3 12 [] 10 0 0xFA 3 (fa 0x01 0x00) (taken9 Receiving started_check)
    ∷ feed_row [] (p3 ∷ fb9 ∷ p6 ∷ p7 ∷ p1 ∷ []) fe_other 4 [] 8 0 0xFE 1 (fe 11) (taken9 Receiving started_check)
    ∷ other_row [] (p3 ∷ fb9 ∷ p6 ∷ p7 ∷ p1 ∷ []) (checks 9) 0 success 9 Right (taken9 Done no_check)
    ∷ other_row [] (p3 ∷ fb9 ∷ p6 ∷ p7 ∷ p7 ∷ p1 ∷ []) (checks 10) 0 success 9 Right (taken9 Done no_check)
    ∷ other_row [] (p3 ∷ fb9 ∷ p6 ∷ p7 ∷ p1 ∷ []) (checks 8) 19 [] 8 Unfinished
    (taken9 Receiving (read_on started_check 8 nine_stored))
    ∷ other_row [] [] (checks 9) 18 [] 0 Unfinished untouched
    ∷ []

-- P1's frame
abbrev pub end_request : Frame
end_request = record { version = 0x00; command = 0xFE; payload = 0x0A ∷ [] }

-- The claim.
pub record BenchHolds : Type 0 where
  -- what each row wants is what is seen
  pub rows : map (got empty_area) bench_table ≡ map (λ r. r.wanted) bench_table
  -- P10's bytes are P1's frame with six stray bytes; to P11's "Demand 3's premise shuts this out": they are no series of P1's frame, with
  -- however many stray bytes
  pub p10_series : Series (stray10 ++ p1) (end_request ∷ []) 6
  pub p11_no_series : (n : ℕ) → Series (stray11 ++ p1) (end_request ∷ []) n → ⊥
