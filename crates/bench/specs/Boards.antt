-- The bench's board is opened. What board that is, controller/specs/Bench.antt says. Assumes nothing.
use Rattle.std.specs.Prelude.{◌≡◌, ◌∷◌, ℕ, ◌≤◌, replicate}
use Rattle.boards.specs.Boards.{no_board}
use Rattle.controller.specs.declared.record.Record.{Record}
use Rattle.controller.specs.Records.{fresh_record}
use Rattle.controller.specs.Bench.{board, area_size, opened_on}

-- "A fresh record has its list and opened length"
abbrev pub fresh_on : ℕ → Record
fresh_on channel = fresh_record (board channel ∷ replicate 9 no_board) 1 area_size

-- what opening gives, and that this is the fresh record: a channel from 10 to 19 is not refused
pub record Opens (channel : ℕ) (r : Record) : Type 0 where
  pub gives : r ≡ opened_on channel
  pub fresh : 10 ≤ channel → channel ≤ 19 → r ≡ fresh_on channel
