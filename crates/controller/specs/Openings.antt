-- 01, "Outcome numbers": what opening hands back. Assumes nothing.
use Rattle.std.specs.Prelude.{◌≡◌, true, List, ℕ, length}
use Rattle.boards.specs.declared.board.Board.{Board}
use Rattle.boards.specs.Boards.{max_boards}
use Rattle.commands.specs.Outcomes.{accepted}
use Rattle.controller.specs.Records.{unlawful_record, fresh_record, no_record, opened_record}
use Rattle.controller.specs.Demand3.{RunStart}

pub record HandsBack (bs : List Board) (n size : ℕ) : Type 0 where
  -- "Opening that succeeds gives outcome 0 and the fresh record", from which a run can start on every area of that length
  pub fresh : (opened_record bs n size).outcome ≡ accepted → (opened_record bs n size).next ≡ fresh_record bs n size
  pub usable : (opened_record bs n size).outcome ≡ accepted → (area : List ℕ) → length area ≡ size
      → RunStart (opened_record bs n size).next area
  -- "no usable record": all zero
  pub zero : ((opened_record bs n size).outcome ≡ accepted → ⊥) → (opened_record bs n size).next ≡ no_record

-- The claim.
pub record RecordOpens : Type 0 where
  pub opens : (bs : List Board) (n size : ℕ) → length bs ≡ max_boards → HandsBack bs n size
  -- "An unusable record is all zero and itself meets 9."
  pub none-refused : unlawful_record no_record ≡ true
