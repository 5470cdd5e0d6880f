-- 01, "Outcome numbers": "Opening that succeeds gives outcome 0 and the fresh record", and 7 and 8 "no usable record". Assumes nothing.
use Rattle.std.specs.Prelude.{◌≡◌, ◌↔◌, true, false, List, ℕ, ◌≤◌, length}
use Rattle.boards.specs.declared.board.Board.{Board}
use Rattle.boards.specs.Boards.{max_boards, GoodList}
use Rattle.commands.specs.Outcomes.{accepted, bad_area_length, bad_boards}
use Rattle.session.specs.Opening.{no_session, fresh_session, opened}
use Rattle.session.specs.Lawful.{unlawful}
use Rattle.commands.specs.Limits.{max_area}

-- opening gives the fresh session, and it is lawful
pub record Usable (bs : List Board) (n area : ℕ) : Type 0 where
  pub fresh : (opened bs n area).session ≡ fresh_session bs n area
  pub lawful : unlawful (opened bs n area).session ≡ false

-- "the area's length, 1 to 1,048,576"
abbrev pub GoodArea : ℕ → Type 0
GoodArea area = (1 ≤ area) × (area ≤ max_area)

-- The claim.
pub record SessionOpens : Type 0 where
  -- "opening 8, then 7": 8 exactly when the list breaks its rule, 7 exactly when the area's length alone does, 0 exactly when neither does
  pub eight : (bs : List Board) (n area : ℕ) → ((opened bs n area).outcome ≡ bad_boards) ↔ (GoodList bs n → ⊥)
  pub seven : (bs : List Board) (n area : ℕ) → ((opened bs n area).outcome ≡ bad_area_length) ↔ (GoodList bs n × (GoodArea area → ⊥))
  pub none : (bs : List Board) (n area : ℕ) → ((opened bs n area).outcome ≡ accepted) ↔ (GoodList bs n × GoodArea area)
  pub usable : (bs : List Board) (n area : ℕ) → length bs ≡ max_boards → (opened bs n area).outcome ≡ accepted → Usable bs n area
  -- a refused opening hands back the all-zero session, which meets 9
  pub refused : (bs : List Board) (n area : ℕ) → ((opened bs n area).outcome ≡ accepted → ⊥) → (opened bs n area).session ≡ no_session
  pub none-unlawful : unlawful no_session ≡ true
