-- Document 02, K2: "The record gains the last packet's length, 0 after FC and whenever stored becomes 0; while it is 0 the test never
-- holds." Assumes nothing.
use Rattle.std.specs.Prelude.{◌≡◌, true, false, List, ℕ, length}
use Rattle.image.specs.declared.check.Check.{Check}
use Rattle.image.specs.declared.check.Verdict.TheVariants.{Unfinished}
use Rattle.commands.specs.States.{granted}
use Rattle.requests.specs.declared.request.RequestFA.{RequestFA}
use Rattle.requests.specs.declared.request.RequestFB.{RequestFB}
use Rattle.requests.specs.declared.request.RequestFC.{RequestFC}
use Rattle.requests.specs.declared.request.RequestFD.{RequestFD}
use Rattle.boards.specs.declared.board.Board.{Board}
use Rattle.transfer.specs.declared.state.Transfer.{Transfer}
use Rattle.agreement.specs.FA.{answer_fa}
use Rattle.agreement.specs.FB.{identity_of, same_identity, state_fb, answer_fb}
use Rattle.agreement.specs.FC.{answer_fc}
use Rattle.packets.specs.FD.{repeats}
use Rattle.ending.specs.FE.{answer_fe, ended_fe}
use Rattle.ending.specs.Portions.{step_by}

-- what holds of every transfer
pub record LastLength (t : Transfer) : Type 0 where
  -- FC, even where the offset is what is stored
  pub fc-none : (r : RequestFC) → (answer_fc t r).answered ≡ true → (answer_fc t r).transfer.progress.last ≡ 0
  -- another identity in FB, and a failed end check
  pub fb-none : (b : Board) (r : RequestFB) (area : List ℕ) → (answer_fb t b r area).answered ≡ true → state_fb b r (length area) ≡ granted
      → same_identity (identity_of r) t.image ≡ false → (answer_fb t b r area).transfer.progress.last ≡ 0
  pub fe-none : (ended_fe t false).transfer.progress.last ≡ 0
  -- FE keeps it, and so do an unfinished portion and a right verdict
  pub fe-kept : (channel : ℕ) → (answer_fe t channel).transfer.progress.last ≡ t.progress.last
  pub on-kept : (c : Check) → (step_by Unfinished t c).transfer.progress.last ≡ t.progress.last
  pub right_kept : (ended_fe t true).transfer.progress.last ≡ t.progress.last
  -- FA and FB with the same identity keep it
  pub fa-kept : (b : Board) (r : RequestFA) → (answer_fa t b r).transfer.progress.last ≡ t.progress.last
  pub fb-kept : (b : Board) (r : RequestFB) (area : List ℕ) → same_identity (identity_of r) t.image ≡ true
      → (answer_fb t b r area).transfer.progress.last ≡ t.progress.last
  -- and so does a refused FB, whatever its identity
  pub fb-refused : (b : Board) (r : RequestFB) (area : List ℕ) → (state_fb b r (length area) ≡ granted → ⊥)
      → (answer_fb t b r area).transfer.progress.last ≡ t.progress.last
  -- while it is 0 no packet is a repeated one; nor is one while the next number is 0, which has no number below it
  pub never : t.progress.last ≡ 0 → (r : RequestFD) (p area : List ℕ) → repeats t r p area ≡ false
  pub first-never : t.leg.next ≡ 0 → (r : RequestFD) (p area : List ℕ) → repeats t r p area ≡ false

-- The claim.
abbrev pub LastLengths : Type 0
LastLengths = (t : Transfer) → LastLength t
