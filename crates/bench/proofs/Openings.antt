-- Opening the bench's board is not refused. Assumes nothing.
use mathlib.Core.Path.{◌≡◌, refl}
use mathlib.Core.List.{◌∷◌}
use Prim.Native.Nat.{ℕ, ◌≤◌}
use borrow.Author.Tests.{le-ltb}
use lib.ListN.{replicate}
use Rattle.sequences.specs.Search.{find}
use Rattle.boards.specs.Boards.{no_board, place_of, bad_list}
use Rattle.session.specs.Opening as session
use Rattle.controller.specs.Records.{opened_record}
use Rattle.controller.specs.Bench.{board, area_size, opened_on}
use Rattle.controller.proofs.Openings.{opens}
use Rattle.bench.specs.Boards.{fresh_on}

pub opens-fresh : (channel : ℕ) → 10 ≤ channel → channel ≤ 19 → opened_on channel ≡ fresh_on channel
unfolding opened_record bad_list place_of find session.opened
opens-fresh channel least most =
    (opens (board channel ∷ replicate 9 no_board) 1 area_size refl).fresh (simp (le-ltb _ _ least, le-ltb _ _ most))
