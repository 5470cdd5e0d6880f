-- Requests made field by field. Assumes nothing.
use mathlib.Core.Path.{◌≡◌, ap₂, ◌∙◌}
use mathlib.Core.List.{List, ◌++◌}
use Prim.Native.Nat.{ℕ, ◌+◌, ◌≤◌}
use lib.ListN.{length}
use Rattle.frames.specs.declared.finished.FinishedFrame.{FinishedFrame}
use Rattle.fronts.specs.Frame.{max_data}
use Rattle.frames.specs.Finished.{finished, extended}
use Rattle.frames.proofs.FinishedFrames.{extended-finished}
use Rattle.requests.specs.RequestFrames.{request_frame}

-- a field t more behind the data d
pub with_field : (command : ℕ) (d t : List ℕ) {f : FinishedFrame} {u : List ℕ} → f ≡ finished (request_frame command d) → u ≡ t
    → length d + length t ≤ max_data → extended f u ≡ finished (request_frame command (d ++ t))
unfolding request_frame
with_field command d t e p fits = ap₂ extended e p ∙ extended-finished (request_frame command d) t fits
