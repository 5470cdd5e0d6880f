-- `frames::result::no_frame` meets its contract. Assumes nothing.
use mathlib.Core.Path.{refl}
use Rattle.frames.specs.Finished.{finished}
use Rattle.frames.proofs.result.no_frame.Goals as goal

pub returns : goal.returns
unfolding finished
returns c = refl
