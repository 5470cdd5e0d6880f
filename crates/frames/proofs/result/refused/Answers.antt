-- `frames::result::refused` meets its contract. Assumes nothing.
use Rattle.frames.proofs.result.refused.Goals as goal

pub returns : goal.returns
returns c = cc
