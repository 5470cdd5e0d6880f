-- `carrier::carrier::Carrier::empty` meets its contract. Assumes nothing.
use Rattle.carrier.proofs.carrier.Carrier.empty.Goals as goal

pub returns : goal.returns
returns c = simp c.empty.ensures
