-- `desk::desk::no_record` meets its contract. Assumes nothing.
use Rattle.desk.proofs.desk.no_record.Goals as goal

pub returns : goal.returns
returns c = simp c.none.ensures
