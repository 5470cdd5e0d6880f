-- `desk::run::Run::start` meets its contract. Assumes nothing.
use Rattle.desk.proofs.run.Run.start.Goals as goal

pub returns : goal.returns
returns c = simp (c.empty.ensures, c.none.ensures)
