-- `desk::desk::Desk::empty` meets its contract. Assumes nothing.
use Rattle.desk.proofs.desk.Desk.empty.Goals as goal

pub returns : goal.returns
returns c = simp (c.no_board.ensures, c.no_record.ensures, c.none.ensures)
