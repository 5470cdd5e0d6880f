-- `desk::desk::Desk::with_board` meets its contract. Assumes nothing.
use Rattle.desk.proofs.desk.Desk.with_board.Goals as goal

pub returns : goal.returns
returns c = simp (c.placed-self.ensures, c.said-board.ensures)
