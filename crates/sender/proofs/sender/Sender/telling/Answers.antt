-- `sender::sender::Sender::telling` meets its contract. Assumes nothing.
use Rattle.sender.proofs.sender.Sender.telling.Goals as goal

pub returns : goal.returns
returns c = simp (← c.checksum.ensures, c.fb.ensures)
