-- `phrases::number::number_if` meets its contract. Assumes nothing.
use Rattle.phrases.proofs.number.number_if.Goals as goal

pub returns-then-is_taken : goal.returns-then-is_taken
returns-then-is_taken c = simp (c.if-is_taken.true, c.number_in.ensures)

pub returns : goal.returns
returns c = simp c.if-is_taken.false
