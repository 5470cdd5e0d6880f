-- `desk::telling::line` meets its contract. Assumes nothing.
use Rattle.text.proofs.Texts.{◌then◌}
use Rattle.desk.proofs.telling.line.Goals as goal

pub returns : goal.returns
returns c = c.begun.ensures then c.ended.ensures
