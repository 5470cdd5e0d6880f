-- `desk::telling::bad` meets its contract. Assumes nothing.
use Rattle.text.proofs.Texts.{◌then◌}
use Rattle.desk.proofs.telling.bad.Goals as goal

pub returns : goal.returns
returns c = c.begun.ensures then c.tell.ensures then c.ended.ensures
