-- `transcript::stored` meets its contract. Assumes nothing.
use Rattle.text.proofs.Texts.{one_as, ◌then◌}
use Rattle.transcript.proofs.stored.Goals as goal

pub returns : goal.returns
returns c = c.stored_of.ensures then one_as c.as_in_image.ensures c.text.ensures
