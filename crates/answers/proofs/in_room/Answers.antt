-- `answers::in_room` meets its contract. Assumes nothing.
use mathlib.Core.Path.{ap}
use Rattle.text.proofs.Texts.{one, texts_as, ◌then◌}
use Rattle.values.specs.Bytes.{bytes_texts}
use Rattle.answers.proofs.in_room.Goals as goal

pub returns : goal.returns
returns c =
    one c.text.ensures
    then texts_as (ap bytes_texts c.front.ensures) c.written.ensures
    then one c.text-2.ensures
    then c.span.ensures
