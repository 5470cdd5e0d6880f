-- `changes::record::check` meets its contract. Assumes nothing.
use mathlib.Core.Path.{ap₂}
use Rattle.text.specs.Ascii.{ascii}
use Rattle.text.proofs.Texts.{texts_as, ◌then◌}
use Rattle.values.specs.Fields.{number_field}
use Rattle.changes.proofs.record.check.Goals as goal

pub returns : goal.returns
returns c =
    let told = ap₂ (number_field (ascii " checking=")) c.bit-was.ensures c.bit-is.ensures in
    texts_as told c.number.ensures then c.number-2.ensures then c.four_bytes.ensures
