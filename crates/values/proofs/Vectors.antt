-- BYTES and SPAN as docs/CONSOLE.md has them, by computation from the definitions. Assumes nothing.
use mathlib.Core.Path.{refl}
use Rattle.sequences.specs.Search.{find}
use Rattle.text.specs.Decimals.{decimal_within}
use Rattle.values.specs.Spans.{behind_last}
use Rattle.values.specs.Examples.{ValueExamples}

pub value_examples : ValueExamples
unfolding find behind_last decimal_within
value_examples = record { no_bytes = refl; some_bytes = refl; span = refl; span-behind = refl; no_span = refl }
