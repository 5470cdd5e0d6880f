-- Lines of small buffers, by computation from the definitions. Assumes nothing.
use Rattle.std.proofs.Common.{refl}
use Rattle.lines.specs.Lines.{index_of, index_after, next_of}
use Rattle.lines.specs.Examples.{NextExamples}

pub next_examples : NextExamples
unfolding index_of index_after next_of
next_examples =
    record {
      first = refl;
      second = refl;
      rest = refl;
      last = refl;
      none = refl;
      no_bytes = refl;
      nothing_read = refl;
      full = refl;
      too_long = refl;
    }
