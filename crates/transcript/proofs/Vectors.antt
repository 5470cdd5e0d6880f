-- Lines of docs/EXCHANGE.md, by computation from the definitions. Assumes nothing.
use mathlib.Core.Path.{refl}
use Rattle.fronts.specs.Frame.{frame_at}
use Rattle.fronts.specs.Fronts.{front_of}
use Rattle.frames.specs.Buffer.{whole_at, command_at}
use Rattle.text.specs.Decimals.{decimal_within}
use Rattle.transcript.specs.Examples.{LineExamples}

pub line_examples : LineExamples
unfolding command_at whole_at front_of frame_at decimal_within
line_examples =
    record {
      fed = refl;
      heard = refl;
      gone = refl;
      silent = refl;
      stored = refl;
      sender_end_lem = refl;
      controller_end = refl;
      area_end_lem = refl;
    }
