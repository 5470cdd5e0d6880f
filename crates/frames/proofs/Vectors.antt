-- The examples hold, by computation from the definitions. Assumes nothing.
use mathlib.Core.Path.{refl}
use Rattle.fronts.specs.Frame.{frame_at}
use Rattle.fronts.specs.Fronts.{front_of}
use Rattle.frames.specs.Finished.{finished}
use Rattle.frames.specs.LiveReading.{with_frame, looking, feeding_call, quiet_call, fed, quieted}
use Rattle.frames.specs.Examples.{LengthExamples, LiveExamples}

pub length_examples : LengthExamples
unfolding front_of
length_examples = record { longest = refl; too_long = refl; too_high = refl }

pub live_examples : LiveExamples
unfolding frame_at front_of with_frame looking feeding_call quiet_call fed quieted finished
live_examples = record { p10_cut = refl; held_first = refl; too_high_fed = refl; unfinished = refl; nothing_left = refl }
