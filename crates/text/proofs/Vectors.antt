-- Numbers as they read, by computation from the definitions. Assumes nothing.
use mathlib.Core.Path.{refl}
use Rattle.text.specs.Decimals.{decimal_within}
use Rattle.text.specs.Examples.{NumberExamples}

pub number_examples : NumberExamples
unfolding decimal_within
number_examples = record { nothing = refl; most = refl; zeros_in_front = refl; no-digits = refl; six-digits = refl; a_letter = refl }
