-- `phrases::pairs::decode` meets its contract. The loop's invariant: the first i bytes are written, and the pairs of the others stand from
-- the place on. Assumes nothing.
use mathlib.Core.Path.{◌≡◌}
use lib.ListN.{length}
use Rattle.phrases.specs.Pairs.{bytes_in}
use Rattle.phrases.proofs.Hexes.{ToCome}
use Rattle.phrases.proofs.Hexes.{written}
use Rattle.phrases.proofs.pairs.decode.Given as goal

abbrev pub invariant-loop-i : goal.invariant-loop-i
invariant-loop-i l =
    ToCome l.s l.at l.i × ((length l.bytes ≡ length l.initial.bytes) × (l.bytes ≡ written l.initial.bytes (bytes_in l.s) l.i))
