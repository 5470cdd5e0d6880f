-- `text::hex::bytes` meets its contract. The loop's invariant: the digits of the bytes so far are written. Assumes nothing.
use mathlib.Core.Path.{◌≡◌}
use Rattle.text.proofs.Hexes.{written}
use Rattle.text.proofs.hex.bytes.Given as goal

abbrev pub invariant-loop-i : goal.invariant-loop-i
invariant-loop-i l = l.room ≡ written l.s l.initial.room l.i
