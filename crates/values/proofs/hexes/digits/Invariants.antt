-- `values::hexes::digits` meets its contract. The loop's invariant: the digits of the bytes so far are put. Assumes nothing.
use lib.ListN.{take}
use Rattle.text.specs.Outputs.{TextsAdded}
use Rattle.values.specs.Bytes.{digit_texts}
use Rattle.values.proofs.hexes.digits.Given as goal

abbrev pub invariant-loop-b : goal.invariant-loop-b
invariant-loop-b l = TextsAdded l.initial.output (digit_texts (take l.b-index l.bytes)) l.output
