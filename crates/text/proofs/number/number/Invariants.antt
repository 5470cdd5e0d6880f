-- `text::number::number` meets its contract. The loop's invariant: the first digits say n, which is less than 10 ^ their count. Assumes nothing.
use mathlib.Core.Path.{◌≡◌}
use Prim.Native.Nat.{◌≤◌, ◌<◌, ◌^◌}
use lib.ListN.{length, drop}
use Rattle.text.specs.Numbers.{said_behind, number_said}
use Rattle.text.proofs.number.number.Given as goal

abbrev pub invariant-loop-b : goal.invariant-loop-b
invariant-loop-b l = record {
  few : length l.digits ≤ 5;
  below : l.n < 10 ^ l.b-index;
  says : number_said l.digits ≡ said_behind l.n (drop l.b-index l.digits);
}
