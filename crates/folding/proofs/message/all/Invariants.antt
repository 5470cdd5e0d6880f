-- `folding::message::all` meets its contract. The loop's invariant: the register is carried on over the parts so far. Assumes nothing.
use mathlib.Core.Path.{◌≡◌}
use Prim.Native.Nat.{◌-◌}
use lib.ListN.{length}
use Rattle.std.specs.Slice.Iter.{chunks_rest, chunks_size}
use Rattle.crc.specs.Crc.{Kind}
use Rattle.crc.specs.Folding.{Within, Multiple}
use Rattle.crc.proofs.Parts.{Carrying}
use Rattle.folding.proofs.message.all.Given as goal

abbrev pub invariant-loop-piece : goal.invariant-loop-piece
invariant-loop-piece g l = record {
  size : chunks_size l.piece-iterator ≡ length l.initial.b - l.f.far - l.f.far;
  carried : (k : Kind) → Within 1 l.f.far l.f.offsets → Multiple k l.f.far l.f.offsets
      → Carrying k l.f.far l.f.offsets l.s l.initial.b l.b (chunks_rest l.piece-iterator);
}
