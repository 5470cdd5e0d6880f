-- `slicing::over` meets its contract. The loop's invariant: whole blocks are left, and by right tables they carry c on to the register after
-- all blocks. Assumes nothing.
use mathlib.Core.Path.{◌≡◌}
use Prim.Native.Nat.{◌-◌, ◌%◌}
use lib.ListN.{length, take}
use Rattle.std.specs.Slice.Iter.{chunks_exact_rest, chunks_exact_size}
use Rattle.crc.specs.Crc.{Kind, update}
use Rattle.slicing.specs.Kinds.{Goes}
use Rattle.slicing.proofs.over.Given as goal

abbrev pub invariant-loop-b : goal.invariant-loop-b
invariant-loop-b g l = record {
  size : chunks_exact_size l.b-iterator ≡ g.T.Tables.COUNT;
  whole : length (chunks_exact_rest l.b-iterator) % g.T.Tables.COUNT ≡ 0;
  reached : (k : Kind) → Goes k g.T.Register.Register.width l.d → g.T.Tables.are_right k l.t
      → update k (g.T.Register.Register.number l.c) (chunks_exact_rest l.b-iterator)
      ≡ update k (g.T.Register.Register.number l.fn.register) (take (length l.s - length l.s % g.T.Tables.COUNT) l.s);
}
