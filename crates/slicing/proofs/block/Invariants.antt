-- `slicing::block` meets its contract. The loop's invariant: by right tables, with the entries of the bytes from the i-th on, all are
-- added. Assumes nothing.
use mathlib.Core.Path.{◌≡◌}
use Prim.Native.Nat.{◌-◌}
use lib.Bits.{bit_xor}
use lib.ListN.{length}
use Rattle.crc.specs.Crc.{Kind, update}
use Rattle.crc.proofs.Slicing.{entries}
use Rattle.slicing.specs.Kinds.{Goes}
use Rattle.slicing.proofs.block.Given as goal

abbrev pub invariant-loop-i : goal.invariant-loop-i
invariant-loop-i g l = (k : Kind) → Goes k g.T.Register.Register.width l.d → g.T.Tables.are_right k l.t
    → bit_xor (g.T.Register.Register.number l.sum) (entries k 0 (g.T.Register.Register.number l.left) l.b l.i (length l.b - l.i))
    ≡ update k (g.T.Register.Register.number l.fn.register) l.b
