-- `folding::message::put_head` meets its contract. The loop's invariant: with the bytes from the i-th on, all are put down. Assumes nothing.
use mathlib.Core.Path.{◌≡◌}
use Prim.Native.Nat.{◌+◌, ◌-◌}
use lib.ListN.{take, drop}
use lib.Seq.{sets}
use Rattle.crc.specs.Crc.{Kind}
use Rattle.crc.specs.Folding.{met}
use Rattle.slicing.specs.Kinds.{Goes}
use Rattle.folding.proofs.message.put_head.Given as goal

abbrev pub invariant-loop-i : goal.invariant-loop-i
invariant-loop-i g l = (k : Kind) → Goes k g.R.Register.width l.f.direction
    → sets l.b (l.at + l.i) (met k (g.R.Register.number l.left) (take (g.R.Register.BYTES - l.i) (drop l.i l.s)))
    ≡ sets l.initial.b l.at (met k (g.R.Register.number l.fn.register) (take g.R.Register.BYTES l.s))
