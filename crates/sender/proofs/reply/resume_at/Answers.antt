-- `sender::reply::resume_at` meets its contract. Assumes nothing.
use mathlib.Core.Path.{sym}
use native.Mathlib.Omega.{arith}
use lib.Seq.{length-take-le}
use borrow.Author.Tests.{eq-eqb, le-ltb, lt-ltb, ne_eqb}
use Rattle.sender.specs.Replies.{resume_at}
use Rattle.sender.proofs.reply.resume_at.Goals as goal

pub returns-then-image-told : goal.returns-then-image-told
unfolding resume_at
returns-then-image-told c = simp (lt-ltb _ _ c.if-image-told.true)

pub slice_bounds-checksum-end : goal.slice_bounds-checksum-end
slice_bounds-checksum-end c =
    let a = c.args in
    sym (length-take-le a.told.stored a.image.now (omega arith))

pub returns-then-crc-told : goal.returns-then-crc-told
unfolding resume_at
returns-then-crc-told c = simp (le-ltb _ _ c.if-image-told.false, ← c.checksum-crc.ensures, eq-eqb _ _ c.if-crc-told.true)

pub returns-else-crc-told : goal.returns-else-crc-told
unfolding resume_at
returns-else-crc-told c = simp (le-ltb _ _ c.if-image-told.false, ← c.checksum-crc.ensures, ne_eqb _ _ c.if-crc-told.false)
