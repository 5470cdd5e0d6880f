-- `replies::reply::write` meets its contract. Assumes nothing.
use mathlib.Core.Path.{sym, ap, ◌∙◌}
use native.Mathlib.Omega.{arith}
use lib.Seq.{length-take-le}
use Rattle.fronts.specs.Frame.{Frame}
use Rattle.frames.specs.Buffer.{written_size, written_room}
use Rattle.commands.specs.declared.table.Row.{Row}
use Rattle.replies.proofs.Replies.{by_row, by_row_lem, no-reply, some-reply, unreplied_size, unreplied_room, replied-size, replied-room}
use Rattle.replies.proofs.reply.write.Goals as goal

pub returns-then-n-eq0 : goal.returns-then-n-eq0
returns-then-n-eq0 c =
    let a = c.args in
    let e = no-reply a.command (sym (ap (λ (r : Row). r.reply_length) c.row_of-row.ensures.is) ∙ c.if-n-eq0.true) in
    record {
      gives = sym (unreplied_size a.command a.data a.room.now e);
      leaves = sym (unreplied_room a.command a.data a.room.now e);
    }

pub slice_bounds-write-end : goal.slice_bounds-write-end
slice_bounds-write-end c = sym (length-take-le _ _ (omega arith))

pub returns : goal.returns
returns c =
    let a = c.args in
    let row = c.row_of-row in
    let e = some-reply a.command
    (λ z. c.if-n-eq0.false (ap (λ (r : Row). r.reply_length) row.ensures.is ∙ z)) in
    let f = ap (λ (r : Row). by_row r a.command a.data) row.ensures.is ∙ sym (by_row_lem a.command a.data) in
    let w = c.write.ensures in
    record {
      gives = w.gives ∙ ap (λ (g : Frame). written_size g a.room.now) f ∙ sym (replied-size a.command a.data a.room.now e);
      leaves = w.leaves ∙ ap (λ (g : Frame). written_room g a.room.now) f ∙ sym (replied-room a.command a.data a.room.now e);
    }
