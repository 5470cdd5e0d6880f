-- `frames::reader::Reader::feed` meets its contract. Assumes nothing.
use mathlib.Core.Path.{sym, ◌∙◌}
use Rattle.frames.proofs.Calls.{fed-accepted, fed-refused}
use Rattle.frames.proofs.reader.Reader.feed.Goals as goal

pub returns-then-self-gt-MAX_FRAME : goal.returns-then-self-gt-MAX_FRAME
returns-then-self-gt-MAX_FRAME c = let o = c.args in c.refused.ensures
    ∙ sym (fed-refused o.self o.input.now c.if-self-gt-MAX_FRAME.true)

pub returns : goal.returns
returns c = let o = c.args in
    c.feed_held.ensures ∙ sym (fed-accepted o.self o.input.now c.if-self-gt-MAX_FRAME.false)
