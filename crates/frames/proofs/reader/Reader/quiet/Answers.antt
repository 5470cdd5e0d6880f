-- `frames::reader::Reader::quiet` meets its contract. Assumes nothing.
use mathlib.Core.Path.{sym, ◌∙◌}
use Rattle.frames.proofs.Calls.{quieted-accepted, quieted-refused}
use Rattle.frames.proofs.reader.Reader.quiet.Goals as goal

pub returns-then-self-gt-MAX_FRAME : goal.returns-then-self-gt-MAX_FRAME
returns-then-self-gt-MAX_FRAME c = c.refused.ensures ∙ sym (quieted-refused c.args.self c.if-self-gt-MAX_FRAME.true)

pub returns : goal.returns
returns c =
    c.quiet_held.ensures ∙ sym (quieted-accepted c.args.self c.if-self-gt-MAX_FRAME.false)
