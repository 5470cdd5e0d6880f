-- `sender::sender::Sender::judge_fb` meets its contract. Assumes nothing.
use borrow.Author.Tests.{eq-eqb, ne_eqb, le-ltb, lt-ltb}
use Rattle.sender.specs.Replies.{judged_fb}
use Rattle.sender.proofs.sender.Sender.judge_fb.Goals as goal

pub returns-then-told-gt-FB_BAD_LENGTH : goal.returns-then-told-gt-FB_BAD_LENGTH
unfolding judged_fb
returns-then-told-gt-FB_BAD_LENGTH c = simp (lt-ltb _ _ c.if-told-gt-FB_BAD_LENGTH.true, c.wrong_reply.ensures)

pub returns-then-told-eq-GRANTED : goal.returns-then-told-eq-GRANTED
unfolding judged_fb
returns-then-told-eq-GRANTED c =
    simp (
      le-ltb _ _ c.if-told-gt-FB_BAD_LENGTH.false,
      eq-eqb _ _ c.if-told-eq-GRANTED.true,
      ← c.resume_at-place.ensures,
      c.moved_to.ensures,
      c.to.ensures,
    )

pub returns : goal.returns
unfolding judged_fb
returns c =
    simp
    (le-ltb _ _ c.if-told-gt-FB_BAD_LENGTH.false, ne_eqb _ _ c.if-told-eq-GRANTED.false, c.given_up.ensures)
