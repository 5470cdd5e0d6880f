-- `sender::sender::Sender::judge` meets its contract. Assumes nothing.
use mathlib.Core.Path.{◌∙◌, sym}
use Rattle.commands.specs.Outcomes.{wrong_reply}
use Rattle.sender.specs.Decisions.{nothing_decided}
use Rattle.sender.specs.Replies.{judged_in}
use Rattle.sender.proofs.Phases.{final_choice, left_final}
use Rattle.sender.proofs.Packets.{at-packet}
use Rattle.sender.proofs.sender.Sender.judge.Goals as goal

pub judge_fd-requires : goal.judge_fd-requires
judge_fd-requires c =
    at-packet c.args.self c.requires c.in-Sending.is

pub returns-in-Asking : goal.returns-in-Asking
unfolding judged_in
returns-in-Asking c = simp (c.in-Asking.is, c.fa.ensures, c.judge_fa.ensures)

pub returns-in-Telling : goal.returns-in-Telling
unfolding judged_in
returns-in-Telling c = simp (c.in-Telling.is, c.fb.ensures, c.judge_fb.ensures)

pub returns-in-Placing : goal.returns-in-Placing
unfolding judged_in
returns-in-Placing c = simp (c.in-Placing.is, c.fc.ensures, c.judge_fc.ensures)

pub returns-in-Sending : goal.returns-in-Sending
unfolding judged_in
returns-in-Sending c = simp (c.in-Sending.is, c.state.ensures, c.judge_fd.ensures)

pub returns-in-Ending : goal.returns-in-Ending
unfolding judged_in
returns-in-Ending c = simp (c.in-Ending.is, c.state-in-Ending.ensures, c.judge_fe.ensures)

pub returns-in_default : goal.returns-in_default
unfolding judged_in
returns-in_default c =
    let s = c.args.self in
    let phase = s.position.phase in
    c.wrong_reply.ensures ∙ sym (final_choice phase _ _ _ _ _ (nothing_decided s wrong_reply) (left_final phase c.in_default.not-Asking c.in_default.not-Telling c.in_default.not-Placing c.in_default.not-Sending c.in_default.not-Ending))
