-- `sender::sender::Sender::frame` meets its contract. Assumes nothing.
use mathlib.Core.Path.{◌≡◌, sym, ap, ◌∙◌}
use Rattle.frames.specs.Finished.{finished}
use Rattle.frames.specs.LiveReading.{no_frame}
use Rattle.frames.proofs.FinishedFrames.{no_data_lem}
use Rattle.sender.specs.Requests.{request_of}
use Rattle.sender.proofs.Phases.{final_choice, left_final}
use Rattle.sender.proofs.sender.Sender.frame.Goals as goal

pub returns-in-Asking : goal.returns-in-Asking
unfolding request_of
returns-in-Asking c = simp (c.in-Asking.is, c.fa.ensures)

pub returns-in-Telling : goal.returns-in-Telling
unfolding request_of
returns-in-Telling c = simp (c.in-Telling.is, c.telling.ensures)

pub returns-in-Placing : goal.returns-in-Placing
unfolding request_of
returns-in-Placing c = simp (c.in-Placing.is, c.fc.ensures)

pub returns-in-Sending : goal.returns-in-Sending
unfolding request_of
returns-in-Sending c = simp (c.in-Sending.is, c.sending.ensures)

pub returns-in-Ending : goal.returns-in-Ending
unfolding request_of
returns-in-Ending c = simp (c.in-Ending.is, c.fe.ensures)

pub returns-in_default : goal.returns-in_default
unfolding request_of
returns-in_default c =
    let a = c.args in
    let phase = a.self.position.phase in
    let none : request_of a.self a.image.now ≡ no_frame =
    final_choice phase _ _ _ _ _ no_frame (left_final phase c.in_default.not-Asking c.in_default.not-Telling c.in_default.not-Placing c.in_default.not-Sending c.in_default.not-Ending) in
    c.empty.ensures ∙ no_data_lem 0 0 ∙ sym (ap finished none)
