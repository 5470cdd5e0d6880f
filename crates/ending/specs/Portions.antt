-- Document 02, K5: "The call that reads the last byte gives the verdict and FE's reply, makes FE's changes and zeroes the check's own
-- fields". Here of a check that runs. Assumes nothing.
use Rattle.std.specs.Prelude.{Bool, true, false, List, ℕ}
use Rattle.image.specs.declared.check.Check.{Check}
use Rattle.image.specs.declared.check.Verdict.{Verdict}
use Rattle.image.specs.declared.check.Verdict.TheVariants.{Unfinished, Right, Wrong}
use Rattle.image.specs.Checks.{left_unread, portion_of, has_crc, will_pass}
use Rattle.ending.specs.declared.check.CheckStep.{CheckStep}
use Rattle.transfer.specs.declared.state.Transfer.{Transfer}
use Rattle.transfer.specs.declared.state.Step.{Step}
use Rattle.transfer.specs.Transfers.{with_check, noted}
use Rattle.ending.specs.FE.{ended_fe}

-- what becomes of the transfer: it goes on with the check, or the check ends
abbrev pub step_by : Verdict → Transfer → Check → Step
step_by Unfinished t c = noted (with_check t c)
step_by Right t c = ended_fe t true
step_by Wrong t c = ended_fe t false

unfoldable pub check_step : Transfer → ℕ → List ℕ → CheckStep
check_step t most area =
    let p = portion_of t.check most t.image.announced t.image.crc area in
    record { count = p.count; verdict = p.verdict; step = step_by p.verdict t p.check }

-- "what is left unread"
abbrev pub unread : Transfer → ℕ
unread t = left_unread t.check t.image.announced

-- what the check will say once it has read on to the end
abbrev pub will_say : Transfer → List ℕ → Bool
will_say t area = will_pass t.check t.image.announced t.image.crc area

-- what it says in one go
abbrev pub right_crc : Transfer → List ℕ → Bool
right_crc t area = has_crc t.image.announced t.image.crc area
