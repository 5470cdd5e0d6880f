-- Where a replay stands: it feeds what it reads, and "tells quiet at its end", that of the capture. Assumes nothing.
use Rattle.std.specs.Prelude.{◌≡◌, ℕ, ◌<◌, Bool, true, false, cond, ◌⊎◌, ◌==◌, nat_lt}
use Rattle.controller.specs.declared.record.Record.{Record}
use Rattle.capture.specs.declared.stage.Stage.{Stage}
use Rattle.capture.specs.declared.stage.Stage.TheVariants.{Feeding, Quiet, Ended, ReadFailed}

-- nothing is to be done in this stage any more
abbrev pub no_more : Stage → Bool
no_more Feeding = false
no_more Quiet = false
no_more Ended = true
no_more ReadFailed = true

abbrev pub read_failed : Stage → Bool
read_failed Feeding = false
read_failed Quiet = false
read_failed Ended = false
read_failed ReadFailed = true

-- after a read: its bytes are to be fed; where there are none, it failed or the input is at its end
abbrev pub stage_read : Bool → ℕ → Stage
stage_read is-failed end = cond (nat_lt 0 end) Feeding (cond is-failed ReadFailed Quiet)

-- the same, whether or not it failed
pub record AfterRead (end : ℕ) (stage : Stage) : Type 0 where
  pub some : 0 < end → stage ≡ Feeding
  pub none : end ≡ 0 → (stage ≡ Quiet) ⊎ (stage ≡ ReadFailed)

-- quiet is told again until nothing is held
abbrev pub stage_quiet : Record → Stage
stage_quiet r = cond (r.reader.count == 0) Ended Quiet
