-- 01, "Outcome numbers": outcome 0 is no refusal. Assumes nothing.
use Rattle.std.specs.Prelude.{cond, Option, None, Some}
use Rattle.commands.specs.declared.outcome.Outcome.{Outcome}
use Rattle.commands.specs.Outcomes.{accepted, same_outcome}

-- the refusal, where there is one
abbrev pub if_refused : Outcome → Option Outcome
if_refused a = cond (same_outcome a accepted) None (Some a)
