-- The state of a transfer, the ways in which a command or a portion of the end check changes it, and what these answer. Assumes nothing.
use Rattle.std.specs.Prelude.{Bool, true, false, not, Some, None, List, ℕ, eqb}
use Rattle.sequences.specs.Padding.{padded}
use Rattle.image.specs.declared.check.Check.{Check}
use Rattle.image.specs.Progresses.{progress_from}
use Rattle.image.specs.Checks.{no_check}
use Rattle.commands.specs.Limits.{max_reply}
use Rattle.transfer.specs.declared.phase.Phase.{Phase}
use Rattle.transfer.specs.declared.phase.Phase.TheVariants.{Idle}
use Rattle.transfer.specs.declared.identity.Identity.{Identity}
use Rattle.transfer.specs.declared.state.Leg.{Leg}
use Rattle.transfer.specs.declared.state.Transfer.{Transfer}
use Rattle.transfer.specs.declared.state.Step.{Step}
use Rattle.transfer.specs.Identities.{no_identity}

-- idle and otherwise zero
abbrev pub no_leg : Leg
no_leg = record { phase = Idle; channel = 0; agreed = 0; next = 0 }

abbrev pub no_transfer : Transfer
no_transfer = record { leg = no_leg; progress = progress_from 0; image = no_identity; check = no_check }

-- ---- the changes, each of one group but for `replaced`

abbrev pub in_phase : Leg → Phase → Leg
in_phase l phase = record { phase = phase; channel = l.channel; agreed = l.agreed; next = l.next }

abbrev pub with_leg : Transfer → Leg → Transfer
with_leg t leg = record { leg = leg; progress = t.progress; image = t.image; check = t.check }

abbrev pub with_phase : Transfer → Phase → Transfer
with_phase t phase = with_leg t (in_phase t.leg phase)

-- the identity is another one, and "stored becomes 0": another image in FB, and a failed end check
abbrev pub replaced : Transfer → Phase → Identity → Transfer
replaced t phase image = record { leg = in_phase t.leg phase; progress = progress_from 0; image = image; check = t.check }

abbrev pub with_check : Transfer → Check → Transfer
with_check t check = record { leg = t.leg; progress = t.progress; image = t.image; check = check }

-- not the session's channel
abbrev pub other_channel : Transfer → ℕ → Bool
other_channel t channel = not (eqb channel t.leg.channel)

-- ---- the answers: a reply with this data; an answer without a reply (outcome 0; 19 of a portion); or none and nothing changed
-- (outcome 10)

abbrev pub replied : Transfer → List ℕ → Step
replied t d = record { answered = true; transfer = t; reply = Some (padded max_reply d) }

abbrev pub noted : Transfer → Step
noted t = record { answered = true; transfer = t; reply = None }

abbrev pub unanswered : Transfer → Step
unanswered t = record { answered = false; transfer = t; reply = None }

-- what a command gives, and the area as it leaves it
pub record Effect (A : Type 0) : Type 0 where
  pub gives : A
  pub area : List ℕ

-- the area stays
abbrev pub unwritten : {A : Type 0} → A → List ℕ → Effect A
unwritten x area = record { gives = x; area = area }
