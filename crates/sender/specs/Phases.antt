-- docs/SENDER.md, "The record": "asking, telling, placing, sending, ending, done, given up". Assumes nothing.
use Rattle.std.specs.Prelude.{Bool, true, false, ℕ}
use Rattle.sender.specs.declared.phase.Phase.{Phase}
use Rattle.sender.specs.declared.phase.Phase.TheVariants.{Asking, Telling, Placing, Sending, Ending, Done, GivenUp}

-- one of seven, by the phase
abbrev pub by_phase : {A : Type 0} → Phase → A → A → A → A → A → A → A → A
by_phase Asking asking telling placing sending ending done given_up = asking
by_phase Telling asking telling placing sending ending done given_up = telling
by_phase Placing asking telling placing sending ending done given_up = placing
by_phase Sending asking telling placing sending ending done given_up = sending
by_phase Ending asking telling placing sending ending done given_up = ending
by_phase Done asking telling placing sending ending done given_up = done
by_phase GivenUp asking telling placing sending ending done given_up = given_up

-- "done and given up stay"
abbrev pub is_final : Phase → Bool
is_final Asking = false
is_final Telling = false
is_final Placing = false
is_final Sending = false
is_final Ending = false
is_final Done = true
is_final GivenUp = true

-- the command of the request; in "done, given up" there is none
abbrev pub command_of : Phase → ℕ
command_of p = by_phase p 0xFA 0xFB 0xFC 0xFD 0xFE 0 0
