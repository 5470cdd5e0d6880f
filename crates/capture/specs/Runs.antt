-- A turn of the replay program. Which bytes a read puts into the input buffer no definition can say. Document 02, K5: "finish each before
-- the next feeding or quiet call ..; the replay program does likewise, with FE's reply on FE's line". Assumes nothing.
use Rattle.std.specs.Prelude.{◌≡◌, ℕ, ◌+◌, ◌<◌, ◌≤◌, min, Bool, true, false, not, ◌&&◌, ◌||◌, ◌⊎◌, List, length}
use Rattle.std.proofs.Math.Seq.{slice}
use Rattle.controller.specs.declared.call.Called.{Called}
use Rattle.controller.specs.declared.record.Record.{Record}
use Rattle.controller.specs.Records.{is_checking}
use Rattle.controller.specs.Calls.{CallLeaves, fed_call, quieted_call}
use Rattle.controller.specs.Portions.{PortionLeaves, portion_call}
use Rattle.account.specs.declared.account.Account.{Account}
use Rattle.account.specs.Accounts.{sum, nothing_told, CallTold, PortionTold}
use Rattle.bench.specs.Calls.{fresh_room, most_read}
use Rattle.text.specs.declared.output.Output.{Output}
use Rattle.text.specs.Outputs.{Flushed}
use Rattle.capture.specs.declared.run.Run.{Run}
use Rattle.capture.specs.declared.run.Unfed.{Unfed}
use Rattle.capture.specs.declared.stage.Stage.{Stage}
use Rattle.capture.specs.declared.stage.Stage.TheVariants.{Feeding, Quiet, Ended, ReadFailed}
use Rattle.capture.specs.Stages.{no_more, AfterRead, stage_quiet}

-- the run ends after a failed write; and after a failed read or once quiet leaves nothing held, but then not while a check runs
abbrev pub run_over : Run → Output → Bool
run_over run o = o.failed || (not (is_checking run.record) && no_more run.stage)

-- "opens this board .. reads a capture": nothing is read, dropped or written yet. Of what waits to be written the output says it, which the
-- program asks for (replay/src/main.rt)
abbrev pub start_run : Record → Run
start_run r = record { «record» = r; stage = Feeding; unfed = record { at = 0; end = 0 }; account = nothing_told }

-- bytes of the input buffer are taken
abbrev pub unfed_after : Unfed → ℕ → Unfed
unfed_after u taken = record { at = sum u.at taken; end = u.end }

-- what a call makes of the run
pub record Follows (run : Run) (c : Called) (room : List ℕ) (o : Output) (stage : Stage) (r : Run) (after : Output) : Type 0 where
  pub keeps : r.record ≡ c.next
  pub goes_on : r.stage ≡ stage
  pub takes : r.unfed ≡ unfed_after run.unfed c.taken
  pub tells : CallTold run.account c room o r.account after

-- the run, the output and the area are as the call leaves them
pub record Passes (run : Run) (x : CallLeaves) (o : Output) (stage : Stage) (r : Run) (after : Output) (area : List ℕ) : Type 0 where
  pub follows : Follows run x.called x.room o stage r after
  pub leaves-area : area ≡ x.area

-- quiet is told
abbrev pub quiet_turn : Run → List ℕ → CallLeaves
quiet_turn run area = quieted_call run.record fresh_room area

abbrev pub Quieted : Run → Output → List ℕ → Run → Output → List ℕ → Type 0
Quieted run o area r after area' =
    let x = quiet_turn run area in
    Passes run x o (stage_quiet x.called.next) r after area'

-- the bytes of the input buffer that are still to be fed are fed
abbrev pub feed_turn : Run → List ℕ → List ℕ → CallLeaves
feed_turn run input area = fed_call (slice run.unfed.at run.unfed.end input) run.record fresh_room area

-- no line waits any more, and the input buffer was read anew; or the lines could not be written, and it was not
pub record ReadsOn (run : Run) (input : List ℕ) (o : Output) (r : Run) (input' : List ℕ) (after : Output) : Type 0 where
  pub keeps : r.record ≡ run.record
  pub tells : r.account ≡ run.account
  pub writes : Flushed o after
  pub starts : r.unfed.at ≡ 0
  pub within : r.unfed.end ≤ length input
  pub goes_on : after.failed ≡ false → AfterRead r.unfed.end r.stage
  pub stops : after.failed ≡ true → (r.stage ≡ Feeding) × ((r.unfed.end ≡ 0) × (input' ≡ input))

-- what is left in the input buffer is fed, and stays there; where nothing is, the input is read: what the buffer then holds is the read's
pub record FeedsOrReads (run : Run) (input : List ℕ) (o : Output) (area : List ℕ) (r : Run) (input' : List ℕ) (after : Output)
    (area' : List ℕ) : Type 0 where
  pub feeds : run.unfed.at < min run.unfed.end (length input)
      → Passes run (feed_turn run input area) o Feeding r after area' × (input' ≡ input)
  pub reads : min run.unfed.end (length input) ≤ run.unfed.at → ReadsOn run input o r input' after × (area' ≡ area)

-- a portion of the end check
abbrev pub portion_turn : Run → List ℕ → PortionLeaves
portion_turn run area = portion_call most_read run.record fresh_room area

-- the run with another record and account
abbrev pub with_record : Run → Record → Account → Run
with_record run r account = record { «record» = r; stage = run.stage; unfed = run.unfed; account = account }

-- what a portion makes of the run
pub record ChecksOn (run : Run) (x : PortionLeaves) (o : Output) (r : Run) (after : Output) : Type 0 where
  pub keeps : r ≡ with_record run x.called.next r.account
  pub tells : PortionTold run.account x.called x.room o r.account after

-- a turn: a portion while a check runs; else, by the stage, one call on the record, or one read of the input, and nothing once the run is
-- over
abbrev pub Turned : Bool → Stage → Run → List ℕ → Output → List ℕ → Run → List ℕ → Output → List ℕ → Type 0
Turned true stage run input o area r input' after area' =
    ChecksOn run (portion_turn run area) o r after × ((area' ≡ area) × (input' ≡ input))
Turned false Feeding run input o area r input' after area' = FeedsOrReads run input o area r input' after area'
Turned false Quiet run input o area r input' after area' = Quieted run o area r after area' × (input' ≡ input)
Turned false Ended run input o area r input' after area' = (r ≡ run) × ((after ≡ o) × ((area' ≡ area) × (input' ≡ input)))
Turned false ReadFailed run input o area r input' after area' = (r ≡ run) × ((after ≡ o) × ((area' ≡ area) × (input' ≡ input)))

-- ---- all turns

abbrev pub most_turns : ℕ
most_turns = 18446744073709551615

-- where a run stands, and what is lent to it
pub record Standing : Type 0 where
  pub run : Run
  pub input : List ℕ
  pub output : Output
  pub area : List ℕ

-- a turn of a run that is not over
abbrev pub ReplayTurn : Standing → Standing → Type 0
ReplayTurn s t =
    (run_over s.run s.output ≡ false)
    × Turned (is_checking s.run.record) s.run.stage s.run s.input s.output s.area t.run t.input t.output
    t.area

-- n turns
pub data ReplayTurns (s : Standing) : ℕ → Standing → Type 0 where
  first : ReplayTurns s 0 s
  then : {n : ℕ} {t u : Standing} → ReplayTurns s n t → ReplayTurn t u → ReplayTurns s (n + 1) u

-- the run was brought to its end; or as many turns were made as a number of 64 bits can count, which none comes to
pub record Replayed (s t : Standing) : Type 0 where
  pub turns : ℕ
  pub made : ReplayTurns s turns t
  pub over : (run_over t.run t.output ≡ true) ⊎ (turns ≡ most_turns)
