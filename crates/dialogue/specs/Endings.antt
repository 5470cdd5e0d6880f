-- docs/EXCHANGE.md, "Output": what is told once the turns have ended. Assumes nothing.
use Rattle.std.specs.Prelude.{Bool, true, false, List, ◌++◌, ℕ, length}
use Rattle.session.specs.Transfers.{own_transfer}
use Rattle.controller.specs.declared.record.Record.{Record}
use Rattle.sender.specs.declared.phase.Phase.{Phase}
use Rattle.sender.specs.Phases.{by_phase}
use Rattle.carrier.specs.Clearing.{all_texts}
use Rattle.text.specs.declared.output.Output.{Output}
use Rattle.text.specs.Outputs.{TextsAdded, Flushed}
use Rattle.transcript.specs.Words.{left}
use Rattle.transcript.specs.Lines.{sender_end_texts, controller_end_texts, area_end_texts}
use Rattle.dialogue.specs.Dialogues.{Dialogue}
use Rattle.sequences.specs.Comparing.{begins_with}
use Rattle.dialogue.specs.Turns.{stored_length}

-- the sender is done. The turns end at done or given up; where a failed write ends them this is told into a buffer that is not written
-- any more
abbrev pub is_done : Phase → Bool
is_done p = by_phase p false false false false false true false

-- "controller PHASE, stored N of M"
abbrev pub controller_texts : Record → ℕ → List (List ℕ)
controller_texts r m = controller_end_texts (own_transfer r.session).leg.phase (stored_length r) m

-- "At the end, after the `left` lines, three lines"
abbrev pub end_texts : Dialogue → List ℕ → List (List ℕ)
end_texts x image =
    all_texts x.link x.memory left
    ++ (sender_end_texts (is_done x.sender.position.phase)
    ++ (controller_texts x.controller (length image) ++ area_end_texts (begins_with x.area image)))

-- these texts are put behind those that waited, and none waits any more
pub record EndingTold (texts : List (List ℕ)) (o : Output) (r : Output) : Type 0 where
  pub all : Output
  pub tells : TextsAdded o texts all
  pub flushes : Flushed all r
