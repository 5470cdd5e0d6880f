-- What is told of a capture. 01, "Frames from the bench": a frame's line tells "its first byte's place in the capture (decimal, from 0)".
-- That is the number of bytes of earlier frames plus all drops up to and including its call. Assumes nothing.
use Rattle.std.specs.Prelude.{◌≡◌, ℕ, ◌+◌, ◌%◌, ◌^◌, Bool, true, false, ◌||◌, List, take, ◌≢◌}
use Rattle.image.specs.declared.check.Verdict.TheVariants.{Unfinished}
use Rattle.commands.specs.Outcomes.{no_frame_yet, outcome_number}
use Rattle.controller.specs.declared.call.Called.{Called}
use Rattle.controller.specs.declared.portion.Portioned.{Portioned}
use Rattle.controller.specs.Records.{is_checking}
use Rattle.commands.specs.Outcomes.{same_outcome}
use Rattle.text.specs.declared.output.Output.{Output}
use Rattle.text.specs.Outputs.{TextAdded}
use Rattle.account.specs.declared.account.Account.{Account}
use Rattle.account.specs.Texts.{FrameText, EndText}

abbrev pub nothing_told : Account
nothing_told = record { place = 0; dropped = 0 }

-- the program's counts have 64 bits, more than a capture can fill
abbrev pub sum : ℕ → ℕ → ℕ
sum a b = (a + b) % 2 ^ 64

-- no line is due yet: the call ended at no frame, or at an end request whose check has started
abbrev pub line_waits : Called → Bool
line_waits c = same_outcome c.outcome no_frame_yet || is_checking c.next

-- drops count, and the frame behind them stands so much further
abbrev pub drops_passed : Account → ℕ → Account
drops_passed a n = record { place = sum a.place n; dropped = sum a.dropped n }

-- the place behind a frame of 7 + L bytes
abbrev pub place_behind : ℕ → ℕ → ℕ
place_behind place L = sum (sum place 7) L

-- a line is added, and its frame, with L bytes of data, is passed
pub record FrameTold (a : Account) (text : List ℕ) (L : ℕ) (o : Output) (r : Account) (after : Output) : Type 0 where
  pub passes : r.place ≡ place_behind a.place L
  pub drops : r.dropped ≡ a.dropped
  pub adds : TextAdded o text after

-- the line tells of the frame that stands here
pub record FrameAdded (a : Account) (command outcome : ℕ) (reply : List ℕ) (L : ℕ) (o : Output) (r : Account) (after : Output) : Type 0 where
  pub text : List ℕ
  pub says : FrameText a.place command outcome reply text
  pub told : FrameTold a text L o r after

-- "writes, per frame, ..": a line for a call that ended at a frame, unless it started a check, and none for another; `room` holds the
-- reply
pub record CallTold (a : Account) (c : Called) (room : List ℕ) (o : Output) (r : Account) (after : Output) : Type 0 where
  pub nothing : line_waits c ≡ true → (r ≡ drops_passed a c.dropped) × (after ≡ o)
  pub line : line_waits c ≡ false
      → FrameAdded (drops_passed a c.dropped) c.command (outcome_number c.outcome) (take c.reply_length room) c.data_length o r after

-- document 02, K5: "with FE's reply on FE's line", so with the verdict, and nothing before it
pub record PortionTold (a : Account) (p : Portioned) (room : List ℕ) (o : Output) (r : Account) (after : Output) : Type 0 where
  pub goes_on : p.verdict ≡ Unfinished → (r ≡ a) × (after ≡ o)
  pub ends : (p.verdict ≢ Unfinished) → FrameAdded a 0xFE (outcome_number p.outcome) (take p.reply_length room) 1 o r after

-- "then all drops"
pub record EndTold (a : Account) (o : Output) (after : Output) : Type 0 where
  pub text : List ℕ
  pub says : EndText a.dropped text
  pub adds : TextAdded o text after
