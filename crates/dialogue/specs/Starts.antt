-- How an exchange begins: both ends are opened, and in the ranges of the program's words neither refuses. Assumes nothing.
use Rattle.std.specs.Prelude.{◌≡◌, false, ℕ}
use Rattle.bench.specs.Boards.{Opens}
use Rattle.carrier.specs.Sending.{empty_carrier}
use Rattle.ends.specs.Ends.{SenderOpens}
use Rattle.link.specs.declared.script.Script.{Script}
use Rattle.dialogue.specs.declared.run.Run.{Run}

-- the bench's board on this channel, and a sender to it of an image of n bytes; nothing is under way, and the turns have not ended. That
-- no line waits is a matter of the output that the run is lent: who sends the first request asks for it (exchange/src/main.rt)
pub record Started (channel size : ℕ) (script : Script) (n : ℕ) (r : Run) : Type 0 where
  pub controller : Opens channel r.record
  pub sender : SenderOpens channel size n r.sender
  pub carrier : r.carrier ≡ empty_carrier script
  pub going : r.is_ended ≡ false
