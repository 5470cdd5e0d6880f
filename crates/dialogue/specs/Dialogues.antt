-- Where a dialogue stands, and what a turn makes of that: without the output, as a write may fail at any text. Assumes nothing.
use Rattle.std.specs.Prelude.{◌≡◌, Bool, true, ◌||◌, List, [], ℕ}
use Rattle.carrier.specs.Sending.{Carried, CarriesOn, told}
use Rattle.controller.specs.declared.record.Record.{Record}
use Rattle.link.specs.declared.link.Link.{Link}
use Rattle.link.specs.declared.script.Script.{Script}
use Rattle.sender.specs.declared.sender.Sender.{Sender}
use Rattle.text.specs.declared.output.Output.{Output}
use Rattle.dialogue.specs.declared.run.Run.{Run}

-- both ends and the controller's area; the frames under way with their bytes, and what is left of the script; whether the turns have ended
pub record Dialogue : Type 0 where
  pub sender : Sender
  pub controller : Record
  pub area : List ℕ
  pub link : Link
  pub script : Script
  pub memory : List ℕ
  pub ended : Bool

abbrev pub dialogue_of : Run → List ℕ → List ℕ → Dialogue
dialogue_of run memory area =
    record {
      sender = run.sender;
      controller = run.record;
      area = area;
      link = run.carrier.link;
      script = run.carrier.script;
      memory = memory;
      ended = run.is_ended;
    }

-- where it stands after a turn, and the texts that the turn put
pub record Turn : Type 0 where
  pub sender : Sender
  pub controller : Record
  pub area : List ℕ
  pub carried : Carried
  pub ended : Bool

-- only the link's side has changed
abbrev pub carrying : Dialogue → Carried → Turn
carrying x k = record { sender = x.sender; controller = x.controller; area = x.area; carried = k; ended = x.ended }

-- nothing has
abbrev pub staying : Dialogue → Turn
staying x = carrying x (record { link = x.link; script = x.script; memory = x.memory; texts = [] })

-- with texts that were put before
abbrev pub preceded : List (List ℕ) → Turn → Turn
preceded texts t =
    record {
      sender = t.sender;
      controller = t.controller;
      area = t.area;
      carried = told texts t.carried;
      ended = t.ended;
    }

-- ---- an end or the link has moved on

abbrev pub with_sender : Dialogue → Sender → Dialogue
with_sender x s =
    record {
      sender = s;
      controller = x.controller;
      area = x.area;
      link = x.link;
      script = x.script;
      memory = x.memory;
      ended = x.ended;
    }

abbrev pub with_controller : Dialogue → Record → List ℕ → Dialogue
with_controller x r area =
    record {
      sender = x.sender;
      controller = r;
      area = area;
      link = x.link;
      script = x.script;
      memory = x.memory;
      ended = x.ended;
    }

abbrev pub with_link : Dialogue → Link → Dialogue
with_link x l =
    record {
      sender = x.sender;
      controller = x.controller;
      area = x.area;
      link = l;
      script = x.script;
      memory = x.memory;
      ended = x.ended;
    }

abbrev pub with_script : Dialogue → Script → Dialogue
with_script x s =
    record {
      sender = x.sender;
      controller = x.controller;
      area = x.area;
      link = x.link;
      script = s;
      memory = x.memory;
      ended = x.ended;
    }

-- "the turns end"
abbrev pub ending : Dialogue → Dialogue
ending x =
    record {
      sender = x.sender;
      controller = x.controller;
      area = x.area;
      link = x.link;
      script = x.script;
      memory = x.memory;
      ended = true;
    }

-- the contract: run, area and memory are the definition's, and its texts stand behind those that waited
pub record TurnMade (t : Turn) (o : Output) (r : Run) (memory area : List ℕ) (after : Output) : Type 0 where
  pub sender : r.sender ≡ t.sender
  pub controller : r.record ≡ t.controller
  pub leaves-area : area ≡ t.area
  pub carries : CarriesOn t.carried o r.carrier memory after
  pub ends : r.is_ended ≡ t.ended

-- "turns, until the sender says done or given up"; a failed write ends them too
abbrev pub is_over : Run → Output → Bool
is_over run output = output.failed || run.is_ended
