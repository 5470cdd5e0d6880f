-- docs/SENDER.md, "The record": what it holds, and the ways in which it changes. Assumes nothing.
use Rattle.std.specs.Prelude.{cond, ℕ, ◌+◌, ◌-◌, ltb}
use Rattle.sequences.specs.Padding.{zeros}
use Rattle.commands.specs.Limits.{max_packet}
use Rattle.sender.specs.declared.phase.Phase.{Phase}
use Rattle.sender.specs.declared.phase.Phase.TheVariants.{Asking}
use Rattle.sender.specs.declared.sender.Offer.{Offer}
use Rattle.sender.specs.declared.sender.Sender.{Sender}

-- "silences told since the request last changed, 0 to 3"
abbrev pub max_silences : ℕ
max_silences = 3

-- "new legs begun since opening, 0 to 3"
abbrev pub max_legs : ℕ
max_legs = 3

-- "A packet has the smaller of size and 512 bytes, the last one what is left."
abbrev pub packet_size : ℕ → ℕ
packet_size size = cond (ltb size max_packet) size max_packet

unfoldable pub next_size : Sender → ℕ
next_size s =
    let left = s.offer.length - s.position.place in
    let packet = packet_size s.offer.size in
    cond (ltb left packet) left packet

-- a leg begins: "phase asking", and "Place and number are 0 but in placing and sending"
abbrev pub begun : Offer → ℕ → Sender
begun o legs =
    record {
      offer = o;
      position = record { phase = Asking; place = 0; number = 0 };
      tries = record { silences = 0; new_legs = legs };
    }

-- the column "fresh"
abbrev pub fresh_sender : Offer → Sender
fresh_sender o = begun o 0

-- "The all-zero record (phase asking)"
abbrev pub no_sender : Sender
no_sender = fresh_sender (record { channel = 0; pid = zeros 8; version = zeros 3; md5 = zeros 16; size = 0; length = 0 })

-- another request: "A decision for another request .. leaves silences 0."
abbrev pub moved_to : Sender → Phase → ℕ → ℕ → Sender
moved_to s phase place number =
    record {
      offer = s.offer;
      position = record { phase = phase; place = place; number = number };
      tries = record { silences = 0; new_legs = s.tries.new_legs };
    }

-- "silences + 1, nothing else changed"
abbrev pub again : Sender → Sender
again s =
    record {
      offer = s.offer;
      position = s.position;
      tries = record { silences = s.tries.silences + 1; new_legs = s.tries.new_legs };
    }
