-- What the bench's programs lend and ask for in the calls on the record. Assumes nothing.
use Rattle.std.specs.Prelude.{List, ℕ}
use Rattle.sequences.specs.Padding.{zeros}
use Rattle.controller.specs.Calls.{min_room}

-- each call is lent a room of zeros
abbrev pub fresh_room : List ℕ
fresh_room = zeros min_room

-- document 02, K5: a portion reads at most so many bytes of the image
abbrev pub most_read : ℕ
most_read = 8192
