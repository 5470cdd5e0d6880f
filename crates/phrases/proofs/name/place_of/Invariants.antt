-- `phrases::name::place_of` meets its contract. The loop's invariant: the search from place i on finds what the whole search finds.
-- Assumes nothing.
use Rattle.std.proofs.Common.{◌≡◌, ◌-◌}
use Rattle.sequences.specs.Search.{find}
use Rattle.phrases.specs.Table.{row_count}
use Rattle.phrases.specs.Names.{is_named, command_place}
use Rattle.phrases.proofs.name.place_of.Given as goal

abbrev pub invariant-loop-i : goal.invariant-loop-i
invariant-loop-i l = find (is_named l.line) (row_count - l.i) l.i ≡ command_place l.line
