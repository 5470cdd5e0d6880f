-- docs/CONSOLE.md, "Lines": "Any other line is to be a command: its name, exactly as in the table, from the line's first byte on". Assumes
-- nothing.
use Rattle.std.specs.Prelude.{Bool, true, cond, ltb, Option, Some, None, ◌&&◌, List, [], ◌∷◌, ℕ, eqb, take, drop}
use Rattle.sequences.specs.Comparing.{begins_with}
use Rattle.sequences.specs.Search.{find}
use Rattle.phrases.specs.declared.table.Row.{Row}
use Rattle.phrases.specs.Spaces.{space_byte}
use Rattle.phrases.specs.Table.{row_count, command_row}

-- "Behind a name comes a space or the line's end"
abbrev pub name_ends : List ℕ → Bool
name_ends [] = true
name_ends (b ∷ s) = eqb b space_byte

-- what stands behind the name of a row
abbrev pub behind_command : Row → List ℕ → List ℕ
behind_command r line = drop r.name_length line

-- "no name of the table stands at its front, with a space or the line's end behind it": whether this one does
unfoldable pub is_named : List ℕ → ℕ → Bool
is_named line i =
    let r = command_row i in
    begins_with line (take r.name_length r.name) && name_ends (behind_command r line)

-- the place of a line's command in the table, or the table's length
unfoldable pub command_place : List ℕ → ℕ
command_place line = find (is_named line) row_count 0

-- the place, where it is one of the table
abbrev pub place_told : ℕ → Option ℕ
place_told place = cond (ltb place row_count) (Some place) None
