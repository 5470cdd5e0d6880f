-- 01, "The six commands": "The command table, as one constant, with lengths of data and the version byte". Assumes nothing.
use Rattle.std.specs.Prelude.{◌≡◌, Bool, cond, not, ◌||◌, List, [], ◌∷◌, ℕ, ◌≤◌, ltb, eqb, get_or}
use Rattle.commands.specs.declared.table.Row.{Row}
use Rattle.commands.specs.declared.table.Header.{Header}
use Rattle.commands.specs.declared.table.Header.TheVariants.{Unlisted, Wrong, Right}
use Rattle.sequences.specs.Search.{find}
use Rattle.commands.specs.Limits.{max_reply}

abbrev pub row : ℕ → ℕ → ℕ → ℕ → ℕ → ℕ → Row
row c v least most rv rl = record { command = c; version = v; least = least; most = most; reply_version = rv; reply_length = rl }

-- cmd; from the module: version, least and greatest L; reply: version, L (0: none)
unfoldable pub table : List Row
table =
    row 0xF9 0x00 1 1 0x00 0
    ∷ row 0xFA 0x00 3 3 0x00 7
    ∷ row 0xFB 0x10 36 36 0x10 26
    ∷ row 0xFC 0x00 5 5 0x00 5
    ∷ row 0xFD 0x10 7 519 0x00 2
    ∷ row 0xFE 0x00 1 1 0x00 2
    ∷ []

unfoldable pub row_at : ℕ → Row
unfolding table
row_at i = get_or table i (row 0 0 0 0 0 0)

abbrev pub is_command : ℕ → ℕ → Bool
is_command c i = eqb (row_at i).command c

-- "The six commands"
abbrev pub command_count : ℕ
command_count = 6

-- a command's place in the table, or the table's length
unfoldable pub place_in_table : ℕ → ℕ
place_in_table c = find (is_command c) command_count 0

-- a command's row, all zero where it has none. (`fits` follows from `is`; callers need it to lend so much of a reply.)
pub record RowOf (command : ℕ) (r : Row) : Type 0 where
  pub is : r ≡ row_at (place_in_table command)
  pub fits : r.reply_length ≤ max_reply

-- "version byte or L wrong"
abbrev pub bad_header : Row → ℕ → ℕ → Bool
bad_header r version L = not (eqb version r.version) || (ltb L r.least || ltb r.most L)

-- what the table says of a frame's version, command and L
unfoldable pub header_of : ℕ → ℕ → ℕ → Header
header_of version command L =
    cond (ltb (place_in_table command) command_count) (cond (bad_header (row_at (place_in_table command)) version L) Wrong Right) Unlisted
