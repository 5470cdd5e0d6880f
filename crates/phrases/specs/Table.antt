-- docs/CONSOLE.md, "Commands": the table of commands, and those of the fields that `set` and `sender set` set. What a command does is no
-- part of this. Assumes nothing.
use Rattle.std.specs.Prelude.{List, [], ◌∷◌, ◌++◌, ℕ, ◌-◌, length, get_or, replicate}
use Prim.Native.String.{String}
use Rattle.text.specs.Ascii.{ascii}
use Rattle.phrases.specs.declared.table.Row.{Row}
use Rattle.phrases.specs.declared.rows.Limits.{Limits}
use Rattle.phrases.specs.Spaces.{space_byte}

-- the longest name
abbrev pub name_size : ℕ
name_size = 25

-- "0 to 18,446,744,073,709,551,615 unless the table says less"
abbrev pub max_number : ℕ
max_number = 18446744073709551615

-- "any" bytes
abbrev pub any_count : ℕ
any_count = 65535

-- a command: its name, how many numbers it takes, the most that the first and the second can be, and how many bytes (0: none). The name is
-- filled up with spaces, and stands with its length
abbrev pub entry : String → ℕ → ℕ → ℕ → ℕ → Row
entry name numbers first second bytes =
    let text = ascii name in
    record {
      name = text ++ replicate (name_size - length text) space_byte;
      name_length = length text;
      numbers = numbers;
      first = first;
      second = second;
      bytes = bytes;
    }

-- in the order of docs/CONSOLE.md: the controller's commands, `set` with each field of its record, the sender's commands, `sender set`
-- with each field of its. A phase is a part of the name
unfoldable pub command_table : List Row
command_table =
    entry "room" 1 65536 0 0
    ∷ entry "area" 1 65536 0 0
    ∷ entry "image" 1 1048577 0 0
    ∷ entry "write room" 1 65535 0 any_count
    ∷ entry "write area" 1 65535 0 any_count
    ∷ entry "write image" 1 1048576 0 any_count
    ∷ entry "board" 2 9 1 15
    ∷ entry "open" 2 max_number max_number 0
    ∷ entry "feed" 0 0 0 any_count
    ∷ entry "quiet" 0 0 0 0
    ∷ entry "portion" 1 max_number 0 0
    ∷ entry "report" 0 0 0 0
    ∷ entry "show" 0 0 0 0
    ∷ entry "set boards" 1 max_number 0 0
    ∷ entry "set board" 2 9 1 15
    ∷ entry "set opened" 1 max_number 0 0
    ∷ entry "set holding" 1 max_number 0 0
    ∷ entry "set held" 1 525 0 any_count
    ∷ entry "set phase idle" 0 0 0 0
    ∷ entry "set phase asked" 0 0 0 0
    ∷ entry "set phase told" 0 0 0 0
    ∷ entry "set phase receiving" 0 0 0 0
    ∷ entry "set phase done" 0 0 0 0
    ∷ entry "set channel" 1 255 0 0
    ∷ entry "set agreed" 1 max_number 0 0
    ∷ entry "set next" 1 max_number 0 0
    ∷ entry "set stored" 1 max_number 0 0
    ∷ entry "set image-channel" 1 255 0 0
    ∷ entry "set version" 0 0 0 3
    ∷ entry "set announced" 1 max_number 0 0
    ∷ entry "set md5" 0 0 0 16
    ∷ entry "set crc" 0 0 0 4
    ∷ entry "set last" 1 max_number 0 0
    ∷ entry "set checking" 1 1 0 0
    ∷ entry "set read" 1 max_number 0 0
    ∷ entry "set register" 0 0 0 4
    ∷ entry "sender open" 1 65535 0 28
    ∷ entry "sender request" 0 0 0 0
    ∷ entry "sender reply" 0 0 0 any_count
    ∷ entry "sender silence" 0 0 0 0
    ∷ entry "sender show" 0 0 0 0
    ∷ entry "sender set channel" 1 255 0 0
    ∷ entry "sender set pid" 0 0 0 8
    ∷ entry "sender set version" 0 0 0 3
    ∷ entry "sender set md5" 0 0 0 16
    ∷ entry "sender set size" 1 65535 0 0
    ∷ entry "sender set length" 1 max_number 0 0
    ∷ entry "sender set phase asking" 0 0 0 0
    ∷ entry "sender set phase telling" 0 0 0 0
    ∷ entry "sender set phase placing" 0 0 0 0
    ∷ entry "sender set phase sending" 0 0 0 0
    ∷ entry "sender set phase ending" 0 0 0 0
    ∷ entry "sender set phase done" 0 0 0 0
    ∷ entry "sender set phase given-up" 0 0 0 0
    ∷ entry "sender set place" 1 max_number 0 0
    ∷ entry "sender set number" 1 max_number 0 0
    ∷ entry "sender set silences" 1 max_number 0 0
    ∷ entry "sender set legs" 1 max_number 0 0
    ∷ []

-- how many commands there are
abbrev pub row_count : ℕ
row_count = 58

-- the places of `set boards` and `sender open`
abbrev pub fields_from : ℕ
fields_from = 13

abbrev pub sender_from : ℕ
sender_from = 36

-- past the table's end there is nothing in a row
abbrev pub no_row : Row
no_row = record { name = replicate name_size 0; name_length = 0; numbers = 0; first = 0; second = 0; bytes = 0 }

-- the numbers of a row
abbrev pub limits_of : Row → Limits
limits_of r =
    record { name_length = r.name_length; numbers = r.numbers; first = r.first; second = r.second; bytes = r.bytes }

unfoldable pub command_row : ℕ → Row
unfolding command_table
command_row i = get_or command_table i no_row
