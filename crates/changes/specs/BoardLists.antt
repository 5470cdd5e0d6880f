-- docs/CONSOLE.md: `board0` .. `board9`, "the board at this place". Assumes nothing.
use Rattle.std.specs.Prelude.{Bool, ◌&&◌, List, [], ◌∷◌, ◌++◌, ℕ, zero, suc, eqb}
use Rattle.std.specs.Bool.{beq}
use Rattle.boards.specs.declared.board.Board.{Board}
use Rattle.boards.specs.Boards.{board_at}
use Rattle.sequences.specs.Comparing.{same}
use Rattle.text.specs.Ascii.{ascii}
use Rattle.text.specs.Decimals.{decimal}
use Rattle.text.specs.Hex.{hex_byte}
use Rattle.values.specs.Bytes.{digit_texts}
use Rattle.values.specs.Fields.{unless_same, bit_of}

-- the same board: every field of it
abbrev pub same_board : Board → Board → Bool
same_board a b =
    beq a.permit b.permit
    && (eqb a.channel b.channel && (same a.soft b.soft && (same a.hard b.hard && same a.pid b.pid)))

-- "`boardP` as `PERMIT,CHANNEL,SOFT,HARD,PID`: the permit as 0 or 1, the rest as bytes"
abbrev pub version_texts : List ℕ → List (List ℕ)
version_texts v = digit_texts v ++ ascii "," ∷ []

abbrev pub board_texts : Board → List (List ℕ)
board_texts b =
    decimal (bit_of b.permit) ∷ ascii "," ∷ hex_byte b.channel ∷ ascii "," ∷ []
    ++ version_texts b.soft ++ version_texts b.hard ++ digit_texts b.pid

-- the board at place i
abbrev pub board_field : ℕ → Board → Board → List (List ℕ)
board_field i before after = unless_same (same_board before after) (ascii " board" ∷ decimal i ∷ ascii "=" ∷ [] ++ board_texts after)

-- those at the first n places, in their order
unfoldable pub board_fields : List Board → List Board → ℕ → List (List ℕ)
board_fields before after zero = []
board_fields before after (suc n) = board_fields before after n ++ board_field n (board_at before n) (board_at after n)
