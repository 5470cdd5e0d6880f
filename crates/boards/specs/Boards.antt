-- 01, "The record and the board list": "Opening takes 1 to 10 boards (channel 10 to 19, none twice; soft and hard version; PID; permit
-- yes or no)". Assumes nothing.
use Rattle.std.specs.Prelude.{◌≡◌, ◌↔◌, Bool, false, cond, ◌||◌, List, [], ◌++◌, ℕ, ◌-◌, ◌≤◌, ◌<◌, ltb, eqb, get_or, take, replicate}
use Rattle.sequences.specs.Padding.{zeros}
use Rattle.sequences.specs.Search.{find}
use Rattle.boards.specs.declared.board.Board.{Board}

abbrev pub max_boards : ℕ
max_boards = 10

-- an unused place: all zero
abbrev pub no_board : Board
no_board = record { channel = 0; soft = zeros 3; hard = zeros 3; pid = zeros 8; permit = false }

-- what the logic reads past a list's end, where no board of a list stands
abbrev pub past_board : Board
past_board = record { channel = 0; soft = []; hard = []; pid = []; permit = false }

abbrev pub channel_at : List Board → ℕ → ℕ
channel_at bs i = (get_or bs i past_board).channel

abbrev pub has_channel : List Board → ℕ → ℕ → Bool
has_channel bs channel i = eqb (channel_at bs i) channel

-- the place of a channel among the first n boards, or n
unfoldable pub place_of : List Board → ℕ → ℕ → ℕ
place_of bs n channel = find (has_channel bs channel) n 0

-- the same of any n: more than ten boards are no list, and no channel has a place there
abbrev pub place_in : List Board → ℕ → ℕ → ℕ
place_in bs n channel = cond (ltb max_boards n) n (place_of bs n channel)

-- the board at a place, all zero where there is none
abbrev pub board_at : List Board → ℕ → Board
board_at bs i = cond (ltb i max_boards) (get_or bs i past_board) no_board

-- "channel 10 to 19"
abbrev pub first_channel : ℕ
first_channel = 10

abbrev pub last_channel : ℕ
last_channel = 19

-- "channel 10 to 19, none twice": out of range, or at an earlier place too
abbrev pub bad_board : List Board → ℕ → Bool
bad_board bs i = ltb (channel_at bs i) first_channel || (ltb last_channel (channel_at bs i) || ltb (place_of bs i (channel_at bs i)) i)

-- "1 to 10 boards", each of them good
unfoldable pub bad_list : List Board → ℕ → Bool
bad_list bs n = ltb n 1 || (ltb max_boards n || ltb (find (bad_board bs) n 0) n)

-- the rule as it reads: 1 to 10 boards, each channel 10 to 19, no two alike
pub record GoodList (bs : List Board) (n : ℕ) : Type 0 where
  pub some : 1 ≤ n
  pub few : n ≤ max_boards
  pub least : (i : ℕ) → i < n → first_channel ≤ channel_at bs i
  pub most : (i : ℕ) → i < n → channel_at bs i ≤ last_channel
  pub different : (i j : ℕ) → i < j → j < n → channel_at bs i ≡ channel_at bs j → ⊥

-- The claim: a list is not bad exactly when it keeps the rule.
abbrev pub ListRule : Type 0
ListRule = (bs : List Board) (n : ℕ) → (bad_list bs n ≡ false) ↔ GoodList bs n

-- a board of the first n has this channel
pub record ChannelListed (bs : List Board) (n channel : ℕ) : Type 0 where
  pub place : ℕ
  pub among : place < n
  pub has : channel_at bs place ≡ channel

-- The claim: a channel has a place among the first n boards exactly when one of them has it, and that is a board which has it.
pub record PlaceMeans (bs : List Board) (n channel : ℕ) : Type 0 where
  pub listed : (place_of bs n channel < n) ↔ ChannelListed bs n channel
  pub has : place_of bs n channel < n → channel_at bs (place_of bs n channel) ≡ channel

abbrev pub PlacesMean : Type 0
PlacesMean = (bs : List Board) (n channel : ℕ) → PlaceMeans bs n channel

-- the first n boards, with zeros in the unused places
unfoldable pub list_of : List Board → ℕ → List Board
list_of bs n = take n bs ++ replicate (max_boards - n) no_board
