-- What the words say is in range: the board's channel is 10 to 19, the sender's packet size 16 to 65,535, the most that its number can
-- be. So neither end refuses to open. Assumes nothing.
use Rattle.std.specs.Prelude.{ℕ, ◌≤◌, List}
use Rattle.commands.specs.Limits.{min_packet}
use Rattle.boards.specs.Boards.{first_channel, last_channel}
use Rattle.words.specs.declared.words.Words.{Words}
use Rattle.words.specs.Sayings.{board_channel, packet_size, no_words, not_taken, word_said}

pub record InRange (w : Words) : Type 0 where
  pub first-channel : first_channel ≤ board_channel w
  pub last-channel : board_channel w ≤ last_channel
  pub least_size : min_packet ≤ packet_size w

-- the claim: it is so without a word, and stays so with every word, taken or not
pub record StayInRange : Type 0 where
  pub none : InRange no_words
  pub refused : (w : Words) → InRange w → InRange (not_taken w)
  pub said : (w : Words) → InRange w → (i : ℕ) (word : List ℕ) → InRange (word_said w i word)
