-- docs/EXCHANGE.md, the words: "Words in any order, each name at most once. Decimal numbers, digits only (1 to 5 of them ..)." What is told
-- of "A word that is not taken" is no part of this. Assumes nothing.
use Rattle.std.specs.Prelude.{true, false, cond, ◌||◌, List, ℕ, Option, None, Some, is_some, unwrap_or, ltb, eqb, length, drop}
use Rattle.sequences.specs.Comparing.{begins_with}
use Rattle.commands.specs.Limits.{min_packet}
use Rattle.boards.specs.Boards.{first_channel, last_channel}
use Rattle.text.specs.Ascii.{ascii}
use Rattle.text.specs.Numbers.{number_said}
use Rattle.link.specs.Scripts.{all_letters}
use Rattle.words.specs.declared.words.Words.{Words}

-- the column "without it": the image is a text, and the script is empty
abbrev pub no_words : Words
no_words =
    record { image = None; link = None; channel = None; size = None; is_bad = false }

-- and so without a word the board's channel is 10, and the packets' size 16
abbrev pub board_channel : Words → ℕ
board_channel w = unwrap_or w.channel first_channel

abbrev pub packet_size : Words → ℕ
packet_size w = unwrap_or w.size min_packet

abbrev pub image_name : List ℕ
image_name = ascii "image="

abbrev pub channel_name : List ℕ
channel_name = ascii "channel="

abbrev pub size_name : List ℕ
size_name = ascii "size="

abbrev pub link_name : List ℕ
link_name = ascii "link="

-- what stands behind a word's name
abbrev pub behind_name : List ℕ → List ℕ → List ℕ
behind_name name word = drop (length name) word

-- "16 to 65,535"
abbrev pub most_size : ℕ
most_size = 65535

abbrev pub in_limits : ℕ → ℕ → Option ℕ → Option ℕ
in_limits least most None = None
in_limits least most (Some n) = cond (ltb n least || ltb most n) None (Some n)

-- the number that these digits say, if it is from `least` to `most`
abbrev pub number_between : ℕ → ℕ → List ℕ → Option ℕ
number_between least most digits = in_limits least most (number_said digits)

-- a word's place among the arguments, which docs/EXCHANGE.md leaves open: place 0 has the program's name and is no word's
abbrev pub place_said : ℕ → Option ℕ
place_said i = cond (eqb i 0) None (Some i)

module _ (w : Words) where
  -- "A word that is not taken": what the others said stays
  abbrev pub not_taken : Words
  not_taken =
      record {
        image = w.image;
        link = w.link;
        channel = w.channel;
        size = w.size;
        is_bad = true;
      }

  -- image, a file; the word's place is kept
  abbrev pub image_said : ℕ → Words
  image_said i =
      record {
        image = place_said i;
        link = w.link;
        channel = w.channel;
        size = w.size;
        is_bad = w.is_bad;
      }

  abbrev pub with_image : ℕ → Words
  with_image i = cond (is_some w.image) not_taken (image_said i)

  -- channel, 10 to 19
  abbrev pub channel_said : ℕ → Words
  channel_said n =
      record {
        image = w.image;
        link = w.link;
        channel = Some n;
        size = w.size;
        is_bad = w.is_bad;
      }

  abbrev pub channel_if : Option ℕ → Words
  channel_if None = not_taken
  channel_if (Some n) = channel_said n

  abbrev pub with_channel : Option ℕ → Words
  with_channel n = cond (is_some w.channel) not_taken (channel_if n)

  -- size, the sender's packet size, 16 to 65,535
  abbrev pub size_said : ℕ → Words
  size_said n =
      record {
        image = w.image;
        link = w.link;
        channel = w.channel;
        size = Some n;
        is_bad = w.is_bad;
      }

  abbrev pub size_if : Option ℕ → Words
  size_if None = not_taken
  size_if (Some n) = size_said n

  abbrev pub with_size : Option ℕ → Words
  with_size n = cond (is_some w.size) not_taken (size_if n)

  -- link, letters p, l, r, s, perhaps none; the word's place is kept
  abbrev pub link_said : ℕ → Words
  link_said i =
      record {
        image = w.image;
        link = place_said i;
        channel = w.channel;
        size = w.size;
        is_bad = w.is_bad;
      }

  abbrev pub with_link : ℕ → List ℕ → Words
  with_link i letters = cond (is_some w.link) not_taken (cond (all_letters letters) (link_said i) not_taken)

  -- what the words say with the one at place i of the arguments
  unfoldable pub word_said : ℕ → List ℕ → Words
  word_said i word =
      cond (begins_with word image_name) (with_image i)
      (cond (begins_with word channel_name) (with_channel (number_between first_channel last_channel (behind_name channel_name word)))
      (cond (begins_with word size_name) (with_size (number_between min_packet most_size (behind_name size_name word)))
      (cond (begins_with word link_name) (with_link i (behind_name link_name word)) not_taken)))
