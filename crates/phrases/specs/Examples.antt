-- Lines and messages that can be read: docs/CONSOLE.md, "Commands" and "Bad lines". Assumes nothing.
use Rattle.std.specs.Prelude.{◌≡◌, [], ◌∷◌}
use Rattle.text.specs.Ascii.{ascii}
use Rattle.text.specs.Outputs.{as_one}
use Rattle.phrases.specs.declared.phrase.Trouble.TheVariants.{Unknown, FirstNumber, SecondNumber, More, Digits, Count}
use Rattle.phrases.specs.Table.{row_count}
use Rattle.phrases.specs.Phrases.{fine, troubled}
use Rattle.phrases.specs.Phrases.{phrase_of, bytes_of}
use Rattle.phrases.specs.Messages.{trouble_texts}

-- the command's place in the table, its numbers, how many bytes
pub record GoodLines : Type 0 where
  pub most : phrase_of (ascii "room 65536") ≡ fine 0 65536 0 0
  pub spaces : phrase_of (ascii "open  007   20 ") ≡ fine 7 7 20 0
  pub largest : phrase_of (ascii "portion 18446744073709551615") ≡ fine 10 18446744073709551615 0 0
  pub no_bytes : phrase_of (ascii "feed") ≡ fine 8 0 0 0
  pub longer_name : phrase_of (ascii "set boards 3") ≡ fine 13 3 0 0
  pub pairs : phrase_of (ascii "write area 5  55aA 00FE ") ≡ fine 4 5 0 4
  pub their_bytes : bytes_of (ascii "write area 5  55aA 00FE ") ≡ 0x55 ∷ 0xAA ∷ 0x00 ∷ 0xFE ∷ []
  pub crc : bytes_of (ascii "set crc CBF43926") ≡ 0xCB ∷ 0xF4 ∷ 0x39 ∷ 0x26 ∷ []

-- the command's place in the table, and what is the trouble
pub record BadLines : Type 0 where
  pub empty : phrase_of (ascii "") ≡ troubled row_count Unknown
  pub no-space : phrase_of (ascii "room5") ≡ troubled row_count Unknown
  pub missing : phrase_of (ascii "room") ≡ troubled 0 FirstNumber
  pub none : phrase_of (ascii "open x") ≡ troubled 7 FirstNumber
  pub many_digits : phrase_of (ascii "room 000000000000000000005") ≡ troubled 0 FirstNumber
  pub above : phrase_of (ascii "portion 18446744073709551616") ≡ troubled 10 FirstNumber
  pub above-second : phrase_of (ascii "board 9 2 00") ≡ troubled 6 SecondNumber
  pub something : phrase_of (ascii "quiet 1") ≡ troubled 9 More
  pub half : phrase_of (ascii "feed 5 5") ≡ troubled 8 Digits
  pub fewer : phrase_of (ascii "set version 0102") ≡ troubled 28 Count
  pub no_bytes : bytes_of (ascii "set version 0102") ≡ []

pub record MessageExamples : Type 0 where
  pub number : as_one (trouble_texts (troubled 0 FirstNumber)) ≡ ascii "number 1 is 0 to 65536"
  pub count : as_one (trouble_texts (troubled 28 Count)) ≡ ascii "3 bytes are expected"
