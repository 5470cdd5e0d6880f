-- Lines of docs/CONSOLE.md's grammar, by computation from the definitions. Assumes nothing.
use mathlib.Core.Path.{refl}
use Rattle.sequences.specs.Comparing.{same}
use Rattle.sequences.specs.Search.{find}
use Rattle.text.specs.Decimals.{decimal_within}
use Rattle.phrases.specs.Spaces.{front_count}
use Rattle.phrases.specs.Table.{command_table, command_row}
use Rattle.phrases.specs.Names.{is_named, command_place}
use Rattle.phrases.specs.Numbers.{value_behind, number_of, number_in}
use Rattle.phrases.specs.Pairs.{hex_of, are_pairs, bytes_in}
use Rattle.phrases.specs.Phrases.{trouble_behind_numbers, trouble_behind_name, phrase_with, taken, phrase_behind_name}
use Rattle.phrases.specs.Phrases.{bytes_behind_name, phrase_of, bytes_of}
use Rattle.phrases.specs.Places.{PlacesNamed}
use Rattle.phrases.specs.Examples.{GoodLines, BadLines, MessageExamples}

pub good_lines : GoodLines
unfolding phrase_of bytes_of phrase_behind_name bytes_behind_name phrase_with taken trouble_behind_name trouble_behind_numbers command_place is_named
    find same command_row command_table number_in number_of value_behind front_count hex_of are_pairs bytes_in
good_lines =
    record {
      most = refl;
      spaces = refl;
      largest = refl;
      no_bytes = refl;
      longer_name = refl;
      pairs = refl;
      their_bytes = refl;
      crc = refl;
    }

pub bad_lines : BadLines
unfolding phrase_of bytes_of phrase_behind_name bytes_behind_name phrase_with taken trouble_behind_name trouble_behind_numbers command_place is_named
    find same command_row command_table number_in number_of value_behind front_count hex_of are_pairs bytes_in
bad_lines =
    record {
      empty = refl;
      no-space = refl;
      missing = refl;
      none = refl;
      many_digits = refl;
      above = refl;
      above-second = refl;
      something = refl;
      half = refl;
      fewer = refl;
      no_bytes = refl;
    }

pub places_named : PlacesNamed
unfolding command_place is_named find same command_row command_table
places_named =
    record {
      at_room = refl;
      at-area = refl;
      at-image = refl;
      at_write_room = refl;
      at_write_area = refl;
      at_write_image = refl;
      at-board = refl;
      at_open = refl;
      at_feed = refl;
      at-quiet = refl;
      at-portion = refl;
      at_report = refl;
      at_show = refl;
      at_set_boards = refl;
      at-set-board = refl;
      at-set-opened = refl;
      at-set-holding = refl;
      at-set-held = refl;
      at_set_phase_idle = refl;
      at_set_phase_asked = refl;
      at_set_phase_told = refl;
      at_set_phase_receiving = refl;
      at_set_phase_done = refl;
      at-set-channel = refl;
      at-set-agreed = refl;
      at-set-next = refl;
      at-set-stored = refl;
      at-set-image-channel = refl;
      at-set-version = refl;
      at-set-announced = refl;
      at-set-md5 = refl;
      at-set-crc = refl;
      at-set-last = refl;
      at-set-checking = refl;
      at-set-read = refl;
      at_set_register = refl;
      at_sender_open = refl;
      at-sender-request = refl;
      at-sender-reply = refl;
      at-sender-silence = refl;
      at_sender_show = refl;
      at-sender-set-channel = refl;
      at-sender-set-pid = refl;
      at-sender-set-version = refl;
      at-sender-set-md5 = refl;
      at-sender-set-size = refl;
      at-sender-set-length = refl;
      at_sender_set_phase_asking = refl;
      at_sender_set_phase_telling = refl;
      at_sender_set_phase_placing = refl;
      at_sender_set_phase_sending = refl;
      at_sender_set_phase_ending = refl;
      at_sender_set_phase_done = refl;
      at_sender_set_phase_given_up = refl;
      at-sender-set-place = refl;
      at-sender-set-number = refl;
      at-sender-set-silences = refl;
      at-sender-set-legs = refl;
    }

pub message_examples : MessageExamples
unfolding command_row command_table decimal_within
message_examples = record { number = refl; count = refl }
