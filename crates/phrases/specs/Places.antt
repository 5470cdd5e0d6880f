-- The places of the commands in the table of docs/CONSOLE.md. Assumes nothing.
use Rattle.std.specs.Prelude.{◌≡◌, ℕ}
use Rattle.text.specs.Ascii.{ascii}
use Rattle.phrases.specs.Names.{command_place}

abbrev pub room_at : ℕ
room_at = 0

abbrev pub area_at : ℕ
area_at = 1

abbrev pub image_at : ℕ
image_at = 2

abbrev pub write_room_at : ℕ
write_room_at = 3

abbrev pub write_area_at : ℕ
write_area_at = 4

abbrev pub write_image_at : ℕ
write_image_at = 5

abbrev pub board_command_at : ℕ
board_command_at = 6

abbrev pub open_at : ℕ
open_at = 7

abbrev pub feed_at : ℕ
feed_at = 8

abbrev pub quiet_at : ℕ
quiet_at = 9

abbrev pub portion_at : ℕ
portion_at = 10

abbrev pub report_at : ℕ
report_at = 11

abbrev pub show_at : ℕ
show_at = 12

abbrev pub set_boards_at : ℕ
set_boards_at = 13

abbrev pub set_board_at : ℕ
set_board_at = 14

abbrev pub set_opened_at : ℕ
set_opened_at = 15

abbrev pub set_holding_at : ℕ
set_holding_at = 16

abbrev pub set_held_at : ℕ
set_held_at = 17

abbrev pub set_phase_idle_at : ℕ
set_phase_idle_at = 18

abbrev pub set_phase_asked_at : ℕ
set_phase_asked_at = 19

abbrev pub set_phase_told_at : ℕ
set_phase_told_at = 20

abbrev pub set_phase_receiving_at : ℕ
set_phase_receiving_at = 21

abbrev pub set_phase_done_at : ℕ
set_phase_done_at = 22

abbrev pub set_channel_at : ℕ
set_channel_at = 23

abbrev pub set_agreed_at : ℕ
set_agreed_at = 24

abbrev pub set_next_at : ℕ
set_next_at = 25

abbrev pub set_stored_at : ℕ
set_stored_at = 26

abbrev pub set_image_channel_at : ℕ
set_image_channel_at = 27

abbrev pub set_version_at : ℕ
set_version_at = 28

abbrev pub set_announced_at : ℕ
set_announced_at = 29

abbrev pub set_md5_at : ℕ
set_md5_at = 30

abbrev pub set_crc_at : ℕ
set_crc_at = 31

abbrev pub set_last_at : ℕ
set_last_at = 32

abbrev pub set_checking_at : ℕ
set_checking_at = 33

abbrev pub set_read_at : ℕ
set_read_at = 34

abbrev pub set_register_at : ℕ
set_register_at = 35

abbrev pub sender_open_at : ℕ
sender_open_at = 36

abbrev pub sender_request_at : ℕ
sender_request_at = 37

abbrev pub sender_reply_at : ℕ
sender_reply_at = 38

abbrev pub sender_silence_at : ℕ
sender_silence_at = 39

abbrev pub sender_show_at : ℕ
sender_show_at = 40

abbrev pub sender_set_channel_at : ℕ
sender_set_channel_at = 41

abbrev pub sender_set_pid_at : ℕ
sender_set_pid_at = 42

abbrev pub sender_set_version_at : ℕ
sender_set_version_at = 43

abbrev pub sender_set_md5_at : ℕ
sender_set_md5_at = 44

abbrev pub sender_set_size_at : ℕ
sender_set_size_at = 45

abbrev pub sender_set_length_at : ℕ
sender_set_length_at = 46

abbrev pub sender_set_phase_asking_at : ℕ
sender_set_phase_asking_at = 47

abbrev pub sender_set_phase_telling_at : ℕ
sender_set_phase_telling_at = 48

abbrev pub sender_set_phase_placing_at : ℕ
sender_set_phase_placing_at = 49

abbrev pub sender_set_phase_sending_at : ℕ
sender_set_phase_sending_at = 50

abbrev pub sender_set_phase_ending_at : ℕ
sender_set_phase_ending_at = 51

abbrev pub sender_set_phase_done_at : ℕ
sender_set_phase_done_at = 52

abbrev pub sender_set_phase_given_up_at : ℕ
sender_set_phase_given_up_at = 53

abbrev pub sender_set_place_at : ℕ
sender_set_place_at = 54

abbrev pub sender_set_number_at : ℕ
sender_set_number_at = 55

abbrev pub sender_set_silences_at : ℕ
sender_set_silences_at = 56

abbrev pub sender_set_legs_at : ℕ
sender_set_legs_at = 57

-- the claim: each stands at the place where its name is found. So no name begins with another's and a space
pub record PlacesNamed : Type 0 where
  pub at_room : command_place (ascii "room") ≡ room_at
  pub at-area : command_place (ascii "area") ≡ area_at
  pub at-image : command_place (ascii "image") ≡ image_at
  pub at_write_room : command_place (ascii "write room") ≡ write_room_at
  pub at_write_area : command_place (ascii "write area") ≡ write_area_at
  pub at_write_image : command_place (ascii "write image") ≡ write_image_at
  pub at-board : command_place (ascii "board") ≡ board_command_at
  pub at_open : command_place (ascii "open") ≡ open_at
  pub at_feed : command_place (ascii "feed") ≡ feed_at
  pub at-quiet : command_place (ascii "quiet") ≡ quiet_at
  pub at-portion : command_place (ascii "portion") ≡ portion_at
  pub at_report : command_place (ascii "report") ≡ report_at
  pub at_show : command_place (ascii "show") ≡ show_at
  pub at_set_boards : command_place (ascii "set boards") ≡ set_boards_at
  pub at-set-board : command_place (ascii "set board") ≡ set_board_at
  pub at-set-opened : command_place (ascii "set opened") ≡ set_opened_at
  pub at-set-holding : command_place (ascii "set holding") ≡ set_holding_at
  pub at-set-held : command_place (ascii "set held") ≡ set_held_at
  pub at_set_phase_idle : command_place (ascii "set phase idle") ≡ set_phase_idle_at
  pub at_set_phase_asked : command_place (ascii "set phase asked") ≡ set_phase_asked_at
  pub at_set_phase_told : command_place (ascii "set phase told") ≡ set_phase_told_at
  pub at_set_phase_receiving : command_place (ascii "set phase receiving") ≡ set_phase_receiving_at
  pub at_set_phase_done : command_place (ascii "set phase done") ≡ set_phase_done_at
  pub at-set-channel : command_place (ascii "set channel") ≡ set_channel_at
  pub at-set-agreed : command_place (ascii "set agreed") ≡ set_agreed_at
  pub at-set-next : command_place (ascii "set next") ≡ set_next_at
  pub at-set-stored : command_place (ascii "set stored") ≡ set_stored_at
  pub at-set-image-channel : command_place (ascii "set image-channel") ≡ set_image_channel_at
  pub at-set-version : command_place (ascii "set version") ≡ set_version_at
  pub at-set-announced : command_place (ascii "set announced") ≡ set_announced_at
  pub at-set-md5 : command_place (ascii "set md5") ≡ set_md5_at
  pub at-set-crc : command_place (ascii "set crc") ≡ set_crc_at
  pub at-set-last : command_place (ascii "set last") ≡ set_last_at
  pub at-set-checking : command_place (ascii "set checking") ≡ set_checking_at
  pub at-set-read : command_place (ascii "set read") ≡ set_read_at
  pub at_set_register : command_place (ascii "set register") ≡ set_register_at
  pub at_sender_open : command_place (ascii "sender open") ≡ sender_open_at
  pub at-sender-request : command_place (ascii "sender request") ≡ sender_request_at
  pub at-sender-reply : command_place (ascii "sender reply") ≡ sender_reply_at
  pub at-sender-silence : command_place (ascii "sender silence") ≡ sender_silence_at
  pub at_sender_show : command_place (ascii "sender show") ≡ sender_show_at
  pub at-sender-set-channel : command_place (ascii "sender set channel") ≡ sender_set_channel_at
  pub at-sender-set-pid : command_place (ascii "sender set pid") ≡ sender_set_pid_at
  pub at-sender-set-version : command_place (ascii "sender set version") ≡ sender_set_version_at
  pub at-sender-set-md5 : command_place (ascii "sender set md5") ≡ sender_set_md5_at
  pub at-sender-set-size : command_place (ascii "sender set size") ≡ sender_set_size_at
  pub at-sender-set-length : command_place (ascii "sender set length") ≡ sender_set_length_at
  pub at_sender_set_phase_asking : command_place (ascii "sender set phase asking") ≡ sender_set_phase_asking_at
  pub at_sender_set_phase_telling : command_place (ascii "sender set phase telling") ≡ sender_set_phase_telling_at
  pub at_sender_set_phase_placing : command_place (ascii "sender set phase placing") ≡ sender_set_phase_placing_at
  pub at_sender_set_phase_sending : command_place (ascii "sender set phase sending") ≡ sender_set_phase_sending_at
  pub at_sender_set_phase_ending : command_place (ascii "sender set phase ending") ≡ sender_set_phase_ending_at
  pub at_sender_set_phase_done : command_place (ascii "sender set phase done") ≡ sender_set_phase_done_at
  pub at_sender_set_phase_given_up : command_place (ascii "sender set phase given-up") ≡ sender_set_phase_given_up_at
  pub at-sender-set-place : command_place (ascii "sender set place") ≡ sender_set_place_at
  pub at-sender-set-number : command_place (ascii "sender set number") ≡ sender_set_number_at
  pub at-sender-set-silences : command_place (ascii "sender set silences") ≡ sender_set_silences_at
  pub at-sender-set-legs : command_place (ascii "sender set legs") ≡ sender_set_legs_at
