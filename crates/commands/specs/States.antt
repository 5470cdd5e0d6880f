-- 01, "How the session answers": the states in the controller's replies, by command, and FA's flag. Assumes nothing.
use Rattle.std.specs.Prelude.{ℕ}

-- every command that has a state: granted; FE: "Otherwise 00, phase done"
abbrev pub granted : ℕ
granted = 0

-- "Flag 1 if the board has no permit or Len1 is below 16"
abbrev pub denied_fa : ℕ
denied_fa = 1

-- "PID differs, 01"
abbrev pub other_pid_fb : ℕ
other_pid_fb = 1

-- "version not above the board's soft one, 02"
abbrev pub old_version_fb : ℕ
old_version_fb = 2

-- "length 0 or above the area's, 03"; FB has no greater state
abbrev pub bad_length_fb : ℕ
bad_length_fb = 3

-- "number is not the next, 01"
abbrev pub other_number_fd : ℕ
other_number_fd = 1

-- "n differs from L - 7, or n is 0, or above the agreed size, or stored + n above announced, 02"
abbrev pub bad_size_fd : ℕ
bad_size_fd = 2

-- "CRC-16 wrong, 03"
abbrev pub bad_crc_fd : ℕ
bad_crc_fd = 3

-- "not receiving or not the session's channel, 04"; FD has no greater state
abbrev pub not_receiving_fd : ℕ
not_receiving_fd = 4

-- "Stored is not announced: 01"
abbrev pub incomplete_fe : ℕ
incomplete_fe = 1

-- "State 02 of the page is never sent."
abbrev pub never_sent_fe : ℕ
never_sent_fe = 2

-- "Not receiving or done, or another channel: 03"; "CRC-32 of the area's first announced bytes differs: 03"; FE has no greater state
abbrev pub refused_fe : ℕ
refused_fe = 3
