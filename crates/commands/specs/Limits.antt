-- 01: the limits, for both ends of the service. Assumes nothing.
use Rattle.std.specs.Prelude.{ℕ}

-- FA: flag 1 "if .. Len1 is below 16"
abbrev pub min_packet : ℕ
min_packet = 16

-- "Len2 = 512"
abbrev pub max_packet : ℕ
max_packet = 512

-- the longest reply's data: FB's
abbrev pub max_reply : ℕ
max_reply = 26

-- "After number 65,535 no packet is next"
abbrev pub max_next : ℕ
max_next = 65536

-- "the area's length, 1 to 1,048,576"
abbrev pub max_area : ℕ
max_area = 1048576
