-- 01, "The frame": what the bytes of a frame are.
--
-- "Bytes: 55, AA, version, command, data length L in two bytes, L data bytes, one sum byte. The sum is all bytes before it, added
-- modulo 256 .. A frame has 7 + L bytes. L is 0 to 519; 55 AA followed by a larger L is no frame. Version and command may be anything
-- at this level. All numbers are high byte first".
-- Assumes nothing.
use Rattle.std.specs.Prelude.{◌≡◌, ℕ, ◌+◌, ◌/◌, ◌%◌, ◌<◌, ◌≤◌, List, [], ◌∷◌, ◌++◌, length, take, drop, slice_index}
use Rattle.sequences.specs.Bytes.{Bytes}
use Rattle.sequences.specs.Numbers.{number16}

abbrev pub head1 : ℕ
head1 = 0x55

abbrev pub head2 : ℕ
head2 = 0xAA

-- "L is 0 to 519"
abbrev pub max_data : ℕ
max_data = 519

-- the bytes before the data: two head bytes, version, command, L
abbrev pub header_size : ℕ
header_size = 6

-- "A frame has 7 + L bytes"
abbrev pub frame_size : ℕ → ℕ
frame_size L = 7 + L

-- the bytes of the longest frame
abbrev pub max_frame : ℕ
max_frame = frame_size max_data

abbrev pub total : List ℕ → ℕ
total [] = 0
total (b ∷ s) = b + total s

-- "all bytes before it, added modulo 256"
abbrev pub sum_byte : List ℕ → ℕ
sum_byte s = total s % 256

-- a frame; `payload` is its data bytes
pub record Frame : Type 0 where
  pub version : ℕ
  pub command : ℕ
  pub payload : List ℕ

-- a frame all of whose fields are bytes
pub record FrameBytes (f : Frame) : Type 0 where
  pub version : f.version < 256
  pub command : f.command < 256
  pub payload : Bytes f.payload

-- a frame's bytes before the sum
unfoldable pub unsummed : Frame → List ℕ
unsummed f =
    let L = length f.payload in
    head1 ∷ head2 ∷ f.version ∷ f.command ∷ L / 256 ∷ L % 256 ∷ f.payload

-- a frame's bytes
unfoldable pub encode : Frame → List ℕ
unfolding unsummed
encode f = unsummed f ++ (sum_byte (unsummed f) ∷ [])

-- a whole frame begins at the first byte of s
pub record WholeFrame (s : List ℕ) : Type 0 where
  pub frame : Frame
  pub small : length frame.payload ≤ max_data
  pub behind : List ℕ
  pub joined : encode frame ++ behind ≡ s

-- The fields at the front of s, where they stand if a frame begins there; L is "high byte first".
abbrev pub length_at : List ℕ → ℕ
length_at s = number16 (slice_index s 4) (slice_index s 5)

unfoldable pub frame_at : List ℕ → Frame
frame_at s = record { version = slice_index s 2; command = slice_index s 3; payload = take (length_at s) (drop header_size s) }

-- The claim: "A frame has 7 + L bytes".
abbrev pub EncodedSize : Type 0
EncodedSize = (f : Frame) → length (encode f) ≡ frame_size (length f.payload)
