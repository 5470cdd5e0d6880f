-- How many bytes a frame has. Assumes nothing.
use Rattle.std.proofs.Common.{◌≡◌, ◌+◌, [], ◌∷◌, length, arith, length-append}
use Rattle.fronts.specs.Frame.{header_size, sum_byte, Frame, unsummed, encode, EncodedSize}

pub unsummed-size : (f : Frame) → length (unsummed f) ≡ header_size + length f.payload
unfolding unsummed
unsummed-size f = omega arith

pub encode-size : EncodedSize
unfolding encode
encode-size f = omega (arith, unsummed-size f, length-append (unsummed f) (sum_byte (unsummed f) ∷ []))
