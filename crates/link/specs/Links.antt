-- The link: "One queue of frames under way, in the order in which they were sent, both directions together. It has 64 places." The
-- places go round; the memory holds 526 bytes for each. Assumes nothing.
use Rattle.std.specs.Prelude.{ℕ, ◌+◌, ◌-◌, ◌*◌, ◌%◌, cond, List, take, drop, replicate, ◌==◌, nat_lt, slice_index_or, slice_set}
use Rattle.sequences.specs.Places.{written_at}
use Rattle.link.specs.declared.frame.Frame.{Frame}
use Rattle.link.specs.declared.frame.Way.TheVariants.{ToController}
use Rattle.link.specs.declared.link.Head.{Head}
use Rattle.link.specs.declared.link.Link.{Link}

abbrev pub places : ℕ
places = 64

-- the longest frame's bytes
abbrev pub place_size : ℕ
place_size = 526

-- where the bytes at a place begin, and the bytes
abbrev pub place_start : ℕ → ℕ
place_start place = place * place_size

abbrev pub bytes_at : List ℕ → ℕ → List ℕ
bytes_at memory place = take place_size (drop (place_start place) memory)

-- what no frame has left at a place, and of a frame what stands there beside its bytes
abbrev pub no_head : Head
no_head = record { way = ToController; length = 0 }

abbrev pub head_of : Frame → Head
head_of f = record { way = f.way; length = f.length }

-- nothing is under way
abbrev pub no_frames : Link
no_frames = record { first = 0; count = 0; heads = replicate places no_head }

-- the place of the frame before which i others arrive
abbrev pub ring_place : Link → ℕ → ℕ
ring_place l i = (l.first + i) % places

-- what stands at a place
abbrev pub frame_in : Link → List ℕ → ℕ → Frame
frame_in l memory place =
    let head = slice_index_or l.heads place no_head in
    record { way = head.way; bytes = bytes_at memory place; length = head.length }

-- the frame under way before which i others arrive
abbrev pub frame_under_way : Link → List ℕ → ℕ → Frame
frame_under_way l memory i = frame_in l memory (ring_place l i)

-- a frame goes "under way" at the place behind the others: so the record,
abbrev pub with_sent : Link → Frame → Link
with_sent l f =
    record { first = l.first; count = l.count + 1; heads = slice_set l.heads (ring_place l l.count) (head_of f) }

-- and so the memory
abbrev pub with_bytes : Link → Frame → List ℕ → List ℕ
with_bytes l f memory = written_at memory (place_start (ring_place l l.count)) f.bytes

-- "A copy for which all 64 places are taken is lost": then nothing changes
abbrev pub sent_link : Link → Frame → Link
sent_link l f = cond (nat_lt l.count places) (with_sent l f) l

abbrev pub sent_memory : Link → Frame → List ℕ → List ℕ
sent_memory l f memory = cond (nat_lt l.count places) (with_bytes l f memory) memory

-- "the oldest frame under way arrives": it is under way no more; without frames nothing changes
abbrev pub passed : Link → Link
passed l =
    cond (l.count == 0)
    l
    (record { first = ring_place l 1; count = l.count - 1; heads = l.heads })
