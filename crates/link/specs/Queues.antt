-- The claim about the link: "One queue of frames under way, in the order in which they were sent". Assumes nothing.
use Rattle.std.specs.Prelude.{◌≡◌, ℕ, ◌+◌, ◌*◌, ◌<◌, ◌≤◌, List, length}
use Rattle.link.specs.declared.frame.Frame.{Frame}
use Rattle.link.specs.declared.link.Link.{Link}
use Rattle.link.specs.Links.{places, place_size, frame_under_way, with_sent, with_bytes, passed}

-- arrays of the lengths that their types say, and memory for all places
pub record Fits (l : Link) (f : Frame) (memory : List ℕ) : Type 0 where
  pub heads : length l.heads ≡ places
  pub bytes : length f.bytes ≡ place_size
  pub room : places * place_size ≤ length memory

-- a frame that is sent is behind the others, and these stay as they are
pub record Behind (l : Link) (f : Frame) (memory : List ℕ) : Type 0 where
  pub last : frame_under_way (with_sent l f) (with_bytes l f memory) l.count ≡ f
  pub others : (i : ℕ) → i < l.count → frame_under_way (with_sent l f) (with_bytes l f memory) i ≡ frame_under_way l memory i

pub record InOrder : Type 0 where
  pub sent : (l : Link) (f : Frame) (memory : List ℕ) → Fits l f memory → l.count < places → Behind l f memory
  -- when the oldest has arrived the others have moved up
  pub arrived : (l : Link) → 0 < l.count → (memory : List ℕ) (i : ℕ) → frame_under_way (passed l) memory i ≡ frame_under_way l memory (i + 1)
