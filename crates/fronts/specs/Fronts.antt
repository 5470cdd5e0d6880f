-- 01, "Live reading": what stands at the front of some bytes: "a whole frame", "a front that can no longer become a frame" (Dead),
-- or one that still may (Open). The tests are in the order of the bytes: a front is judged as soon as the bytes for a test are there.
-- Assumes nothing.
use Rattle.std.specs.Prelude.{◌≡◌, ℕ, ◌+◌, ◌/◌, ◌<◌, ◌≤◌, Bool, true, false, ◌↔◌, List, ◌++◌, length, take, ◌==◌, ◌≢◌, nat_le, slice_index}
use Rattle.std.proofs.Math.Seq.{slice}
use Rattle.fronts.specs.declared.front.Front.{Front}
use Rattle.fronts.specs.declared.front.Front.TheVariants.{Whole, Dead, Open}
use Rattle.sequences.specs.Bytes.{Bytes}
use Rattle.fronts.specs.Frame.{head1, head2, max_data, header_size, frame_size, sum_byte, WholeFrame, length_at}

abbrev pub by_test : Bool → Bool → Front → Front
by_test true true next = next
by_test true false next = Dead
by_test false passes next = Open

-- one test: with fewer than `need` of the `have` bytes the front is open; with `need` or more it is dead where the test fails
abbrev pub test : ℕ → ℕ → Bool → Front → Front
test need have passes next = by_test (nat_le need have) passes next

-- At five bytes a high length byte above that of 519 is enough: every length it can begin is too large.
unfoldable pub front_of : List ℕ → Front
front_of s =
    let n = length s in
    let L = length_at s in
    test 1 n (slice_index s 0 == head1)
    (test 2 n (slice_index s 1 == head2)
    (test 5 n (nat_le (slice_index s 4) (max_data / 256))
    (test 6 n (nat_le L max_data)
    (test (frame_size L) n (slice_index s (header_size + L) == sum_byte (take (header_size + L) s)) Whole))))

abbrev pub is_whole : Front → Bool
is_whole Whole = true
is_whole Dead = false
is_whole Open = false

-- some bytes behind s make a frame begin at its first byte: it can still become one
pub record Completable (s : List ℕ) : Type 0 where
  pub tail : List ℕ
  pub bytes : Bytes tail
  pub whole : WholeFrame (s ++ tail)

-- What the three fronts of a byte sequence mean; bytes behind a decided one change nothing.
pub record FrontMeans (s : List ℕ) : Type 0 where
  pub whole : (front_of s ≡ Whole) ↔ WholeFrame s
  pub dead : (front_of s ≡ Dead) ↔ (Completable s → ⊥)
  pub undecided : (front_of s ≡ Open) ↔ ((WholeFrame s → ⊥) × Completable s)
  pub decided : (behind : List ℕ) → (front_of s ≢ Open) → front_of (s ++ behind) ≡ front_of s

-- The claim, of all bytes.
abbrev pub FrontsMean : Type 0
FrontsMean = (s : List ℕ) → Bytes s → FrontMeans s

-- The front of v from `from` on, open at `to`, stays open until `more` bytes more are there.
pub record Missing (v : List ℕ) (from to more : ℕ) : Type 0 where
  pub some : 0 < more
  pub undecided : (t : ℕ) → to ≤ t → t < to + more → t ≤ length v → front_of (slice from t v) ≡ Open
