-- How much of an image stands in its area. 01, "How the session answers": "the data is written from place stored on, into that part of
-- the area only; stored grows by n". Document 02, K2: "the last packet's length". Assumes nothing.
use Rattle.std.specs.Prelude.{◌≡◌, Bool, cond, not, ◌&&◌, List, ℕ, ◌+◌, ◌-◌, ◌≤◌, leb, eqb, length, take, drop}
use Rattle.sequences.specs.Comparing.{same}
use Rattle.sequences.specs.Places.{written_at}
use Rattle.image.specs.declared.progress.Progress.{Progress}

-- "the area's first stored bytes"
abbrev pub first_stored : Progress → List ℕ → List ℕ
first_stored p area = take p.stored area

-- so much is stored, and no packet is the last one: "0 after FC and whenever stored becomes 0"
abbrev pub progress_from : ℕ → Progress
progress_from n = record { stored = n; last = 0 }

-- n bytes more, in one packet
abbrev pub grown_by : Progress → ℕ → Progress
grown_by p n = record { stored = p.stored + n; last = n }

-- the next bytes "written from place stored on" are counted; where they do not fit none are written, and none counted
unfoldable pub storing : Progress → List ℕ → List ℕ → Progress
storing p bytes area = cond (leb (p.stored + length bytes) (length area)) (grown_by p (length bytes)) p

-- "the area's last stored bytes", as many as the packet taken last has
abbrev pub last_stored : Progress → List ℕ → List ℕ
last_stored p area = take p.last (drop (p.stored - p.last) area)

-- bytes "whose length .. is that of the packet accepted last in this leg" and which "equal the area's last stored bytes"; "while it is 0
-- the test never holds"
unfoldable pub is_last : Progress → List ℕ → List ℕ → Bool
is_last p bytes area = not (eqb p.last 0) && (eqb (length bytes) p.last && same bytes (last_stored p area))

-- What is counted stands in the area. Bytes that fit are the last stored ones afterwards, behind what was stored before; that
-- nothing else changes is `WritesOnly`.
pub record StoresBytes (p : Progress) (bytes area : List ℕ) : Type 0 where
  pub counted : p.stored + length bytes ≤ length area → storing p bytes area ≡ grown_by p (length bytes)
  pub there : p.stored + length bytes ≤ length area → last_stored (storing p bytes area) (written_at area p.stored bytes) ≡ bytes
  pub before : first_stored p (written_at area p.stored bytes) ≡ first_stored p area

-- The claim.
abbrev pub Stores : Type 0
Stores = (p : Progress) (bytes area : List ℕ) → StoresBytes p bytes area
