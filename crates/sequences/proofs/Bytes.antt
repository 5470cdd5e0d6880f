-- Lists of bytes. Assumes nothing.
use mathlib.Core.List.{List, [], ◌∷◌, ◌++◌}
use Prim.Native.Nat.{ℕ, zero, suc, ◌<◌}
use native.Mathlib.Omega.{arith}
use lib.ListN.{take, drop, get_or}
use Rattle.sequences.specs.Bytes.{Bytes}

pub bytes_take : (n : ℕ) (s : List ℕ) → Bytes s → Bytes (take n s)
bytes_take zero s p = tt
bytes_take (suc n) [] p = p
bytes_take (suc n) (b ∷ s) p = (p.0, bytes_take n s p.1)

pub bytes_drop : (n : ℕ) (s : List ℕ) → Bytes s → Bytes (drop n s)
bytes_drop zero s p = p
bytes_drop (suc n) [] p = p
bytes_drop (suc n) (b ∷ s) p = bytes_drop n s p.1

pub bytes-append : (s t : List ℕ) → Bytes s → Bytes t → Bytes (s ++ t)
bytes-append [] t p q = q
bytes-append (b ∷ s) t p q = (p.0, bytes-append s t p.1 q)

-- past the end stands 0
pub bytes-at : (s : List ℕ) (i : ℕ) → Bytes s → get_or s i 0 < 256
bytes-at [] i p = omega arith
bytes-at (b ∷ s) zero p = p.0
bytes-at (b ∷ s) (suc i) p = bytes-at s i p.1
