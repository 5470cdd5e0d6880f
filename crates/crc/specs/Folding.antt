-- Folding: a message is swept, byte after byte, over a multiple of the polynomial that has few terms. The last bytes swept then stand for
-- the register, and no table was asked. docs/CHECKSUMS.md has a worked example. Internal: the crates above cite these, no contract of a
-- checksum does.
-- Assumes nothing.
use Rattle.std.specs.Prelude.{◌≡◌, Bool, true, ◌&&◌, List, [], ◌∷◌, ℕ, zero, suc, ◌+◌, ◌-◌, ◌≤◌, ◌<◌, leb, length, take, drop, get_or, set, replicate}
use Rattle.std.specs.Int.Bits.{bit_xor}
use Rattle.crc.specs.Crc.{Kind, byte_step, update}
use Rattle.crc.specs.Tables.{zero_bytes, front, rest}

-- the sum of f over the offsets
abbrev pub sum_over : List ℕ → (ℕ → ℕ) → ℕ
sum_over [] f = 0
sum_over (a ∷ os) f = bit_xor (f a) (sum_over os f)

-- every offset is from least to most
abbrev pub Within : ℕ → ℕ → List ℕ → Type 0
Within least most offs = (n : ℕ) → n < length offs → (least ≤ get_or offs n 0) × (get_or offs n 0 ≤ most)

-- the same as a test
unfoldable pub all_within : ℕ → ℕ → List ℕ → Bool
all_within least most [] = true
all_within least most (a ∷ os) = leb least a && (leb a most && all_within least most os)

-- In bytes, x^8d and the x^8(d - a), for each offset a, add up to a multiple of the polynomial: d bytes of zero after a byte leave the
-- register that d - a of them do, added up over the offsets
unfoldable pub Multiple : Kind → ℕ → List ℕ → Type 0
Multiple k d offs = (j : ℕ) → j < 256 → zero_bytes k d (byte_step k 0 j) ≡ sum_over offs (λ (a : ℕ). zero_bytes k (d - a) (byte_step k 0 j))

-- what the bytes before place p add to it
abbrev pub gathered : List ℕ → List ℕ → ℕ → ℕ
gathered offs b p = sum_over offs (λ (a : ℕ). get_or b (p - a) 0)

-- the bytes s swept into b from place p on
unfoldable pub swept : List ℕ → ℕ → List ℕ → List ℕ → List ℕ
swept offs p [] b = b
swept offs p (x ∷ s) b = swept offs (p + 1) s (set b p (bit_xor x (gathered offs b p)))

-- the n bytes that, swept in from place p on behind what b has before it, give what b has there
unfoldable pub unswept : List ℕ → ℕ → ℕ → List ℕ → List ℕ
unswept offs p zero b = []
unswept offs p (suc n) b = bit_xor (get_or b p 0) (gathered offs b p) ∷ unswept offs (p + 1) n b

-- What is tested before anything is swept: n bytes from place p on lie in a buffer of that size, and no offset leads out of it
unfoldable pub sweepable : List ℕ → ℕ → ℕ → ℕ → Bool
sweepable offs p n size = all_within 0 p offs && leb (p + n) size

-- and before n bytes are moved down in one: they lie in it, and are to go no higher
unfoldable pub movable : ℕ → ℕ → ℕ → ℕ → Bool
movable from to n size = leb to from && leb (from + n) size

-- the register that the first p swept bytes stand for
abbrev pub standing : Kind → List ℕ → ℕ → List ℕ → ℕ
standing k offs p b = bit_xor (update k 0 (take p b)) (sum_over offs (λ (a : ℕ). update k 0 (take (p - a) b)))

-- b begins with d zeros, and then with d swept bytes that stand for the register r
unfoldable pub Stands : Kind → ℕ → List ℕ → ℕ → List ℕ → Type 0
Stands k d offs r b = (standing k offs d (drop d b) ≡ r) × (take d b ≡ replicate d 0)

-- whatever register b stands for, c stands for it after the bytes s
abbrev pub Carries : Kind → ℕ → List ℕ → List ℕ → List ℕ → List ℕ → Type 0
Carries k d offs s b c = (r : ℕ) → Stands k d offs r b → Stands k d offs (update k r s) c

-- a message's first n bytes are put down in the buffer at the end of the d bytes that count, which stand behind d zeros
abbrev pub head_at : ℕ → ℕ → ℕ
head_at d n = d + (d - n)

-- the bytes s with the register r added to the first of them, to each the front that it would meet
abbrev pub met : Kind → ℕ → List ℕ → List ℕ
met k r [] = []
met k r (x ∷ s) = bit_xor (front k.direction k.width r) x ∷ met k (rest k.direction k.width r) s

-- what n bytes leave of r
abbrev pub unmet : Kind → ℕ → ℕ → ℕ
unmet k zero r = r
unmet k (suc n) r = unmet k n (rest k.direction k.width r)
