-- The places of the link, which go round. Assumes nothing.
use Rattle.std.proofs.Common.{◌≡◌, ℕ, ◌+◌, ◌%◌, ◌<◌, arith}

-- the frame that was next is the first
pub moved_up : (first i p : ℕ) → p ≡ (first + 1) % 64 → (p + i) % 64 ≡ (first + (i + 1)) % 64
moved_up first i p e = omega arith

-- two frames under way stand at two places
pub apart : (first i n : ℕ) → i < n → n < 64 → (first + i) % 64 ≡ (first + n) % 64 → ⊥
apart first i n h most e = omega arith
