-- The first place that passes a test. Assumes nothing.
use Rattle.std.specs.Prelude.{Bool, cond, ℕ, zero, suc, ◌+◌}

-- the first of the n places from i on that passes the test p, or the place after them
unfoldable pub find : (ℕ → Bool) → ℕ → ℕ → ℕ
find p zero i = i
find p (suc n) i = cond (p i) i (find p n (i + 1))
