-- Lists filled up with zeros. Assumes nothing.
use Rattle.std.specs.Prelude.{List, ◌++◌, ℕ, ◌-◌, length, replicate}

abbrev pub zeros : ℕ → List ℕ
zeros n = replicate n 0

-- s, and zeros up to n
abbrev pub padded : ℕ → List ℕ → List ℕ
padded n s = s ++ zeros (n - length s)
