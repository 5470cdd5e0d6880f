-- A field's value: the new one where the command is the field's, else the old one. Assumes nothing.
use Rattle.std.specs.Prelude.{Bool, cond, not, ℕ, eqb}

abbrev pub set_to : {A : Type 0} → ℕ → ℕ → A → A → A
set_to command own new old = cond (eqb command own) new old

-- 0 is no, any other number yes
abbrev pub said_yes : ℕ → Bool
said_yes n = not (eqb n 0)
