-- The link's script: its letters, and what of it is used up. Assumes nothing.
use Rattle.std.specs.Prelude.{ℕ, ◌+◌, Bool, true, false, cond, ◌||◌, List, Option, None, Some, ◌==◌, nat_lt, slice_index}
use Rattle.std.specs.List.{list_all}
use Rattle.link.specs.declared.script.Letter.{Letter}
use Rattle.link.specs.declared.script.Letter.TheVariants.{Pass, Lose, Repeat, Silence, Other}
use Rattle.link.specs.declared.script.Script.{Script}

-- "letters p, l, r, s": a frame passes, is lost, or is repeated; silence is told
abbrev pub pass : ℕ
pass = 112

abbrev pub lose : ℕ
lose = 108

abbrev pub repeat : ℕ
repeat = 114

abbrev pub silence : ℕ
silence = 115

abbrev pub is_letter : ℕ → Bool
is_letter b = b == pass || (b == lose || (b == repeat || b == silence))

abbrev pub all_letters : List ℕ → Bool
all_letters s = list_all is_letter s

-- what a byte says: one that is no letter, which no script of the program's words has, stands as it is, and 0 is none
abbrev pub letter_said : ℕ → Option Letter
letter_said b =
    cond (b == pass) (Some Pass)
    (cond (b == lose) (Some Lose)
    (cond (b == repeat) (Some Repeat) (cond (b == silence) (Some Silence) (cond (b == 0) None (Some (Other b))))))

-- the next letter, if one is left
abbrev pub letter_of : Script → List ℕ → Option Letter
letter_of s letters = cond (nat_lt s.at s.end) (letter_said (slice_index letters s.at)) None

abbrev pub is_silence : Option Letter → Bool
is_silence None = false
is_silence (Some Pass) = false
is_silence (Some Lose) = false
is_silence (Some Repeat) = false
is_silence (Some Silence) = true
is_silence (Some (Other b)) = false

-- it "is used up"
abbrev pub used_up : Script → Script
used_up s = cond (nat_lt s.at s.end) (record { at = s.at + 1; end = s.end }) s

-- "Sending a frame uses up the script's next letter if that is p, l or r. An `s` is not used up here, it waits". A byte that is no letter
-- is used up as a p is; no script has one.
abbrev pub after_sending : Script → List ℕ → Script
after_sending s letters = cond (is_silence (letter_of s letters)) s (used_up s)
