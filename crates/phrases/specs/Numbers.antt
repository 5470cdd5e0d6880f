-- docs/CONSOLE.md, "Lines": "One space or more stands before each number." A number is "decimal: all the digits that stand there, 1 to 20
-- of them; 0 to 18,446,744,073,709,551,615 unless the table says less". Assumes nothing.
use Rattle.std.specs.Prelude.{Bool, cond, Option, Some, None, List, [], ◌∷◌, ℕ, ◌+◌, ◌*◌, ltb, eqb, take, drop}
use Rattle.text.specs.Numbers.{digit_of}
use Rattle.phrases.specs.declared.number.Number.{Number}
use Rattle.phrases.specs.Spaces.{front_count, spaces}

-- "A number is decimal"
abbrev pub is_digit : ℕ → Bool
is_digit b = ltb (digit_of b) 10

-- what digits say behind others that say n
unfoldable pub value_behind : ℕ → List ℕ → ℕ
value_behind n [] = n
value_behind n (b ∷ s) = value_behind (10 * n + digit_of b) s

-- "all the digits that stand there, 1 to 20 of them"
abbrev pub most_digits : ℕ
most_digits = 20

-- what these digits say, unless it "is above M, the most that the table allows"
unfoldable pub number_of : ℕ → ℕ → List ℕ → Option Number
number_of most end digits =
    let n = value_behind 0 digits in
    cond (ltb most n) None (Some (record { value = n; end = end }))

-- "no space and digit stand there, or more than 20 digits, or the number is above M"
unfoldable pub number_in : ℕ → List ℕ → Option Number
number_in most s =
    let start = spaces s in
    let count = front_count is_digit (drop start s) in
    cond (eqb start 0) None
    (cond (eqb count 0) None
    (cond (ltb most_digits count) None
    (number_of most (start + count) (take count (drop start s)))))

-- a number that the command does not take is 0, and has no bytes
abbrev pub number_if : Bool → ℕ → List ℕ → Option Number
number_if taken most s = cond taken (number_in most s) (Some (record { value = 0; end = 0 }))

-- what it says, and where it ends: a bad one says nothing, and has no bytes
abbrev pub value_of : Option Number → ℕ
value_of None = 0
value_of (Some n) = n.value

abbrev pub end_of : Option Number → ℕ
end_of None = 0
end_of (Some n) = n.end
