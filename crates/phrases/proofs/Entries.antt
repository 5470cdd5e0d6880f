-- The table's rows: their names one behind the other, and their numbers in parts. Assumes nothing.
use borrow.Author.Tests.{eqb-true}
use mathlib.Core.Path.{◌≡◌, refl, ap, ap₂, ◌∙◌}
use mathlib.Core.Bool.{Bool, true, ◌&&◌, and-eq-true_iff}
use mathlib.Core.List.{List, [], ◌∷◌, ◌++◌, map}
use Prim.Native.Nat.{ℕ, zero, suc, ◌+◌, ◌*◌, ◌-◌, ◌<◌, ◌≤◌}
use native.Mathlib.Omega.{arith}
use lib.Dec.{eqb}
use lib.ListN.{length, take, drop, get_or, get_or-map}
use lib.Seq.{take_at, drop-append-add, get_or-take, get_or-drop}
use Rattle.phrases.specs.declared.table.Row.{Row}
use Rattle.phrases.specs.declared.rows.Limits.{Limits}
use Rattle.phrases.specs.Table.{name_size, command_table, no_row, limits_of, command_row}

-- ---- names

abbrev pub names_of : List Row → List ℕ
names_of [] = []
names_of (r ∷ l) = r.name ++ names_of l

-- each is filled up
abbrev are_filled : List Row → Bool
are_filled [] = true
are_filled (r ∷ l) = eqb (length r.name) name_size && are_filled l

all-filled : are_filled command_table ≡ true
unfolding command_table
all-filled = refl

name_there : (l : List Row) (i : ℕ) → are_filled l ≡ true → i < length l
    → take name_size (drop (i * name_size) (names_of l)) ≡ (get_or l i no_row).name
name_there [] i e h = absurd (omega arith)
name_there (r ∷ l) zero e h =
    let size = eqb-true (length r.name) name_size ((and-eq-true_iff (eqb (length r.name) name_size) (are_filled l)).0 e).0 in
    let none : zero * name_size ≡ 0 = omega arith in
    ap (λ (n : ℕ). take name_size (drop n (r.name ++ names_of l))) none ∙ take_at r.name (names_of l) name_size size
name_there (r ∷ l) (suc i) e h =
    let both = (and-eq-true_iff (eqb (length r.name) name_size) (are_filled l)).0 e in
    let size = eqb-true (length r.name) name_size both.0 in
    let next : suc i * name_size ≡ length r.name + i * name_size = omega arith in
    ap (λ (n : ℕ). take name_size (drop n (r.name ++ names_of l))) next
    ∙ ap (take name_size) (drop-append-add r.name (names_of l) (i * name_size))
    ∙ name_there l i both.1 (omega arith)

pub name_of : (i : ℕ) → i < length command_table → take name_size (drop (i * name_size) (names_of command_table)) ≡ (command_row i).name
unfolding command_row
name_of i h = name_there command_table i all-filled h

-- ---- numbers

pub limits_first : (n i : ℕ) → i < n → get_or (take n (map limits_of command_table)) i (limits_of no_row) ≡ limits_of (command_row i)
unfolding command_row
limits_first n i h = get_or-take n (map limits_of command_table) i (limits_of no_row) h ∙ get_or-map limits_of command_table i no_row

-- the n rows from `from` on
pub limits_from : (from n i : ℕ) → from ≤ i → i < from + n
    → get_or (take n (drop from (map limits_of command_table))) (i - from) (limits_of no_row) ≡ limits_of (command_row i)
unfolding command_row
limits_from from n i h k =
    let back : from + (i - from) ≡ i = omega arith in
    get_or-take n (drop from (map limits_of command_table)) (i - from) (limits_of no_row) (omega arith)
    ∙ get_or-drop from (map limits_of command_table) (i - from) (limits_of no_row)
    ∙ ap (λ (j : ℕ). get_or (map limits_of command_table) j (limits_of no_row)) back
    ∙ get_or-map limits_of command_table i no_row

-- a row by its parts
pub row_of : (i : ℕ) (name : List ℕ) (l : Limits) → name ≡ (command_row i).name → l ≡ limits_of (command_row i)
    → record { name = name; name_length = l.name_length; numbers = l.numbers; first = l.first; second = l.second; bytes = l.bytes } ≡ command_row i
row_of i name l e f = ap₂ (λ (n : List ℕ) (m : Limits). record { name = n; name_length = m.name_length; numbers = m.numbers; first = m.first; second = m.second; bytes = m.bytes }) e f
