-- What is read of a line where there is trouble, and where there is none. Assumes nothing.
use borrow.Author.Tests.{ltb-false}
use mathlib.Core.Path.{◌≡◌, refl, sym, ap, ap₂, ◌∙◌}
use mathlib.Core.Bool.{Bool, true, false, cond}
use Rattle.std.specs.Prelude.{Option, Some, None, is_none}
use Rattle.phrases.specs.Numbers.{value_of}
use mathlib.Core.List.{List, []}
use Prim.Native.Nat.{ℕ, zero, suc, ◌+◌, ◌≤◌}
use native.Mathlib.Omega.{arith}
use lib.Dec.{ltb}
use lib.ListN.{length, drop_of_length-le}
use Rattle.sequences.specs.Search.{find}
use Rattle.sequences.proofs.Conditionals.{of_each}
use Rattle.sequences.specs.Places.{written_at}
use Rattle.sequences.proofs.Places.{written-front}
use Rattle.phrases.specs.declared.table.Row.{Row}
use Rattle.phrases.specs.declared.number.Number.{Number}
use Rattle.phrases.specs.declared.phrase.Phrase.{Phrase}
use Rattle.phrases.specs.declared.phrase.Trouble.{Trouble}
use Rattle.phrases.specs.declared.phrase.Trouble.TheVariants.{Fine}
use Rattle.phrases.specs.Table.{row_count}
use Rattle.phrases.specs.Names.{is_named, command_place, place_told}
use Rattle.phrases.specs.Spaces.{spaces}
use Rattle.phrases.specs.Pairs.{bytes_in}
use Rattle.phrases.specs.Phrases.{first_number, second_number, behind_numbers, trouble_behind_numbers, trouble_behind_name, is_fine, fine}
use Rattle.phrases.specs.Phrases.{troubled, phrase_with, taken, phrase_behind_name, bytes_behind_name}
use Rattle.phrases.proofs.Hexes.{spaces-passed}

-- nothing written
pub written_none : (all : List ℕ) → all ≡ written_at all 0 []
written_none all = sym (written-front all [] (omega arith))

-- spaces are no bytes
pub no_bytes : (s : List ℕ) → length s ≤ spaces s → bytes_in s ≡ []
unfolding bytes_in
no_bytes s h = (spaces-passed s).bytes ∙ ap bytes_in (drop_of_length-le s {i = spaces s} h)

-- ---- the command that a line begins with, or none

pub known_command : (k : ℕ) {n : ℕ} → place_told k ≡ Some n → (n ≡ k) × (ltb k row_count ≡ true)
known_command k {n} = go (ltb k row_count)
  where
    go : (x : Bool) → cond x (Some k) None ≡ Some n → (n ≡ k) × (x ≡ true)
    go true e = (cc, refl)
    go false e = cc

find-within : (p : ℕ → Bool) (n i : ℕ) → find p n i ≤ i + n
unfolding find
find-within p zero i = omega arith
find-within p (suc n) i =
    of_each (λ (k : ℕ). k ≤ i + suc n) (p i) i (find p n (i + 1)) (λ _. omega arith)
    (λ _. let h = find-within p n (i + 1) in omega arith)

pub no_command : (line : List ℕ) → place_told (command_place line) ≡ None
    → (row_count ≡ command_place line) × (ltb (command_place line) row_count ≡ false)
unfolding command_place
no_command line e =
    let k = command_place line in
    let past : ltb k row_count ≡ false = go (ltb k row_count) e in
    let most = find-within (is_named line) row_count 0 in
    (omega (arith, most, ltb-false k row_count past), past)
  where
    go : (x : Bool) → cond x (Some (command_place line)) None ≡ None → x ≡ false
    go true f = cc
    go false f = refl

-- ---- u is what is the trouble

module _ (command first second : ℕ) (bytes : List ℕ) (u : Trouble) where
  pub bad_phrase : (t : Trouble) → is_fine t ≡ false → u ≡ t → troubled command t ≡ phrase_with command first second bytes u
  unfolding phrase_with
  bad_phrase t bad e = simp (e, bad)

  pub fine_phrase : (count : ℕ) → count ≡ length bytes → u ≡ Fine
      → fine command first second count ≡ phrase_with command first second bytes u
  unfolding phrase_with
  fine_phrase count n e = simp (e, n)

module _ (bytes all : List ℕ) (u : Trouble) where
  pub bad-bytes : (t : Trouble) → is_fine t ≡ false → u ≡ t → all ≡ written_at all 0 (taken bytes u)
  unfolding taken
  bad-bytes t bad e = simp (e, bad) (written_none all)

  pub fine-bytes : u ≡ Fine → written_at all 0 bytes ≡ written_at all 0 (taken bytes u)
  unfolding taken
  fine-bytes e = simp e

-- ---- behind the name

module _ (command : ℕ) (r : Row) (s all : List ℕ) where
  pub no_number_lem : (t : Trouble) → is_fine t ≡ false → trouble_behind_name r s ≡ t
      → (troubled command t ≡ phrase_behind_name command r s) × (all ≡ written_at all 0 (bytes_behind_name r s))
  unfolding phrase_behind_name bytes_behind_name
  no_number_lem t bad e = (
    bad_phrase command (value_of (first_number r s)) (value_of (second_number r s)) (bytes_in (behind_numbers r s)) (trouble_behind_name r s) t bad e,
    bad-bytes (bytes_in (behind_numbers r s)) all (trouble_behind_name r s) t bad e,
  )

  -- x and y are the numbers, and z stands behind them
  module _ (x y : Number) (z : List ℕ) (first : Some x ≡ first_number r s) (second : Some y ≡ second_number r s) (rest : z ≡ behind_numbers r s) where
    trouble : trouble_behind_numbers r.bytes z ≡ trouble_behind_name r s
    unfolding trouble_behind_name
    trouble =
        let f = ap (λ (n : Option Number). is_none n) (sym first) in
        let g = ap (λ (n : Option Number). is_none n) (sym second) in
        let e : trouble_behind_name r s ≡ trouble_behind_numbers r.bytes (behind_numbers r s) = simp (f, g) in
        ap (trouble_behind_numbers r.bytes) rest ∙ sym e

    pub both_numbers : (p : Phrase) → p ≡ phrase_with command x.value y.value (bytes_in z) (trouble_behind_numbers r.bytes z)
        → p ≡ phrase_behind_name command r s
    unfolding phrase_behind_name
    both_numbers p e =
        e ∙ ap₂ (λ (f g : Option Number). phrase_with command (value_of f) (value_of g) (bytes_in z) (trouble_behind_numbers r.bytes z)) first second
        ∙ ap₂ (λ (l : List ℕ) (u : Trouble). phrase_with command (value_of (first_number r s)) (value_of (second_number r s)) (bytes_in l) u)
        rest trouble

    pub both_bytes : (after : List ℕ) → after ≡ written_at all 0 (taken (bytes_in z) (trouble_behind_numbers r.bytes z))
        → after ≡ written_at all 0 (bytes_behind_name r s)
    unfolding bytes_behind_name
    both_bytes after e = e ∙ ap₂ (λ (l : List ℕ) (u : Trouble). written_at all 0 (taken (bytes_in l) u)) rest trouble
