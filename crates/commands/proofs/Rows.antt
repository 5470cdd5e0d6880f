-- The table's rows. Assumes nothing.
use mathlib.Core.Path.{◌≡◌, refl, sym, ap, subst}
use mathlib.Core.Bool.{Bool, true, false, cond}
use Prim.Native.Nat.{ℕ, zero, suc, ◌≤◌, ◌<◌}
use native.Mathlib.Omega.{arith}
use lib.Dec.{eqb}
use Rattle.std.specs.Prelude.{Option, Some, None, MatchOption}
use Rattle.std.specs.Option.{unwrap_or}
use Rattle.std.specs.Prelude as std
use Rattle.sequences.specs.Search.{find}
use Rattle.commands.specs.declared.table.Row.{Row}
use Rattle.commands.specs.Limits.{max_reply}
use Rattle.commands.specs.Table.{row, table, row_at, place_in_table, command_count}

-- no reply is longer than FB's
pub reply-short : (i : ℕ) → (row_at i).reply_length ≤ max_reply
unfolding row_at table
reply-short zero = omega arith
reply-short (suc zero) = omega arith
reply-short (suc (suc zero)) = omega arith
reply-short (suc (suc (suc zero))) = omega arith
reply-short (suc (suc (suc (suc zero)))) = omega arith
reply-short (suc (suc (suc (suc (suc zero))))) = omega arith
reply-short (suc (suc (suc (suc (suc (suc i)))))) = omega arith

-- the outward F9's version byte is the table's
pub f9-version : (row_at (place_in_table 0xF9)).version ≡ 0x00
unfolding place_in_table find row_at table
f9-version = refl

-- ---- the first row with a command is the one at its place

abbrev pub first_row : ℕ → Option Row
first_row command = std.find (λ row. eqb row.command command) table

-- what a search over the rows from some place on finds, and the place that the search by places finds
abbrev FoundAt : Option Row → ℕ → Type 0
FoundAt found at = MatchOption found (at ≡ command_count) (λ row. (row ≡ row_at at) × (at < command_count))

one-more : (hit : Bool) (row : Row) (i : ℕ) (later : Option Row) (at : ℕ) → row ≡ row_at i → i < command_count → FoundAt later at
    → FoundAt (cond hit (Some row) later) (cond hit i at)
one-more true row i later at same inside rest = (same, inside)
one-more false row i later at same inside rest = rest

found : (command : ℕ) → FoundAt (first_row command) (place_in_table command)
unfolding place_in_table find row_at table
found command =
    one-more (eqb 0xF9 command) _ 0 _ _ refl (omega arith)
    (one-more (eqb 0xFA command) _ 1 _ _ refl (omega arith)
    (one-more (eqb 0xFB command) _ 2 _ _ refl (omega arith)
    (one-more (eqb 0xFC command) _ 3 _ _ refl (omega arith)
    (one-more (eqb 0xFD command) _ 4 _ _ refl (omega arith)
    (one-more (eqb 0xFE command) _ 5 None command_count refl (omega arith) refl)))))

module _ (command : ℕ) where
  pub unlisted : None ≡ first_row command → place_in_table command ≡ command_count
  unlisted e = subst (λ (o : Option Row). FoundAt o (place_in_table command)) (sym e) (found command)

  pub listed : (row : Row) → Some row ≡ first_row command → (row ≡ row_at (place_in_table command)) × (place_in_table command < command_count)
  listed row e = subst (λ (o : Option Row). FoundAt o (place_in_table command)) (sym e) (found command)

  pub row-or_zeros : unwrap_or (first_row command) (row 0 0 0 0 0 0) ≡ row_at (place_in_table command)
  unfolding row_at table
  row-or_zeros = go (first_row command) (place_in_table command) (found command)
    where
      go : (o : Option Row) (at : ℕ) → FoundAt o at → unwrap_or o (row 0 0 0 0 0 0) ≡ row_at at
      go None at e = sym (ap row_at e)
      go (Some r) at e = e.0
