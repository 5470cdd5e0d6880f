-- The boards of a list as a loop tells them, place by place. Assumes nothing.
use mathlib.Core.Path.{◌≡◌, refl, sym, ap, ap₂, ◌∙◌}
use mathlib.Core.Bool.{Bool, true, false, ◌&&◌, beq}
use mathlib.Core.List.{List, [], ◌++◌}
use Prim.Native.Nat.{ℕ, ◌+◌}
use native.Mathlib.Numerals.{add-one}
use Rattle.std.specs.Cmp.Lexicographic.{pointwise}
use lib.Dec.{eqb}
use Rattle.boards.specs.declared.board.Board.{Board}
use Rattle.boards.specs.Boards.{board_at}
use Rattle.sequences.specs.Comparing.{same}
use Rattle.sequences.proofs.Sames.{equality_is_same}
use Rattle.changes.specs.BoardLists.{same_board, board_field, board_fields}

pub boards_none : (before after : List Board) → [] ≡ board_fields before after 0
unfolding board_fields
boards_none before after = refl

pub boards_next : (before after : List Board) (i : ℕ) {b a : Board} → b ≡ board_at before i → a ≡ board_at after i
    → board_fields before after i ++ board_field i b a ≡ board_fields before after (i + 1)
unfolding board_fields
boards_next before after i e f =
    ap₂ (λ (x y : Board). board_fields before after i ++ board_field i x y) e f ∙ ap (board_fields before after) (sym (add-one i))

-- what `==` says of two boards: the same tests, the permit's last
pub equal-same : (a b : Board)
    → (eqb a.channel b.channel
    && (pointwise eqb a.soft b.soft && (pointwise eqb a.hard b.hard && (pointwise eqb a.pid b.pid && beq a.permit b.permit))))
    ≡ same_board a b
equal-same a b =
    simp (equality_is_same a.soft b.soft, equality_is_same a.hard b.hard, equality_is_same a.pid b.pid)
    (last-first (eqb a.channel b.channel) (same a.soft b.soft) (same a.hard b.hard) (same a.pid b.pid) (beq a.permit b.permit))
  where
    last-first : (c s h p q : Bool) → (c && (s && (h && (p && q)))) ≡ (q && (c && (s && (h && p))))
    last-first false s h p false = refl
    last-first false s h p true = refl
    last-first true false h p false = refl
    last-first true false h p true = refl
    last-first true true false p false = refl
    last-first true true false p true = refl
    last-first true true true false false = refl
    last-first true true true false true = refl
    last-first true true true true false = refl
    last-first true true true true true = refl
