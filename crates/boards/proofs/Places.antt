-- Places and boards of a list that is not too long, and of the list as opening keeps it. Assumes nothing.
use mathlib.Core.Path.{◌≡◌, refl, sym, ap, ◌∙◌}
use mathlib.Core.Bool.{Bool, true, false, cond, not, ◌||◌}
use mathlib.Core.List.{List, [], ◌∷◌}
use Prim.Native.Nat.{ℕ, zero, suc, ◌+◌, ◌-◌, ◌<◌, ◌≤◌}
use native.Mathlib.Omega.{arith}
use borrow.Author.Tests.{lt-ltb, le-ltb, ltb-false}
use lib.Dec.{ltb, eqb}
use lib.ListN.{length, take, get_or, replicate, get_or-append}
use lib.Seq.{length-take-le, get_or-take}
use Rattle.std.specs.Option.{unwrap_or}
use Rattle.std.specs.List.{position, position_or_len}
use Rattle.std.proofs.lemmas.Grind.{common_steps}
use Rattle.sequences.specs.Search.{find}
use Rattle.sequences.proofs.Conditionals.{neither}
use Rattle.boards.specs.declared.board.Board.{Board}
use Rattle.boards.specs.Boards.{max_boards, no_board, past_board, channel_at, has_channel, place_of, place_in, board_at, bad_board}
use Rattle.boards.specs.Boards.{bad_list, list_of}

pub place_in_lem : (bs : List Board) (n channel : ℕ) → n ≤ max_boards → place_in bs n channel ≡ place_of bs n channel
place_in_lem bs n channel few = ap (λ (b : Bool). cond b n (place_of bs n channel)) (le-ltb max_boards n few)

pub board-there : (bs : List Board) (i : ℕ) → i < max_boards → board_at bs i ≡ get_or bs i past_board
board-there bs i few = ap (λ (b : Bool). cond b (get_or bs i past_board) no_board) (lt-ltb i max_boards few)

-- a good list is not too long
pub list-fits : (bs : List Board) (n : ℕ) → bad_list bs n ≡ false → n ≤ max_boards
unfolding bad_list
list-fits bs n e =
    let e1 = neither (ltb n 1) _ e in
    let e2 = neither (ltb max_boards n) _ e1.1 in
    ltb-false max_boards n e2.0

-- ---- the list with zeros in its unused places

-- a search depends on the places it looks at alone
find-same : (p q : ℕ → Bool) (n i : ℕ) → ((k : ℕ) → k < i + n → p k ≡ q k) → find p n i ≡ find q n i
unfolding find
find-same p q zero i f = refl
find-same p q (suc n) i f =
    let e = f i (omega arith) in
    let r = find-same p q n (i + 1) (λ k h. f k (omega arith)) in
    ap (λ (b : Bool). cond b i (find p n (i + 1))) e ∙ ap (cond (q i) i) r

module _ (bs : List Board) (n : ℕ) (size : length bs ≡ max_boards) (most : n ≤ max_boards) where
  channel-same : (k : ℕ) → k < n → channel_at (list_of bs n) k ≡ channel_at bs k
  unfolding list_of
  channel-same k h =
      let e : length (take n bs) ≡ n = length-take-le n bs (omega arith) in
      ap (λ (b : Board). b.channel)
      (get_or-append (take n bs) (replicate (max_boards - n) no_board) past_board k (omega arith) ∙ get_or-take n bs k past_board h)

  place_same : (channel k : ℕ) → k < n → place_of (list_of bs n) k channel ≡ place_of bs k channel
  unfolding place_of
  place_same channel k h =
      find-same (has_channel (list_of bs n) channel) (has_channel bs channel) k 0
      (λ j g. ap (λ (c : ℕ). eqb c channel) (channel-same j (omega arith)))

  board-same : (k : ℕ) → k < n → bad_board (list_of bs n) k ≡ bad_board bs k
  board-same k h =
      let c = channel-same k h in
      let p = place_same (channel_at bs k) k h in
      rw (c, p)

  pub list_same : bad_list (list_of bs n) n ≡ bad_list bs n
  unfolding bad_list
  list_same =
      ap (λ (x : ℕ). ltb n 1 || (ltb max_boards n || ltb x n))
      (find-same (bad_board (list_of bs n)) (bad_board bs) n 0 (λ k h. board-same k (omega arith)))

-- ---- a search by place, and one over the list

first-or-next : (b : Bool) (i m r : ℕ) → r ≡ i + 1 + m → cond b i r ≡ i + cond (not b) (1 + m) 0
first-or-next true i m r e = omega arith
first-or-next false i m r e = omega arith

find-within : (p : ℕ → Bool) (n i : ℕ) → find p n i ≤ i + n
unfolding find
find-within p zero i = omega arith
find-within p (suc n) i = by (p i) (find p n (i + 1)) (find-within p n (i + 1))
  where
    by : (b : Bool) (r : ℕ) → r ≤ i + 1 + n → cond b i r ≤ i + suc n
    by true r h = omega arith
    by false r h = omega arith

position_or_len-le : {X : Type 0} (p : X → Bool) (xs : List X) → position_or_len p xs ≤ length xs
position_or_len-le p [] = omega arith
position_or_len-le p (x ∷ xs) = by (p x) (position_or_len p xs) (length xs) (position_or_len-le p xs)
  where
    by : (b : Bool) (m k : ℕ) → m ≤ k → cond (not b) (1 + m) 0 ≤ suc k
    by true m k h = omega arith
    by false m k h = omega arith

find-position : {X : Type 0} (p : X → Bool) (q : ℕ → Bool) (d : X) (xs : List X) (n i : ℕ) → length xs ≡ n
    → ((k : ℕ) → k < n → q (i + k) ≡ p (get_or xs k d)) → find q n i ≡ i + position_or_len p xs
unfolding find
find-position p q d [] zero i e f = omega arith
find-position p q d [] (suc n) i e f = absurd (omega arith)
find-position p q d (x ∷ xs) zero i e f = absurd (omega arith)
find-position p q d (x ∷ xs) (suc n) i e f =
    let at : i ≡ i + 0 = omega arith in
    let here : q i ≡ p x = ap q at ∙ f 0 (omega arith) in
    let past : (k : ℕ) → k < n → q (i + 1 + k) ≡ p (get_or xs k d) =
    λ k h. let next : i + 1 + k ≡ i + suc k = omega arith in ap q next ∙ f (suc k) (omega arith) in
    ap (λ (b : Bool). cond b i (find q n (i + 1))) here
    ∙ first-or-next (p x) i (position_or_len p xs) (find q n (i + 1)) (find-position p q d xs n (i + 1) (omega arith) past)

pub find-first : (bs : List Board) (n channel : ℕ) → n ≤ length bs
    → place_of bs n channel ≡ position_or_len (λ (b : Board). eqb b.channel channel) (take n bs)
unfolding place_of
find-first bs n channel h =
    find-position (λ (b : Board). eqb b.channel channel) (has_channel bs channel) past_board (take n bs) n 0
    (length-take-le n bs h)
    (λ k below.
    let at : 0 + k ≡ k = omega arith in
    ap (has_channel bs channel) at ∙ ap (λ (b : Board). eqb b.channel channel) (sym (get_or-take n bs k past_board below)))
    ∙ omega arith

first-or-end : {X : Type 0} (p : X → Bool) (xs : List X) (n : ℕ) → length xs ≡ n → unwrap_or (position p xs) n ≡ position_or_len p xs
first-or-end p xs n e = grind (arith, common_steps, position_or_len-le)

pub first-place : (bs : List Board) (n channel : ℕ) → n ≤ length bs
    → unwrap_or (position (λ (b : Board). eqb b.channel channel) (take n bs)) n ≡ place_of bs n channel
first-place bs n channel h =
    first-or-end (λ (b : Board). eqb b.channel channel) (take n bs) n (length-take-le n bs h) ∙ sym (find-first bs n channel h)

pub place-within : (bs : List Board) (n channel : ℕ) → place_of bs n channel ≤ n
unfolding place_of
place-within bs n channel = omega (arith, find-within (has_channel bs channel) n 0)
