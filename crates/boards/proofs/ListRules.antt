-- A list is not bad exactly when it keeps 01's rule, and a channel has a place exactly when a board has it. Assumes nothing.
use mathlib.Core.Path.{◌≡◌, ap₂}
use mathlib.Core.Bool.{Bool, false, ◌||◌}
use mathlib.Core.Logic.{⊎_elim}
use mathlib.Core.List.{List}
use Prim.Native.Nat.{ℕ, ◌+◌, ◌≤◌, ◌<◌}
use native.Mathlib.Omega.{arith}
use borrow.Author.Tests.{le-ltb, ltb-false, eqb-true, eqb-false, ne_eqb}
use lib.Dec.{ltb}
use Rattle.sequences.specs.Search.{find}
use Rattle.sequences.proofs.Conditionals.{neither}
use Rattle.sequences.proofs.Searches.{found_none, none_found, found-passes}
use Rattle.sequences.proofs.Orders.{lt_or_le}
use Rattle.boards.specs.declared.board.Board.{Board}
use Rattle.boards.specs.Boards.{max_boards, first_channel, last_channel, channel_at, has_channel, place_of, bad_board, bad_list}
use Rattle.boards.specs.Boards.{GoodList, ListRule, ChannelListed, PlacesMean}

none_of : (a b : Bool) → a ≡ false → b ≡ false → (a || b) ≡ false
none_of a b x y = ap₂ ◌||◌ x y

module _ (bs : List Board) where
  -- what a board that is not bad says of its channel
  pub record GoodBoard (i : ℕ) : Type 0 where
    pub least : first_channel ≤ channel_at bs i
    pub most : channel_at bs i ≤ last_channel
    pub new : (k : ℕ) → k < i → channel_at bs k ≡ channel_at bs i → ⊥

  good-board : (i : ℕ) → bad_board bs i ≡ false → GoodBoard i
  unfolding place_of
  good-board i e =
      let a = neither (ltb (channel_at bs i) first_channel) _ e in
      let b = neither (ltb last_channel (channel_at bs i)) _ a.1 in
      let past = ltb-false (place_of bs i (channel_at bs i)) i b.1 in
      record {
        least = ltb-false (channel_at bs i) first_channel a.0;
        most = ltb-false last_channel (channel_at bs i) b.0;
        new = λ k below same.
            eqb-false (channel_at bs k) (channel_at bs i)
            (found_none (has_channel bs (channel_at bs i)) i 0 (omega arith) k (omega arith) (omega arith)) same;
      }

  board-good : (i : ℕ) → GoodBoard i → bad_board bs i ≡ false
  unfolding place_of
  board-good i g =
      let channel = channel_at bs i in
      let none : find (has_channel bs channel) i 0 ≡ 0 + i =
      none_found (has_channel bs channel) i 0 (λ k _ below. ne_eqb (channel_at bs k) channel (g.new k (omega arith))) in
      none_of (ltb channel first_channel) _ (le-ltb channel first_channel g.least)
      (none_of (ltb last_channel channel) _ (le-ltb last_channel channel g.most) (le-ltb (place_of bs i channel) i (omega arith)))

  keeps_rule : (n : ℕ) → bad_list bs n ≡ false → GoodList bs n
  unfolding bad_list
  keeps_rule n e =
      let a = neither (ltb n 1) _ e in
      let b = neither (ltb max_boards n) _ a.1 in
      let past = ltb-false (find (bad_board bs) n 0) n b.1 in
      let good : (i : ℕ) → i < n → GoodBoard i =
      λ i h. good-board i (found_none (bad_board bs) n 0 (omega arith) i (omega arith) (omega arith)) in
      record {
        some = ltb-false n 1 a.0;
        few = ltb-false max_boards n b.0;
        least = λ i h. (good i h).least;
        most = λ i h. (good i h).most;
        different = λ i j l h. (good j h).new i l;
      }

  rule_kept : (n : ℕ) → GoodList bs n → bad_list bs n ≡ false
  unfolding bad_list
  rule_kept n g =
      let none : find (bad_board bs) n 0 ≡ 0 + n =
      none_found (bad_board bs) n 0
      (λ i _ h.
      board-good i
      (record {
        least = g.least i (omega arith);
        most = g.most i (omega arith);
        new = λ k below. g.different k i below (omega arith);
      })) in
      none_of (ltb n 1) _ (le-ltb n 1 g.some)
      (none_of (ltb max_boards n) _ (le-ltb max_boards n g.few) (le-ltb (find (bad_board bs) n 0) n (omega arith)))

pub list_rule : ListRule
list_rule bs n = (keeps_rule bs n, rule_kept bs n)

-- ---- the place of a channel

module _ (bs : List Board) (n channel : ℕ) where
  found-has : place_of bs n channel < n → channel_at bs (place_of bs n channel) ≡ channel
  unfolding place_of
  found-has h = eqb-true _ channel (found-passes (has_channel bs channel) n 0 (omega arith))

  has-found : ChannelListed bs n channel → place_of bs n channel < n
  unfolding place_of
  has-found l =
      ⊎_elim (λ inside. inside)
      (λ past.
      let none = found_none (has_channel bs channel) n 0 (omega arith) l.place (omega arith) (omega (arith, l.among)) in
      absurd (eqb-false _ channel none l.has))
      (lt_or_le (find (has_channel bs channel) n 0) n)

pub places_mean : PlacesMean
places_mean bs n channel =
    record {
      listed = (
        λ h. record { place = place_of bs n channel; among = h; has = found-has bs n channel h },
        has-found bs n channel,
      );
      has = found-has bs n channel;
    }
