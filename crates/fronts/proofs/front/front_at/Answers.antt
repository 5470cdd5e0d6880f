-- `fronts::front::front_at` meets its contract. Assumes nothing.
use Rattle.std.proofs.Common.{◌≡◌, ℕ, ◌+◌, ◌-◌, ◌<◌, List, ◌++◌, length, take, sym, ap, ◌∙◌, arith, length-append, length-drop, length-take-le}
use lib.Seq.{slice}
use Rattle.sequences.proofs.Slices.{slice-within}
use Rattle.fronts.specs.Fronts.{front_of}
use Rattle.fronts.proofs.Fronts.{open_none}
use Rattle.fronts.proofs.front.front_at.Goals as goal

-- where the bytes end
module _ (a b : List ℕ) (from to end : ℕ) (is : end ≡ to - (to - (length a + length b))) where
  abbrev all : List ℕ
  all = a ++ b

  size : length all ≡ length a + length b
  size = length-append a b

  within : slice from to all ≡ slice from end all
  within =
      slice-within from to all
      ∙ ap (λ (n : ℕ). slice from n all) (ap (λ (n : ℕ). to - (to - n)) size ∙ sym is)

  none : end < from → length (slice from end all) < 1
  none h = omega (arith, length-drop from (take end all), length-take-le end all (omega (arith, size, is)))

pub returns-then-end-from : goal.returns-then-end-from
returns-then-end-from c =
    let o = c.args in
    let end = c.smaller-end.result in
    let is = c.smaller-end.ensures in
    sym (ap front_of (within o.a.now o.b.now o.from o.to end is)
    ∙ open_none (slice o.from end (o.a.now ++ o.b.now)) (none o.a.now o.b.now o.from o.to end is c.if-end-from.true))
