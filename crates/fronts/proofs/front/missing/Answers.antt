-- `fronts::front::missing` meets its contract: one law of `Waits` for each test. Assumes nothing.
use Rattle.std.proofs.Common.{◌≡◌, ℕ, ◌+◌, ◌-◌, ◌<◌, ◌≤◌, List, ◌++◌, length, drop, sym, ◌∙◌, subst, ap₂, arith, length-append}
use lib.Seq.{slice}
use Rattle.fronts.specs.Frame.{header_size, length_at}
use Rattle.fronts.specs.Fronts.{front_of, Missing}
use Rattle.fronts.specs.declared.front.Front.TheVariants.{Open}
use Rattle.fronts.proofs.Looks.{length_seen}
use Rattle.fronts.proofs.Waits.{missing-head1, missing-head2, missing-high, missing-length, missing-sum}
use Rattle.fronts.proofs.front.missing.Goals as goal

-- how many bytes are there
module _ (a b : List ℕ) (from to n : ℕ) (counted : n ≡ to - from) where
  abbrev all : List ℕ
  all = a ++ b

  end : to ≤ length a + length b → to ≤ length all
  end h = omega (arith, length-append a b)

  -- with n bytes a test that needs k of them
  abbrev Short : ℕ → Type 0
  Short k = Missing all from to (k - n)

  short : (k : ℕ) → Missing all from to (k - (to - from)) → Short k
  short k m = subst (λ (i : ℕ). Missing all from to (k - i)) (sym counted) m

  abbrev Shorts : ℕ → Type 0
  Shorts m = from ≤ to → to ≤ length a + length b → front_of (slice from to all) ≡ Open → Missing all from to m

  short1 : n < 1 → Shorts (1 - n)
  short1 l h k e = short 1 (missing-head1 all from to h (end k) e (omega arith))

  short2 : 1 ≤ n → n < 2 → Shorts (2 - n)
  short2 g l h k e = short 2 (missing-head2 all from to h (end k) e (omega arith) (omega arith))

  short5 : 2 ≤ n → n < 5 → Shorts (5 - n)
  short5 g l h k e = short 5 (missing-high all from to h (end k) e (omega arith) (omega arith))

  short6 : 5 ≤ n → n < 6 → Shorts (6 - n)
  short6 g l h k e = short 6 (missing-length all from to h (end k) e (omega arith) (omega arith))

  short7 : 6 ≤ n → (i m : ℕ) → i ≡ length_at (drop from all) → m ≡ 7 + i - n → Shorts m
  short7 g i m announced is h k e =
      let there : header_size ≤ to - from = omega arith in
      let read : i ≡ length_at (slice from to all) = announced ∙ length_seen from to all (omega arith) in
      let is2 = is ∙ ap₂ (λ (x y : ℕ). 7 + x - y) read counted in
      subst (λ (x : ℕ). Missing all from to x) (sym is2) (missing-sum all from to h (end k) e there)

pub returns-then-n-lt1 : goal.returns-then-n-lt1
returns-then-n-lt1 c = let o = c.args in short1 o.a.now o.b.now o.from o.to c.past-n.result c.past-n.ensures (omega arith)

pub returns-then-n-lt2 : goal.returns-then-n-lt2
returns-then-n-lt2 c =
    let o = c.args in
    short2 o.a.now o.b.now o.from o.to c.past-n.result c.past-n.ensures (omega arith) (omega arith)

pub returns-then-n-lt5 : goal.returns-then-n-lt5
returns-then-n-lt5 c =
    let o = c.args in
    short5 o.a.now o.b.now o.from o.to c.past-n.result c.past-n.ensures (omega arith) (omega arith)

pub returns-then-n-lt-SIZE : goal.returns-then-n-lt-SIZE
returns-then-n-lt-SIZE c =
    let o = c.args in
    short6 o.a.now o.b.now o.from o.to c.past-n.result c.past-n.ensures (omega arith) (omega arith)

pub returns : goal.returns
returns c =
    let o = c.args in
    short7 o.a.now o.b.now o.from o.to c.past-n.result c.past-n.ensures (omega arith) c.length_at.result c.past.result
    c.length_at.ensures.0 c.past.ensures
