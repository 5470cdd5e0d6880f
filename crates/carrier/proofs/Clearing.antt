-- The frames under way go one after the other, the oldest first. Assumes nothing.
use borrow.Author.Tests.{ne_eqb}
use mathlib.Core.Path.{◌≡◌, refl, sym, ap}
use mathlib.Core.List.{List, [], ◌++◌}
use Prim.Native.Nat.{ℕ, zero, suc, ◌+◌, ◌-◌, ◌<◌}
use native.Mathlib.Omega.{arith}
use Rattle.link.specs.declared.link.Link.{Link}
use Rattle.link.specs.Links.{frame_under_way, passed}
use Rattle.transcript.specs.Lines.{gone_texts}
use Rattle.carrier.specs.Clearing.{oldest_gone, oldest_texts, all_gone, all_texts, NoneUnderWay}

-- one frame less
passed-one : (n : ℕ) (l : Link) → suc n ≡ l.count → (passed l).count ≡ n
passed-one n l e =
    let less : l.count - 1 ≡ n = omega arith in
    simp (ne_eqb _ _ (λ (none : l.count ≡ 0). absurd (omega arith))) less

one-gone-of : (n : ℕ) (l : Link) → n ≡ l.count → 0 < n → oldest_gone n l ≡ all_gone (passed l)
one-gone-of zero l e some = absurd (omega arith)
one-gone-of (suc n) l e some = ap (λ (k : ℕ). oldest_gone k (passed l)) (sym (passed-one n l e))

one-told-of : (n : ℕ) (l : Link) (memory fate : List ℕ) → n ≡ l.count → 0 < n
    → oldest_texts n l memory fate ≡ gone_texts (frame_under_way l memory 0) fate ++ all_texts (passed l) memory fate
one-told-of zero l memory fate e some = absurd (omega arith)
one-told-of (suc n) l memory fate e some =
    ap (λ (k : ℕ). gone_texts (frame_under_way l memory 0) fate ++ oldest_texts k (passed l) memory fate) (sym (passed-one n l e))

none_left : (n : ℕ) (l : Link) → n ≡ l.count → (oldest_gone n l).count ≡ 0
none_left zero l e = sym e
none_left (suc n) l e = none_left n (passed l) (sym (passed-one n l e))

module _ (l : Link) (some : 0 < l.count) where
  pub one-fewer : (passed l).count + 1 ≡ l.count
  one-fewer =
      let less : l.count - 1 + 1 ≡ l.count = omega arith in
      simp (ne_eqb _ _ (λ (none : l.count ≡ 0). absurd (omega arith))) less

  pub one-gone : all_gone (passed l) ≡ all_gone l
  one-gone = sym (one-gone-of l.count l refl some)

  pub one_told : (memory fate : List ℕ) → gone_texts (frame_under_way l memory 0) fate ++ all_texts
      (passed l) memory fate ≡ all_texts l memory fate
  one_told memory fate = sym (one-told-of l.count l memory fate refl some)

module _ (l : Link) (none : l.count ≡ 0) where
  pub none-gone : l ≡ all_gone l
  none-gone = sym (ap (λ (n : ℕ). oldest_gone n l) none)

  pub none_told : (memory fate : List ℕ) → [] ≡ all_texts l memory fate
  none_told memory fate = sym (ap (λ (n : ℕ). oldest_texts n l memory fate) none)

pub none_under_way : NoneUnderWay
none_under_way l = none_left l.count l refl
