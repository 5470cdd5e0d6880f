-- Bytes kept at a buffer's front, and those behind them. Assumes nothing.
use Rattle.std.proofs.Common.{◌≡◌, ℕ, ◌+◌, ◌-◌, ◌≤◌, Bool, true, false, eqb, List, length, take, drop, sym, refl, ap, ◌∙◌, arith, length-drop, length-take, take-take, min, ⊎_elim, drop_of_length-le, take_all, eq-eqb, ne_eqb, eqb-true}
use borrow.Author.Tests.{eqb-false}
use lib.Seq.{slice}
use Rattle.sequences.proofs.Orders.{lt_or_le}
use Rattle.sequences.proofs.Slices.{slice_cut}

pub slice_no_longer : (f t : ℕ) (l : List ℕ) → length (slice f t l) ≤ length l
slice_no_longer f t l = omega (arith, length-drop f (take t l), length-take t l)

-- the first bytes of a part, by their places
pub slice_front : (f t n : ℕ) (l : List ℕ) → n ≤ length (slice f t l) → slice f (f + n) l ≡ take n (slice f t l)
slice_front f t n l h =
    let size : f + n - f ≡ n = omega arith in
    let part = slice_cut f t l in
    let fits : n ≤ t - f = omega (arith, ap length part, length-take (t - f) (drop f l)) in
    slice_cut f (f + n) l ∙ ap (λ (k : ℕ). take k (drop f l)) size ∙ sym (take-take n (t - f) (drop f l) fits) ∙ ap (take n) (sym part)

-- the part between two places, where those past the end are the end
pub cut_within : (f t : ℕ) (l : List ℕ) {e a : ℕ} → e ≡ min t (length l) → a ≡ min f e → take (e - a) (drop a l) ≡ slice f t l
cut_within f t l {e} {a} top low = sym (slice_cut a e l) ∙ ap (drop a) ends ∙ begins
  where
    ends : take e l ≡ take t l
    ends =
        ⊎_elim (λ h. let same : e ≡ t = omega arith in ap (λ (n : ℕ). take n l) same)
        (λ h. take_all e l (omega arith) ∙ sym (take_all t l (omega arith))) (lt_or_le t (length l))

    size : length (take t l) ≡ e
    size = omega (arith, length-take t l)

    begins : drop a (take t l) ≡ drop f (take t l)
    begins =
        ⊎_elim (λ h. let same : a ≡ f = omega arith in ap (λ (n : ℕ). drop n (take t l)) same)
        (λ h. drop_of_length-le (take t l) {i = a} (omega (arith, size)) ∙ sym (drop_of_length-le (take t l) {i = f} (omega (arith, size))))
        (lt_or_le f e)

-- nothing comes behind the first n exactly where they are all
pub none-behind : (kept count n : ℕ) → kept ≡ n → eqb count 0 ≡ eqb (kept + count) n
none-behind kept count n e = go (eqb count 0) refl
  where
    go : (b : Bool) → eqb count 0 ≡ b → eqb count 0 ≡ eqb (kept + count) n
    go true z =
        let all : kept + count ≡ n = omega (arith, eqb-true count 0 z) in
        z ∙ sym (eq-eqb (kept + count) n all)
    go false s =
        let more : kept + count ≡ n → ⊥ = λ h. eqb-false count 0 s (omega arith) in
        s ∙ sym (ne_eqb (kept + count) n more)
