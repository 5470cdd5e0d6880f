-- Parts of lists: of one list, and of two read as one. Assumes nothing.
use mathlib.Core.Path.{◌≡◌, refl, sym, ap, ◌∙◌}
use mathlib.Core.List.{List, [], ◌∷◌, ◌++◌}
use mathlib.Core.Logic.{◌⊎◌, inl, inr, ⊎_elim}
use Prim.Native.Nat.{ℕ, zero, suc, ◌+◌, ◌-◌, ◌≤◌, ◌<◌}
use native.Mathlib.Nat.{add-zero}
use native.Mathlib.Numerals.{add-one}
use native.Mathlib.Omega.{arith}
use lib.ListN.{length, take, drop, get_or}
use lib.Seq.{slice, take_all, take-nil, drop-nil, drop-append-le, get_or-append-add, take-suc, length-take-le, take-take, take-add}
use lib.Seq.{drop_at, drop-drop, get_or-drop, get_or-take}
use Rattle.sequences.proofs.Orders.{lt_or_le}

-- ---- of one list

pub drop_beyond : (n : ℕ) (l : List ℕ) → length l ≤ n → drop n l ≡ []
drop_beyond zero [] h = refl
drop_beyond zero (x ∷ l) h = absurd (omega arith)
drop_beyond (suc n) [] h = refl
drop_beyond (suc n) (x ∷ l) h = drop_beyond n l (omega arith)

-- the part from f to t, as the code cuts it
pub slice_cut : (f t : ℕ) (l : List ℕ) → slice f t l ≡ take (t - f) (drop f l)
slice_cut zero t l = ap (λ (n : ℕ). take n l) (let e : t ≡ t - 0 = omega arith in e)
slice_cut (suc f) zero l = drop-nil (suc f) ∙ ap (λ (n : ℕ). take n (drop (suc f) l)) (let e : 0 ≡ 0 - suc f = omega arith in e)
slice_cut (suc f) (suc t) [] = sym (take-nil (suc t - suc f))
slice_cut (suc f) (suc t) (x ∷ l) = slice_cut f t l ∙ ap (λ (n : ℕ). take n (drop f l)) (let e : t - f ≡ suc t - suc f = omega arith in e)

-- one element more
pub slice_snoc : (f t : ℕ) (l : List ℕ) → f ≤ t → t < length l → slice f (t + 1) l ≡ slice f t l ++ (get_or l t 0 ∷ [])
slice_snoc f t l h k =
    let e : f ≤ length (take t l) = omega (arith, length-take-le t l (omega arith)) in
    ap (λ (n : ℕ). slice f n l) (add-one t) ∙ ap (drop f) (take-suc l t 0 k) ∙ drop-append-le f (take t l) (get_or l t 0 ∷ []) e

pub get_or-slice : (f t i : ℕ) (l : List ℕ) → f + i < t → get_or (slice f t l) i 0 ≡ get_or l (f + i) 0
get_or-slice f t i l h = get_or-drop f (take t l) i 0 ∙ get_or-take t l (f + i) 0 h

pub take-slice : (f t k : ℕ) (l : List ℕ) → f + k ≤ t → t ≤ length l → take k (slice f t l) ≡ slice f (f + k) l
take-slice f t k l h j =
    let m = take t l in
    let e : f ≤ length m = omega (arith, length-take-le t l j) in
    sym (ap (drop f) (sym (take-take (f + k) t l h) ∙ take-add f k m) ∙ drop_at (take f m) (take k (drop f m)) f (length-take-le f m e))

pub drop-slice : (f t k : ℕ) (l : List ℕ) → drop k (slice f t l) ≡ slice (f + k) t l
drop-slice f t k l = drop-drop k f (take t l)

-- an end past the list's is the list's
pub slice-within : (f t : ℕ) (l : List ℕ) → slice f t l ≡ slice f (t - (t - length l)) l
slice-within f t l = ap (drop f) (⊎_elim short long (lt_or_le t (length l)))
  where
    short : t < length l → take t l ≡ take (t - (t - length l)) l
    short h = ap (λ (n : ℕ). take n l) (let e : t ≡ t - (t - length l) = omega arith in e)

    long : length l ≤ t → take t l ≡ take (t - (t - length l)) l
    long h = take_all t l h ∙ sym (take_all (t - (t - length l)) l (omega arith))

-- ---- of two lists read as one

pub get_or-right : (a b : List ℕ) (i : ℕ) → length a ≤ i → get_or (a ++ b) i 0 ≡ get_or b (i - length a) 0
get_or-right a b i h =
    let e : i ≡ length a + (i - length a) = omega arith in
    ap (λ (k : ℕ). get_or (a ++ b) k 0) e ∙ get_or-append-add a b (i - length a) 0

take-parts : (t : ℕ) (a b : List ℕ) → take t (a ++ b) ≡ take t a ++ take (t - length a) b
take-parts zero [] b = ap (λ (n : ℕ). take n b) (let e : 0 ≡ 0 - 0 = omega arith in e)
take-parts zero (x ∷ a) b = ap (λ (n : ℕ). take n b) (let e : 0 ≡ 0 - length (x ∷ a) = omega arith in e)
take-parts (suc t) [] b = ap (λ (n : ℕ). take n b) (let e : suc t ≡ suc t - 0 = omega arith in e)
take-parts (suc t) (x ∷ a) b =
    ap (λ (l : List ℕ). x ∷ l)
    (take-parts t a b ∙ ap (λ (n : ℕ). take t a ++ take n b) (let e : t - length a ≡ suc t - length (x ∷ a) = omega arith in e))

drop-parts : (f : ℕ) (a b : List ℕ) → drop f (a ++ b) ≡ drop f a ++ drop (f - length a) b
drop-parts zero [] b = ap (λ (n : ℕ). drop n b) (let e : 0 ≡ 0 - 0 = omega arith in e)
drop-parts zero (x ∷ a) b = ap (λ (n : ℕ). x ∷ a ++ drop n b) (let e : 0 ≡ 0 - length (x ∷ a) = omega arith in e)
drop-parts (suc f) [] b = ap (λ (n : ℕ). drop n b) (let e : suc f ≡ suc f - 0 = omega arith in e)
drop-parts (suc f) (x ∷ a) b =
    drop-parts f a b ∙ ap (λ (n : ℕ). drop f a ++ drop n b) (let e : f - length a ≡ suc f - length (x ∷ a) = omega arith in e)

-- the part from f to t stands in the first list up to its end, and then in the second
pub slice-parts : (f t : ℕ) (a b : List ℕ) → slice f t (a ++ b) ≡ slice f t a ++ slice (f - length a) (t - length a) b
slice-parts f t a b =
    ap (drop f) (take-parts t a b) ∙ drop-parts f (take t a) (take (t - length a) b)
    ∙ ap (λ (l : List ℕ). slice f t a ++ l) (second (lt_or_le t (length a)))
  where
    second : (t < length a) ⊎ (length a ≤ t) → drop (f - length (take t a)) (take (t - length a) b) ≡ slice (f - length a) (t - length a) b
    second (inl h) =
        let z : t - length a ≡ 0 = omega arith in
        ap (λ (n : ℕ). drop (f - length (take t a)) (take n b)) z ∙ drop-nil (f - length (take t a))
        ∙ sym (ap (λ (n : ℕ). drop (f - length a) (take n b)) z ∙ drop-nil (f - length a))
    second (inr h) = ap (λ (l : List ℕ). drop (f - length l) (take (t - length a) b)) (take_all t a h)

pub get_or-slice-first : (f t : ℕ) (l : List ℕ) → f < t → get_or (slice f t l) 0 0 ≡ get_or l f 0
get_or-slice-first f t l h = get_or-slice f t 0 l (omega arith) ∙ ap (λ (i : ℕ). get_or l i 0) (add-zero f)
