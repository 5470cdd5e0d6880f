-- The unused places of the board list are filled. Assumes nothing.
use mathlib.Core.Path.{◌≡◌, refl, sym, ap, ap₂, ◌∙◌}
use mathlib.Core.List.{List, [], ◌∷◌, ◌++◌, append-nil}
use Prim.Native.Nat.{ℕ, suc, ◌-◌, ◌≤◌, ◌<◌}
use native.Mathlib.Omega.{arith}
use borrow.Rule.Slice.PartMut.{put_mid}
use lib.ListN.{length, take, drop, get_or, replicate, length-drop, drop_of_length-le, take-append-drop}
use Rattle.std.proofs.lemmas.Grind.{common_steps}

-- a list whose every element is z
replicate-is : {X : Type 0} (ys : List X) (z : X) → ((k : ℕ) (d : X) → k < length ys → get_or ys k d ≡ z) → ys ≡ replicate (length ys) z
replicate-is [] z f = refl
replicate-is (y ∷ ys) z f =
    ap₂ (λ (x : _) (l : List _). x ∷ l) (f 0 z (omega arith)) (replicate-is ys z (λ k d h. f (suc k) d (omega arith)))

-- the places from n on, written anew
pub filled-rest : {X : Type 0} (xs ys : List X) (z : X) (n m : ℕ) → length xs ≡ m → n < m → length ys ≡ length (take (m - n) (drop n xs))
    → ((k : ℕ) (d : X) → k < length (take (m - n) (drop n xs)) → get_or ys k d ≡ z)
    → put_mid n (m - n) xs ys ≡ take n xs ++ replicate (m - n) z
filled-rest xs ys z n m size h len f =
    let count : length (take (m - n) (drop n xs)) ≡ m - n = grind (arith, common_steps) in
    let all : ys ≡ replicate (length ys) z = replicate-is ys z (λ k d b. f k d (omega arith)) in
    let many : length ys ≡ m - n = omega arith in
    let past : drop (m - n) (drop n xs) ≡ [] = drop_of_length-le (drop n xs) (omega (arith, length-drop n xs)) in
    ap (λ (l : List _). take n xs ++ l)
    (ap (λ (l : List _). ys ++ l) past ∙ append-nil ys ∙ all ∙ ap (λ (k : ℕ). replicate k z) many)

pub all-taken : {X : Type 0} (xs : List X) (z : X) (n m : ℕ) → length xs ≡ m → m ≤ n → xs ≡ take n xs ++ replicate (m - n) z
all-taken xs z n m size h =
    let none : m - n ≡ 0 = omega arith in
    let past : drop n xs ≡ [] = drop_of_length-le xs (omega arith) in
    sym
    (ap (λ (k : ℕ). take n xs ++ replicate k z) none ∙ ap (λ (l : List _). take n xs ++ l) (sym past) ∙ take-append-drop n xs)
