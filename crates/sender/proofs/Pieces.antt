-- Some bytes in pieces: they are all there, and full but the last. Assumes nothing.
use mathlib.Core.Path.{◌≡◌, refl, sym, ap, ◌∙◌}
use mathlib.Core.Logic.{⊎_elim}
use mathlib.Core.List.{List, [], ◌∷◌, ◌++◌}
use Prim.Native.Nat.{ℕ, zero, suc, ◌+◌, ◌≤◌, ◌<◌}
use native.Mathlib.Omega.{arith}
use lib.ListN.{length, take, drop, length-take, length-drop, drop_of_length-le, take-append-drop}
use lib.Seq.{length-take-le}
use Rattle.sequences.proofs.Orders.{lt_or_le}
use Rattle.sender.specs.Granted.{pieces, packets, FullButLast, joined}

pub pieces_none : (most n : ℕ) → pieces most n [] ≡ []
unfolding pieces
pieces_none zero n = refl
pieces_none (suc most) n = refl

pub pieces-next : (most n : ℕ) (s : List ℕ) → 0 < length s → pieces (suc most) n s ≡ take n s ∷ pieces most n (drop n s)
unfolding pieces
pieces-next most n [] some = absurd (omega arith)
pieces-next most n (b ∷ s) some = refl

pub packets-size : (channel number : ℕ) (ps : List (List ℕ)) → length (packets channel number ps) ≡ length ps
unfolding packets
packets-size channel number [] = refl
packets-size channel number (p ∷ ps) = ap suc (packets-size channel (number + 1) ps)

-- all bytes are there
pub pieces_whole : (most n : ℕ) (s : List ℕ) → 0 < n → length s ≤ most → joined (pieces most n s) ≡ s
unfolding pieces
pieces_whole zero n [] some fits = refl
pieces_whole zero n (b ∷ s) some fits = absurd (omega arith)
pieces_whole (suc most) n [] some fits = refl
pieces_whole (suc most) n (b ∷ s) some fits =
    ap (λ (t : List ℕ). take n (b ∷ s) ++ t) (pieces_whole most n (drop n (b ∷ s)) some (omega (arith, length-drop n (b ∷ s))))
    ∙ take-append-drop n (b ∷ s)

-- ---- full but the last

-- one piece more in front
full-more : (n : ℕ) (p : List ℕ) (ps : List (List ℕ)) → 0 < length p → length p ≤ n
    → ((q : List ℕ) (qs : List (List ℕ)) → ps ≡ q ∷ qs → length p ≡ n)
    → FullButLast n ps → FullButLast n (p ∷ ps)
full-more n p [] some most full rest = (some, most)
full-more n p (q ∷ ps) some most full rest = (full q ps refl, rest)

pub pieces-full : (most n : ℕ) (s : List ℕ) → 0 < n → length s ≤ most → FullButLast n (pieces most n s)
unfolding pieces
pieces-full zero n s some fits = tt
pieces-full (suc most) n [] some fits = tt
pieces-full (suc most) n (b ∷ s) some fits =
    let size = length-take n (b ∷ s) in
    full-more n (take n (b ∷ s)) (pieces most n (drop n (b ∷ s))) (omega arith) (omega arith)
    (λ q qs e. ⊎_elim (λ more. length-take-le n (b ∷ s) (omega arith)) (λ less. absurd (none q qs e less)) (lt_or_le n (length (b ∷ s))))
    (pieces-full most n (drop n (b ∷ s)) some (omega (arith, length-drop n (b ∷ s))))
  where
    none : (q : List ℕ) (qs : List (List ℕ)) → pieces most n (drop n (b ∷ s)) ≡ q ∷ qs → length (b ∷ s) ≤ n → ⊥
    none q qs e less =
        let empty = sym (ap (pieces most n) (drop_of_length-le (b ∷ s) less) ∙ pieces_none most n) ∙ e in
        let z : ◌≡◌ {A = ℕ} 0 1 = cc in
        omega arith
