-- Lists filled up with zeros. Assumes nothing.
use mathlib.Core.Path.{◌≡◌, sym, ap, ap₂, ◌∙◌}
use mathlib.Core.List.{List, ◌++◌, append_assoc}
use Prim.Native.Nat.{ℕ, zero, suc, ◌+◌, ◌-◌, ◌≤◌}
use native.Mathlib.Nat.{zero-lt-suc}
use native.Mathlib.Omega.{arith}
use lib.ListN.{length, take, drop, length-append, length-replicate}
use lib.Seq.{take-append_seam, drop-append-add}
use Rattle.sequences.specs.Bytes.{Bytes}
use Rattle.sequences.specs.Padding.{zeros, padded}
use Rattle.sequences.specs.Places.{written_at}
use Rattle.sequences.proofs.Places.{written-fits}

pub drop-zeros : (k n : ℕ) → drop k (zeros n) ≡ zeros (n - k)
drop-zeros zero n = ap zeros (let e : n ≡ n - 0 = omega arith in e)
drop-zeros (suc k) zero = ap zeros (let e : 0 ≡ 0 - suc k = omega arith in e)
drop-zeros (suc k) (suc n) = drop-zeros k n ∙ ap zeros (let e : n - k ≡ suc n - suc k = omega arith in e)

pub padded-size : (n : ℕ) (s : List ℕ) → length s ≤ n → length (padded n s) ≡ n
padded-size n s h = omega (arith, length-append s (zeros (n - length s)), length-replicate {A = ℕ} (n - length s) 0)

-- the bytes before the zeros
pub take-padded : (n : ℕ) (s : List ℕ) → take (length s) (padded n s) ≡ s
take-padded n s = take-append_seam s (zeros (n - length s))

pub bytes-zeros : (k : ℕ) → Bytes (zeros k)
bytes-zeros zero = tt
bytes-zeros (suc k) = (zero-lt-suc 255, bytes-zeros k)

-- written behind what stands in front of the zeros
pub padded-more : (n : ℕ) (s p : List ℕ) → length s + length p ≤ n → written_at (padded n s) (length s) p ≡ padded n (s ++ p)
padded-more n s p fits =
    let k = n - length s in
    let left : k - length p ≡ n - length (s ++ p) = omega (arith, length-append s p) in
    written-fits (padded n s) p (length s) (omega (arith, padded-size n s (omega arith)))
    ∙ ap₂ (λ (x y : List ℕ). x ++ (p ++ y)) (take-append_seam s (zeros k))
    (drop-append-add s (zeros k) (length p) ∙ drop-zeros (length p) k ∙ ap zeros left)
    ∙ sym (append_assoc s p (zeros (n - length (s ++ p))))
