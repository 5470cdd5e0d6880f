-- Continuation: the register over one run of bytes and then another, and the steps of a loop over a slice. Assumes nothing.
use mathlib.Core.Path.{◌≡◌, refl, sym, ap, ◌∙◌}
use mathlib.Core.List.{List, [], ◌∷◌, ◌++◌}
use Prim.Native.Nat.{ℕ, ◌+◌, ◌-◌, ◌<◌, ◌≤◌}
use native.Mathlib.Numerals.{add-one}
use native.Mathlib.Omega.{arith}
use lib.ListN.{length, take, drop, get_or}
use lib.Seq.{take-suc, take_all, take-add}
use Rattle.crc.specs.Crc.{Kind, byte_step, update}

pub update-none : (k : Kind) (r : ℕ) → update k r [] ≡ r
unfolding update
update-none k r = refl

-- over s and then t: the register goes on from where s left it
pub update-append : (k : Kind) (r : ℕ) (s t : List ℕ) → update k r (s ++ t) ≡ update k (update k r s) t
unfolding update
update-append k r [] t = refl
update-append k r (b ∷ s) t = update-append k (byte_step k r b) s t

-- ---- c is the register after the first i bytes of s

-- one byte more:
pub update-next : (k : Kind) (r : ℕ) (s : List ℕ) (i : ℕ) {c : ℕ} → i < length s → c ≡ update k r (take i s)
    → byte_step k c (get_or s i 0) ≡ update k r (take (i + 1) s)
unfolding update
update-next k r s i h e =
    ap (λ (x : ℕ). byte_step k x (get_or s i 0)) e
    ∙ sym (update-append k r (take i s) (get_or s i 0 ∷ []))
    ∙ ap (update k r) (sym (take-suc s i 0 h) ∙ ap (λ (n : ℕ). take n s) (sym (add-one i)))

-- n bytes more:
pub update_skip : (k : Kind) (r : ℕ) (s : List ℕ) (i n : ℕ) {c : ℕ} → c ≡ update k r (take i s)
    → update k c (take n (drop i s)) ≡ update k r (take (i + n) s)
update_skip k r s i n e =
    ap (λ (x : ℕ). update k x (take n (drop i s))) e ∙ sym (update-append k r (take i s) (take n (drop i s)))
    ∙ ap (update k r) (sym (take-add i n s))

-- all the rest, as the part of a slice from i on:
pub update-rest : (k : Kind) (r : ℕ) (s : List ℕ) (i : ℕ) {c : ℕ} → i ≤ length s → c ≡ update k r (take i s)
    → update k c (take (length s - i) (drop i s)) ≡ update k r s
update-rest k r s i h e = update_skip k r s i (length s - i) e ∙ ap (update k r) (take_all (i + (length s - i)) s (omega arith))
