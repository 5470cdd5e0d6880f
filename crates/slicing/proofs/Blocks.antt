-- A loop over a message, block after block: c is the register so far, and the bytes `left` are still to come. Assumes nothing.
use mathlib.Core.Path.{◌≡◌, sym, ap, ◌∙◌}
use mathlib.Core.List.{List, [], ◌∷◌, ◌++◌}
use Prim.Native.Nat.{ℕ, ◌+◌, ◌-◌, ◌*◌, ◌/◌, ◌%◌, ◌<◌}
use native.Mathlib.Nat.{add-mod_left, div-add-mod, mul-add-mod_self_left, mod-eq_of_lt, zero-mod}
use native.Mathlib.Omega.{arith}
use lib.ListN.{length, take, length-append}
use Rattle.crc.specs.Crc.{Kind, update}
use Rattle.crc.proofs.Updates.{update-append}

-- one block less leaves whole blocks
pub whole_next : (n : ℕ) (left block more : List ℕ) → left ≡ block ++ more → length block ≡ n → length left % n ≡ 0 → length more % n ≡ 0
whole_next n left block more split size whole =
    sym (add-mod_left n (length more))
    ∙ sym (ap (λ (m : ℕ). (m + length more) % n) size)
    ∙ sym (ap (λ (m : ℕ). m % n) (ap length split ∙ length-append block more))
    ∙ whole

pub register_next : (k : Kind) (c e z : ℕ) (left block more : List ℕ) → left ≡ block ++ more → e ≡ update k c block → update k c left ≡ z
    → update k e more ≡ z
register_next k c e z left block more split step before =
    ap (λ (r : ℕ). update k r more) step
    ∙ sym (ap (update k c) split ∙ update-append k c block more)
    ∙ before

-- where less than a block is left, nothing is
pub register_end : (k : Kind) (n c z : ℕ) (left : List ℕ) → length left % n ≡ 0 → length left < n → update k c left ≡ z → c ≡ z
unfolding update
register_end k n c z [] whole few before = before
register_end k n c z (x ∷ left) whole few before =
    let none : length (x ∷ left) ≡ 0 = sym (mod-eq_of_lt few) ∙ whole in
    absurd (omega (arith, none))

-- all blocks of m bytes are whole
pub whole_first : (n m i : ℕ) → i ≡ m - m % n → i % n ≡ 0
whole_first n m i e =
    let parts = div-add-mod m n in
    let all : i ≡ n * (m / n) + 0 = omega (arith, parts, e) in
    ap (λ (x : ℕ). x % n) all ∙ mul-add-mod_self_left n (m / n) 0 ∙ zero-mod n

-- the blocks and then the rest
pub register_whole : (k : Kind) (r c z i : ℕ) (s front back : List ℕ) → s ≡ front ++ back → front ≡ take i s → c ≡ update k r (take i s)
    → z ≡ update k c back → z ≡ update k r s
register_whole k r c z i s front back split first before step =
    step
    ∙ ap (λ (x : ℕ). update k x back) (before ∙ ap (update k r) (sym first))
    ∙ sym (ap (update k r) split ∙ update-append k r front back)
