-- Several bytes at once by a table for each ("slicing"): a byte's entry is carried on over the bytes of zero in the places of those
-- after it, and the entries are added. Assumes nothing.
use mathlib.Core.Path.{◌≡◌, sym, ap, ap₂, ◌∙◌}
use mathlib.Core.List.{List, ◌∷◌, ◌++◌}
use Prim.Native.Nat.{ℕ, zero, suc, ◌+◌, ◌-◌, ◌≤◌, ◌<◌}
use native.Mathlib.Nat.{add-zero}
use native.Mathlib.Numerals.{add-one}
use native.Mathlib.Omega.{arith}
use lib.ListN.{length, take, drop, get_or, length-drop}
use lib.Seq.{take-add, drop-drop, drop-cons, length-take-le, take_all}
use lib.Bits.{bit_xor, xor_zero_l, xor_zero_r}
use Rattle.std.specs.Int.Bits.{xor_assoc}
use Rattle.crc.specs.Crc.{Direction, Kind, byte_step, update}
use Rattle.crc.specs.Tables.{zero_bytes, front, rest}
use Rattle.crc.specs.Folding.{unmet}
use Rattle.crc.proofs.Linear.{update-xor, zero_bytes-xor, zero_bytes-add, zero_bytes-zero}
use Rattle.crc.proofs.TableStep.{byte-table}
use Rattle.crc.proofs.Updates.{update-none, update-append}

-- the table entry for the byte b, the register being r
abbrev entry : Kind → ℕ → ℕ → ℕ
entry k r b = byte_step k 0 (bit_xor (front k.direction k.width r) b)

-- what the register gives to the bytes after that one
abbrev left : Kind → ℕ → ℕ
left k r = rest k.direction k.width r

-- the sum of the entries of the m bytes of s at i, carried on over n bytes of zero besides
abbrev pub entries : Kind → ℕ → ℕ → List ℕ → ℕ → ℕ → ℕ
entries k n r s i zero = zero_bytes k n r
entries k n r s i (suc m) = bit_xor (zero_bytes k (n + m) (entry k r (get_or s i 0))) (entries k n (left k r) s (i + 1) m)

-- the first of several bytes
update-first : (k : Kind) → 8 ≤ k.width → (r b : ℕ) (s : List ℕ)
    → update k r (b ∷ s) ≡ bit_xor (zero_bytes k (length s) (entry k r b)) (update k (left k r) s)
unfolding update
update-first k h r b s = ap (λ (x : ℕ). update k x s) (byte-table k h r b) ∙ update-xor k (entry k r b) (left k r) s

-- the same of the bytes of a list at i
update-at : (k : Kind) → 8 ≤ k.width → (r : ℕ) (s : List ℕ) (i n : ℕ) → i + suc n ≤ length s
    → update k r (take (suc n) (drop i s))
    ≡ bit_xor (zero_bytes k n (entry k r (get_or s i 0))) (update k (left k r) (take n (drop (i + 1) s)))
update-at k h r s i n f =
    let some : i < length s = omega arith in
    let more = take n (drop (i + 1) s) in
    let long : length more ≡ n = length-take-le n (drop (i + 1) s) (rw length-drop (omega arith)) in
    ap (λ (l : List ℕ). update k r (take (suc n) l)) (drop-cons s i 0 some ∙ ap (λ (x : ℕ). get_or s i 0 ∷ drop x s) (sym (add-one i)))
    ∙ update-first k h r (get_or s i 0) more
    ∙ ap (λ (m : ℕ). bit_xor (zero_bytes k m (entry k r (get_or s i 0))) (update k (left k r) more)) long

-- the register after m bytes and n bytes of zero is the sum of their entries
pub update-entries : (k : Kind) → 8 ≤ k.width → (n r : ℕ) (s : List ℕ) (i m : ℕ) → i + m ≤ length s
    → zero_bytes k n (update k r (take m (drop i s))) ≡ entries k n r s i m
update-entries k h n r s i zero f = ap (zero_bytes k n) (update-none k r)
update-entries k h n r s i (suc m) f =
    let e = entry k r (get_or s i 0) in
    ap (zero_bytes k n) (update-at k h r s i m f)
    ∙ zero_bytes-xor k n (zero_bytes k m e) (update k (left k r) (take m (drop (i + 1) s)))
    ∙ ap₂ bit_xor (zero_bytes-add k m n e) (update-entries k h n (left k r) s (i + 1) m (omega arith))

-- ---- a loop over s adds the entries up: c is the sum so far, and the register q is left to the bytes from the i-th on

pub entries-none : (k : Kind) → 8 ≤ k.width → (c r : ℕ) (s : List ℕ) → c ≡ 0 → bit_xor c (entries k 0 r s 0 (length s)) ≡ update k r s
unfolding zero_bytes
entries-none k wide c r s none =
    ap (λ (x : ℕ). bit_xor x (entries k 0 r s 0 (length s))) none
    ∙ xor_zero_l (entries k 0 r s 0 (length s))
    ∙ sym (update-entries k wide 0 r s 0 (length s) (omega arith))
    ∙ ap (update k r) (take_all (length s) s (omega arith))

-- one byte more: f is the front that it meets, x its entry
pub entries_next : (k : Kind) (w : ℕ) (d : Direction) → (k.width ≡ w) × (k.direction ≡ d) → (s : List ℕ) (i c q f x e p z : ℕ) → i < length s
    → f ≡ front d w q
    → x ≡ zero_bytes k (length s - 1 - i) (byte_step k 0 (bit_xor f (get_or s i 0)))
    → e ≡ bit_xor c x → p ≡ rest d w q
    → bit_xor c (entries k 0 q s i (length s - i)) ≡ z
    → bit_xor e (entries k 0 p s (i + 1) (length s - (i + 1))) ≡ z
entries_next k w d goes s i c q f x e p z there met looked added moved before =
    let m = length s - (i + 1) in
    let more : length s - i ≡ suc m = omega arith in
    let after : length s - 1 - i ≡ 0 + m = omega arith in
    let now : f ≡ front k.direction k.width q = met ∙ ap₂ (λ (t : Direction) (n : ℕ). front t n q) (sym goes.1) (sym goes.0) in
    let next : p ≡ left k q = moved ∙ ap₂ (λ (t : Direction) (n : ℕ). rest t n q) (sym goes.1) (sym goes.0) in
    let own : x ≡ zero_bytes k (0 + m) (entry k q (get_or s i 0)) = looked
    ∙ ap₂ (λ (n y : ℕ). zero_bytes k n (byte_step k 0 (bit_xor y (get_or s i 0)))) after now in
    ap₂ (λ (y r : ℕ). bit_xor y (entries k 0 r s (i + 1) m)) (added ∙ ap (bit_xor c) own) next
    ∙ xor_assoc c (zero_bytes k (0 + m) (entry k q (get_or s i 0))) (entries k 0 (left k q) s (i + 1) m)
    ∙ ap (λ (n : ℕ). bit_xor c (entries k 0 q s i n)) (sym more)
    ∙ before

-- after the last one the register that is left has no byte to meet
pub entries_all : (k : Kind) (s : List ℕ) (i c q z : ℕ) → length s ≤ i → bit_xor c (entries k 0 q s i (length s - i)) ≡ z → bit_xor c q ≡ z
unfolding zero_bytes
entries_all k s i c q z end before =
    let none : length s - i ≡ 0 = omega arith in
    sym (ap (λ (n : ℕ). bit_xor c (entries k 0 q s i n)) none) ∙ before

-- ---- bytes apart

-- the same for m + 1 bytes that use the register up: no term for what is left of it
abbrev pub entries_alone : Kind → ℕ → ℕ → List ℕ → ℕ → ℕ → ℕ
entries_alone k n r s i zero = zero_bytes k n (entry k r (get_or s i 0))
entries_alone k n r s i (suc m) = bit_xor (zero_bytes k (n + suc m) (entry k r (get_or s i 0))) (entries_alone k n (left k r) s (i + 1) m)

pub update-alone : (k : Kind) → 8 ≤ k.width → (n r : ℕ) (s : List ℕ) (i m : ℕ) → i + suc m ≤ length s → unmet k (suc m) r ≡ 0
    → zero_bytes k n (update k r (take (suc m) (drop i s))) ≡ entries_alone k n r s i m
update-alone k h n r s i m f none = update-entries k h n r s i (suc m) f ∙ alone r i m none
  where
    alone : (q j l : ℕ) → unmet k (suc l) q ≡ 0 → entries k n q s j (suc l) ≡ entries_alone k n q s j l
    alone q j zero none =
        let e = entry k q (get_or s j 0) in
        ap₂ (λ (x y : ℕ). bit_xor (zero_bytes k x e) y) (add-zero n) (ap (zero_bytes k n) none ∙ zero_bytes-zero k n)
        ∙ xor_zero_r (zero_bytes k n e)
    alone q j (suc l) none = ap (bit_xor (zero_bytes k (n + suc l) (entry k q (get_or s j 0)))) (alone (left k q) (j + 1) l none)

-- m bytes at i and then n more: the two may be taken apart, the second from 0
pub update_join : (k : Kind) (r : ℕ) (s : List ℕ) (i m n : ℕ) → i + (m + n) ≤ length s
    → update k r (take (m + n) (drop i s)) ≡ bit_xor (zero_bytes k n (update k r (take m (drop i s)))) (update k 0 (take n (drop (i + m) s)))
update_join k r s i m n f =
    let first = update k r (take m (drop i s)) in
    let more = take n (drop (i + m) s) in
    let long : length more ≡ n = length-take-le n (drop (i + m) s) (rw length-drop (omega arith)) in
    ap (update k r) (take-add m n (drop i s) ∙ ap (λ (l : List ℕ). take m (drop i s) ++ take n l) (drop-drop m i s))
    ∙ update-append k r (take m (drop i s)) more
    ∙ ap (λ (x : ℕ). update k x more) (sym (xor_zero_r first))
    ∙ update-xor k first 0 more
    ∙ ap (λ (x : ℕ). bit_xor (zero_bytes k x first) (update k 0 more)) long

-- four times m bytes, each but the first from 0 and carried on over those after it
pub update_quarters : (k : Kind) (r : ℕ) (s : List ℕ) (i m a b c d : ℕ) → i + (m + (m + (m + m))) ≤ length s
    → a ≡ zero_bytes k (m + (m + m)) (update k r (take m (drop i s)))
    → b ≡ zero_bytes k (m + m) (update k 0 (take m (drop (i + m) s)))
    → c ≡ zero_bytes k m (update k 0 (take m (drop (i + m + m) s)))
    → d ≡ zero_bytes k 0 (update k 0 (take m (drop (i + m + m + m) s)))
    → bit_xor a (bit_xor b (bit_xor c d)) ≡ update k r (take (m + (m + (m + m))) (drop i s))
unfolding zero_bytes
update_quarters k r s i m a b c d f e0 e1 e2 e3 =
    let last = ap₂ bit_xor e2 e3 ∙ sym (update_join k 0 s (i + m + m) m m (omega arith)) in
    let three = ap₂ bit_xor e1 last ∙ sym (update_join k 0 s (i + m) m (m + m) (omega arith)) in
    ap₂ bit_xor e0 three ∙ sym (update_join k r s i m (m + (m + m)) f)
