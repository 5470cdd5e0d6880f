-- A CRC is linear: the register of a sum (xor) is the sum of the registers. Assumes nothing.
use mathlib.Core.Path.{◌≡◌, refl, sym, ap, ap₂, ◌∙◌}
use mathlib.Core.List.{List, [], ◌∷◌}
use Prim.Native.Nat.{ℕ, zero, suc, ◌+◌, ◌-◌, ◌*◌, ◌/◌, ◌%◌, ◌^◌, ◌<◌}
use native.Mathlib.Nat.{add-zero, add-suc}
use lib.ListN.{length}
use lib.Bits.{bit_xor, xor_shr, xor_mod, xor_self, xor_zero_r}
use Rattle.std.specs.Int.Bits.{xor_assoc}
use Rattle.crc.specs.Crc.{Direction, normal, reflected, Kind, leaving, shifted, entering, bit, bits, byte_step, update}
use Rattle.crc.specs.Tables.{zero_bytes}
use Rattle.crc.proofs.Xor.{odd_lt, xor_medial, xor_shl, xor_times}

leaving_lt : (d : Direction) (w a : ℕ) → leaving d w a < 2
leaving_lt normal w a = odd_lt (a / 2 ^ (w - 1))
leaving_lt reflected w a = odd_lt a

leaving-xor : (d : Direction) (w a b : ℕ) → leaving d w (bit_xor a b) ≡ bit_xor (leaving d w a) (leaving d w b)
leaving-xor normal w a b = ap (λ (x : ℕ). x % 2) (xor_shr a b (w - 1)) ∙ xor_mod (a / 2 ^ (w - 1)) (b / 2 ^ (w - 1)) 1
leaving-xor reflected w a b = xor_mod a b 1

shifted-xor : (d : Direction) (w a b : ℕ) → shifted d w (bit_xor a b) ≡ bit_xor (shifted d w a) (shifted d w b)
shifted-xor normal w a b = ap (λ (x : ℕ). x % 2 ^ w) (xor_shl a b 1) ∙ xor_mod (a * 2) (b * 2) w
shifted-xor reflected w a b = xor_shr a b 1

pub entering-xor : (d : Direction) (w a b : ℕ) → entering d w (bit_xor a b) ≡ bit_xor (entering d w a) (entering d w b)
entering-xor normal w a b = xor_shl a b (w - 8)
entering-xor reflected w a b = refl

pub bit-xor : (k : Kind) (a b : ℕ) → bit k (bit_xor a b) ≡ bit_xor (bit k a) (bit k b)
unfolding bit
bit-xor k a b =
    let d = k.direction in
    let w = k.width in
    let p = k.poly in
    ap₂ (λ (x y : ℕ). bit_xor (x * p) y) (leaving-xor d w a b) (shifted-xor d w a b)
    ∙ ap (λ (x : ℕ). bit_xor x (bit_xor (shifted d w a) (shifted d w b)))
    (xor_times p (leaving d w a) (leaving d w b) (leaving_lt d w a) (leaving_lt d w b))
    ∙ xor_medial (leaving d w a * p) (leaving d w b * p) (shifted d w a) (shifted d w b)

pub bits-xor : (k : Kind) (n a b : ℕ) → bits k n (bit_xor a b) ≡ bit_xor (bits k n a) (bits k n b)
unfolding bits
bits-xor k zero a b = refl
bits-xor k (suc n) a b = ap (bits k n) (bit-xor k a b) ∙ bits-xor k n (bit k a) (bit k b)

pub byte-xor : (k : Kind) (u v b : ℕ) → byte_step k (bit_xor u v) b ≡ bit_xor (bits k 8 u) (byte_step k v b)
unfolding byte_step
byte-xor k u v b =
    let e = entering k.direction k.width b in
    ap (bits k 8) (xor_assoc u v e) ∙ bits-xor k 8 u (bit_xor v e)

pub update-xor : (k : Kind) (u v : ℕ) (s : List ℕ) → update k (bit_xor u v) s ≡ bit_xor (zero_bytes k (length s) u) (update k v s)
unfolding update zero_bytes
update-xor k u v [] = refl
update-xor k u v (b ∷ s) = ap (λ (x : ℕ). update k x s) (byte-xor k u v b) ∙ update-xor k (bits k 8 u) (byte_step k v b) s

-- from any register: its own part, and that of the bytes
pub update_from : (k : Kind) (r : ℕ) (s : List ℕ) → update k r s ≡ bit_xor (zero_bytes k (length s) r) (update k 0 s)
update_from k r s = ap (λ (x : ℕ). update k x s) (sym (xor_zero_r r)) ∙ update-xor k r 0 s

-- ---- bytes

pub byte-sum : (k : Kind) (u v x y : ℕ) → byte_step k (bit_xor u v) (bit_xor x y) ≡ bit_xor (byte_step k u x) (byte_step k v y)
unfolding byte_step
byte-sum k u v x y =
    let d = k.direction in
    let w = k.width in
    ap (λ (e : ℕ). bits k 8 (bit_xor (bit_xor u v) e)) (entering-xor d w x y)
    ∙ ap (bits k 8) (xor_medial u v (entering d w x) (entering d w y))
    ∙ bits-xor k 8 (bit_xor u (entering d w x)) (bit_xor v (entering d w y))

pub byte-none : (k : Kind) → byte_step k 0 0 ≡ 0
byte-none k = byte-sum k 0 0 0 0 ∙ xor_self (byte_step k 0 0)

pub byte-parts : (k : Kind) (r b : ℕ) → byte_step k r b ≡ bit_xor (bits k 8 r) (byte_step k 0 b)
byte-parts k r b = ap (λ (x : ℕ). byte_step k x b) (sym (xor_zero_r r)) ∙ byte-xor k r 0 b

-- ---- bytes of zero

pub zero_bytes-xor : (k : Kind) (n a b : ℕ) → zero_bytes k n (bit_xor a b) ≡ bit_xor (zero_bytes k n a) (zero_bytes k n b)
unfolding zero_bytes
zero_bytes-xor k zero a b = refl
zero_bytes-xor k (suc n) a b = ap (zero_bytes k n) (bits-xor k 8 a b) ∙ zero_bytes-xor k n (bits k 8 a) (bits k 8 b)

pub zero_bytes-add : (k : Kind) (m n r : ℕ) → zero_bytes k n (zero_bytes k m r) ≡ zero_bytes k (n + m) r
unfolding zero_bytes
zero_bytes-add k zero n r = ap (λ (x : ℕ). zero_bytes k x r) (sym (add-zero n))
zero_bytes-add k (suc m) n r = zero_bytes-add k m n (bits k 8 r) ∙ ap (λ (x : ℕ). zero_bytes k x r) (sym (add-suc n m))

-- from 0 the register stays 0: it is the sum of 0 and 0, so the sum of a register and itself
pub zero_bytes-zero : (k : Kind) (n : ℕ) → zero_bytes k n 0 ≡ 0
zero_bytes-zero k n = zero_bytes-xor k n 0 0 ∙ xor_self (zero_bytes k n 0)
