-- Adding to a line: a byte, a text, and one text behind another. Assumes nothing.
use Rattle.std.proofs.Common.{◌≡◌, ℕ, ◌+◌, ◌-◌, ◌*◌, ◌^◌, ◌<◌, ◌≤◌, Bool, true, cond, List, [], ◌∷◌, ◌++◌, length, take, drop, set, sym, refl, ap, ◌∙◌, subst, ap₂, append_assoc, le_of_suc-le-suc, lt_of_not-le, add-one, arith, length-append, length-drop, length-set, length-take-le, take-suc-set, take_at, le-leb}
use native.Mathlib.Nat.{pow-le-pow_right}
use lib.Seq.{take-length}
use Rattle.sequences.specs.Places.{written_at}
use Rattle.sequences.proofs.Places.{part_written, written-fits, written-size}
use Rattle.io.specs.Digits.{last_digits, IsDigitCount}
use Rattle.text.specs.Hex.{hex_bytes, hex_fits, hex_size, hex_room}
use Rattle.text.proofs.Hexes.{length-hex_bytes}
use Rattle.text.proofs.Digits.{is-decimal}
use Rattle.account.specs.declared.line.Line.{Line}
use Rattle.account.specs.Texts.{max_line, line_text, reply_text, Adds, AddsDecimal}

pub adds-byte : (l : Line) (b : ℕ) → l.count < length l.bytes
    → Adds l (b ∷ []) (record { bytes = set l.bytes l.count b; count = l.count + 1 })
adds-byte l b h =
    record {
      says = ap (λ (n : ℕ). take n (set l.bytes l.count b)) (add-one l.count) ∙ take-suc-set l.bytes l.count b h;
      counts = refl;
      keeps = length-set l.bytes l.count b;
    }

pub adds-both : {l m r : Line} {s t : List ℕ} → Adds l s m → Adds m t r → Adds l (s ++ t) r
adds-both {l} {m} {r} {s} {t} f g =
    record {
      says = g.says ∙ ap (λ (x : List ℕ). x ++ t) f.says ∙ append_assoc (line_text l) s t;
      counts = omega (arith, length-append s t);
      keeps = g.keeps ∙ f.keeps;
    }

pub from_empty : {l r : Line} {t : List ℕ} → l.count ≡ 0 → Adds l t r → line_text r ≡ t
from_empty {l} {r} {t} h f = f.says ∙ ap (λ (n : ℕ). take n l.bytes ++ t) h

-- ---- a text, put into the bytes behind the line's end

adds-written : (l : Line) (t : List ℕ) → l.count + length t ≤ length l.bytes
    → Adds l t (record { bytes = written_at l.bytes l.count t; count = l.count + length t })
adds-written l t h =
    let at = l.count in
    let f = take at l.bytes in
    let d = drop (at + length t) l.bytes in
    let size : length (f ++ t) ≡ at + length t = omega (arith, length-append f t, length-take-le at l.bytes (omega arith)) in
    record {
      says = ap (take (at + length t)) (written-fits l.bytes t at h ∙ sym (append_assoc f t d))
          ∙ take_at (f ++ t) d (at + length t) size;
      counts = refl;
      keeps = written-size l.bytes t l.count;
    }

-- the room behind the line's end, as a callee is lent it, and the line's bytes with q left there
abbrev room_of : Line → List ℕ
room_of l = take (length l.bytes - l.count) (drop l.count l.bytes)

abbrev left_by : Line → List ℕ → List ℕ
left_by l q = take l.count l.bytes ++ (q ++ drop (length l.bytes - l.count) (drop l.count l.bytes))

pub adds_part : (l : Line) (t q : List ℕ) (n : ℕ) → length l.bytes ≡ max_line → l.count + length t ≤ max_line → n ≡ length t
    → q ≡ take (length t) t ++ drop (length t) (room_of l) → Adds l t (record { bytes = left_by l q; count = l.count + n })
adds_part l t q n size h en eq =
    let at = l.count in
    let fits : at + length t ≤ length l.bytes = omega arith in
    let is : left_by l q ≡ written_at l.bytes at t = part_written l.bytes t q at (length l.bytes - at) (omega arith) fits eq in
    subst (λ (k : ℕ). Adds l t (record { bytes = left_by l q; count = at + k })) (sym en)
    (subst (λ (b : List ℕ). Adds l t (record { bytes = b; count = at + length t })) (sym is) (adds-written l t fits))

-- ---- a reply

hex_fits_lem : (l : Line) (s : List ℕ) → length l.bytes ≡ max_line → l.count + 2 * length s ≤ max_line → hex_fits s (room_of l) ≡ true
hex_fits_lem l s size h =
    let behind = drop l.count l.bytes in
    let long : length behind ≡ length l.bytes - l.count = length-drop l.count l.bytes in
    le-leb (2 * length s) (length (room_of l)) (omega (arith, length-take-le (length l.bytes - l.count) behind (omega (arith, long))))

pub hex_count : (l : Line) (s : List ℕ) (n : ℕ) → length l.bytes ≡ max_line → l.count + 2 * length s ≤ max_line
    → n ≡ hex_size s (room_of l) → n ≡ 2 * length s
hex_count l s n size h en = en ∙ ap (λ (b : Bool). cond b (2 * length s) 0) (hex_fits_lem l s size h)

pub no-reply : (s : List ℕ) → length s ≡ 0 → reply_text s ≡ 45 ∷ []
no-reply [] h = refl
no-reply (b ∷ s) h = absurd (omega arith)

some-reply : (s : List ℕ) → 0 < length s → reply_text s ≡ hex_bytes s
some-reply [] h = absurd (omega arith)
some-reply (b ∷ s) h = refl

pub adds-reply : (l : Line) (s q : List ℕ) (n : ℕ) → length l.bytes ≡ max_line → l.count + 2 * length s ≤ max_line → 0 < length s
    → n ≡ hex_size s (room_of l) → q ≡ hex_room s (room_of l) → Adds l (reply_text s) (record { bytes = left_by l q; count = l.count + n })
adds-reply l s q n size h some en eq =
    let t = hex_bytes s in
    let room = room_of l in
    let all : length t ≡ 2 * length s = length-hex_bytes s in
    let written : q ≡ t ++ drop (2 * length s) room =
    eq ∙ ap (λ (b : Bool). cond b (t ++ drop (2 * length s) room) room) (hex_fits_lem l s size h) in
    subst (λ (x : List ℕ). Adds l x (record { bytes = left_by l q; count = l.count + n })) (sym (some-reply s some))
    (adds_part l t q n size (omega (arith, all)) (hex_count l s n size h en ∙ sym all)
    (written ∙ ap₂ ◌++◌ (sym (take-length t)) (ap (λ (k : ℕ). drop k room) (sym all))))

-- ---- a decimal

-- where `most` digits hold n, the fewest are no more
not-over : (b n k most : ℕ) → 0 < b → 1 ≤ most → n < b ^ most → IsDigitCount b 1 n k → most < k → ⊥
not-over b n k most h some holds w over =
    let p : b ^ (k - 1) ≤ n = w.2 (omega arith) in
    let q : b ^ most ≤ b ^ (k - 1) = pow-le-pow_right h (omega arith) in
    omega arith

-- twenty digits hold a u64
pub twenty_digits : (n k : ℕ) → n < 10 ^ 20 → IsDigitCount 10 1 n k → k ≤ 20
twenty_digits n k h w = le_of_suc-le-suc (lt_of_not-le (not-over 10 n k 20 (omega arith) (omega arith) h w))

pub adds-decimal : {l r : Line} (n k : ℕ) (out : List ℕ) → n < 10 ^ 20 → k ≡ length (take k out) → IsDigitCount 10 1 n k
    → take k out ≡ last_digits 10 k n → Adds l (take k out) r → AddsDecimal l n r
adds-decimal n k out h c w e f =
    record {
      text = take k out;
      is-decimal = is-decimal n k out c w e;
      short = omega (arith, twenty_digits n k h w);
      adds = f;
    }
