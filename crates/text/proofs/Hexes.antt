-- Bytes in hexadecimal, byte by byte. Assumes nothing.
use borrow.Author.Tests.{le-leb}
use mathlib.Core.Path.{◌≡◌, refl, sym, ap, ap₂, ◌∙◌}
use mathlib.Core.List.{List, [], ◌∷◌, ◌++◌, append_assoc}
use Prim.Native.Nat.{ℕ, suc, ◌+◌, ◌*◌, ◌≤◌, ◌<◌}
use native.Mathlib.Numerals.{add-one}
use native.Mathlib.Omega.{arith}
use lib.ListN.{length, take, drop, set, get_or, length-append, length-drop}
use lib.Seq.{take-suc, take_all, take_at, length-take-le, drop-drop}
use Rattle.text.specs.Hex.{hex_byte, hex_bytes, hex_size, hex_room}

pub hex_bytes-append : (s t : List ℕ) → hex_bytes (s ++ t) ≡ hex_bytes s ++ hex_bytes t
hex_bytes-append [] t = refl
hex_bytes-append (b ∷ s) t = ap (λ (x : List ℕ). hex_byte b ++ x) (hex_bytes-append s t)

pub length-hex_bytes : (s : List ℕ) → length (hex_bytes s) ≡ 2 * length s
length-hex_bytes [] = refl
length-hex_bytes (b ∷ s) = omega (arith, length-hex_bytes s)

-- where they have room they stand at its front
pub hex_in_front : (s room : List ℕ) → 2 * length s ≤ length room → take (hex_size s room) (hex_room s room) ≡ hex_bytes s
hex_in_front s room fits = simp (le-leb _ _ fits) (take_at (hex_bytes s) (drop (2 * length s) room) (2 * length s) (length-hex_bytes s))

-- ---- into a room, of which the first i bytes' digits are written

-- two bytes behind others
put_two : (p r : List ℕ) (x y : ℕ) → 2 ≤ length r → set (set (p ++ r) (length p) x) (suc (length p)) y ≡ p ++ (x ∷ y ∷ drop 2 r)
put_two [] [] x y h = absurd (omega arith)
put_two [] (a ∷ []) x y h = absurd (omega arith)
put_two [] (a ∷ b ∷ r) x y h = refl
put_two (a ∷ p) r x y h = ap (λ (l : List ℕ). a ∷ l) (put_two p r x y h)

module _ (s room : List ℕ) where
  abbrev pub written : ℕ → List ℕ
  written i = hex_bytes (take i s) ++ drop (2 * i) room

  size : (i : ℕ) → i ≤ length s → length (hex_bytes (take i s)) ≡ 2 * i
  size i h = omega (arith, length-hex_bytes (take i s), length-take-le i s h)

  pub length-written : (i : ℕ) → i ≤ length s → 2 * length s ≤ length room → length (written i) ≡ length room
  length-written i h fits = omega (arith, length-append (hex_bytes (take i s)) (drop (2 * i) room), size i h, length-drop (2 * i) room)

  pub written_next : (i : ℕ) → i < length s → 2 * length s ≤ length room
      → set (set (written i) (2 * i) (get_or (hex_byte (get_or s i 0)) 0 0)) (2 * i + 1) (get_or (hex_byte (get_or s i 0)) 1 0) ≡ written (i + 1)
  written_next i h fits =
      let p = hex_bytes (take i s) in
      let r = drop (2 * i) room in
      let b = get_or s i 0 in
      let x = get_or (hex_byte b) 0 0 in
      let y = get_or (hex_byte b) 1 0 in
      let at : 2 * i ≡ length p = sym (size i (omega arith)) in
      let next : 2 * i + 1 ≡ suc (length p) = omega (arith, at) in
      let more : hex_bytes (take (i + 1) s) ≡ p ++ hex_byte b =
      ap hex_bytes (ap (λ (n : ℕ). take n s) (add-one i) ∙ take-suc s i 0 h) ∙ hex_bytes-append (take i s) (b ∷ []) in
      let rest : drop 2 r ≡ drop (2 * (i + 1)) room = drop-drop 2 (2 * i) room
      ∙ ap (λ (n : ℕ). drop n room) (let e : 2 * i + 2 ≡ 2 * (i + 1) = omega arith in e) in
      ap₂ (λ (j k : ℕ). set (set (p ++ r) j x) k y) at next
      ∙ put_two p r x y (omega (arith, length-drop (2 * i) room))
      ∙ sym (append_assoc p (hex_byte b) (drop 2 r))
      ∙ ap₂ ◌++◌ (sym more) rest

  pub written_all : (i : ℕ) → i ≡ length s → written i ≡ hex_bytes s ++ drop (2 * length s) room
  written_all i e = ap written e ∙ ap (λ (l : List ℕ). hex_bytes l ++ drop (2 * length s) room) (take_all (length s) s (omega arith))
