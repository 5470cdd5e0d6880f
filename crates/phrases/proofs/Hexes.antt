-- Pairs of hexadecimal digits, one after the other. Assumes nothing.
use borrow.Author.Tests.{ltb-true}
use mathlib.Core.Path.{◌≡◌, refl, sym, ap, ◌∙◌}
use mathlib.Core.Bool.{Bool, true, false, not, ◌&&◌, and-eq-true_iff}
use mathlib.Core.List.{List, [], ◌∷◌, ◌++◌}
use Prim.Native.Nat.{ℕ, suc, ◌+◌, ◌<◌, ◌≤◌}
use native.Mathlib.Numerals.{add-one}
use native.Mathlib.Omega.{arith}
use lib.ListN.{length, take, drop, set, get_or, length-append, length-drop}
use lib.Seq.{take-suc, take-length, length-take-le, drop-cons, drop-drop, append_snoc, set_at}
use Rattle.sequences.specs.Places.{written_at}
use Rattle.sequences.proofs.Places.{written-front}
use Rattle.std.specs.Prelude.{Some, None, cond}
use Rattle.phrases.specs.Spaces.{front_count, is_space, spaces}
use Rattle.phrases.specs.Pairs.{hex_of, is_hex, is_pair, byte_of, are_pairs, bytes_in, pairs_in}
use Rattle.phrases.proofs.Fronts.{count-short}

-- ---- what is counted

pub is_so : (x : Bool) → not x ≡ false → x ≡ true
is_so true e = refl
is_so false e = let z : ◌≡◌ {A = ℕ} 0 1 = cc in absurd (omega arith)

pub is-not : (x : Bool) → not x ≡ true → x ≡ false
is-not true e = let z : ◌≡◌ {A = ℕ} 0 1 = cc in absurd (omega arith)
is-not false e = refl

-- none, or so many
pub wrong_pairs : (s : List ℕ) → pairs_in s ≡ None → are_pairs s ≡ false
wrong_pairs s = go (are_pairs s)
  where
    go : (x : Bool) → cond x (Some (length (bytes_in s))) None ≡ None → x ≡ false
    go true e = cc
    go false e = refl

pub right-pairs : (s : List ℕ) {n : ℕ} → pairs_in s ≡ Some n → (are_pairs s ≡ true) × (n ≡ length (bytes_in s))
right-pairs s {n} = go (are_pairs s)
  where
    go : (x : Bool) → cond x (Some (length (bytes_in s))) None ≡ Some n → (x ≡ true) × (n ≡ length (bytes_in s))
    go true e = (refl, cc)
    go false e = cc

-- ---- at the front

pub short : (t : List ℕ) → length t < 2 → is_pair t ≡ false
short [] h = refl
short (a ∷ []) h = refl
short (a ∷ b ∷ t) h = absurd (omega arith)

pub two : (t : List ℕ) → 2 ≤ length t → is_pair t ≡ (is_hex (get_or t 0 0) && is_hex (get_or t 1 0))
two [] h = absurd (omega arith)
two (a ∷ []) h = absurd (omega arith)
two (a ∷ b ∷ t) h = refl

-- what a pair is
pub record TwoDigits (t : List ℕ) : Type 0 where
  pub long : 2 ≤ length t
  pub high : hex_of (get_or t 0 0) < 16
  pub low : hex_of (get_or t 1 0) < 16

pub two_digits : (t : List ℕ) → is_pair t ≡ true → TwoDigits t
two_digits [] e = let z : ◌≡◌ {A = ℕ} 0 1 = cc in absurd (omega arith)
two_digits (a ∷ []) e = let z : ◌≡◌ {A = ℕ} 0 1 = cc in absurd (omega arith)
two_digits (a ∷ b ∷ t) e =
    let p = (and-eq-true_iff (is_hex a) (is_hex b)).0 e in
    record { long = omega arith; high = ltb-true _ _ p.0; low = ltb-true _ _ p.1 }

-- ---- spaces passed over

-- what the bytes are does not change with the spaces before them, and behind these stands no further one
pub record SpacesPassed (s : List ℕ) : Type 0 where
  pub right : are_pairs s ≡ are_pairs (drop (spaces s) s)
  pub bytes : bytes_in s ≡ bytes_in (drop (spaces s) s)
  pub none : spaces (drop (spaces s) s) ≡ 0

pub spaces-passed : (s : List ℕ) → SpacesPassed s
unfolding front_count are_pairs bytes_in
spaces-passed [] = record { right = refl; bytes = refl; none = refl }
spaces-passed (a ∷ []) = go (is_space a) refl
  where
    go : (x : Bool) → is_space a ≡ x → SpacesPassed (a ∷ [])
    go true e = record { right = simp e; bytes = simp e; none = simp e }
    go false e = record { right = simp e; bytes = simp e; none = simp e }
spaces-passed (a ∷ b ∷ s) = go (is_space a) refl (spaces-passed (b ∷ s))
  where
    go : (x : Bool) → is_space a ≡ x → SpacesPassed (b ∷ s) → SpacesPassed (a ∷ b ∷ s)
    go true e p = record { right = simp e p.right; bytes = simp e p.bytes; none = simp e p.none }
    go false e p = record { right = simp e; bytes = simp e; none = simp e }

-- ---- a pair passed over, from a place where no space stands

no-space : (a : ℕ) (t : List ℕ) → spaces (a ∷ t) ≡ 0 → is_space a ≡ false
unfolding front_count
no-space a t h = go (is_space a) refl
  where
    go : (x : Bool) → is_space a ≡ x → is_space a ≡ false
    go true e = let z : suc (spaces t) ≡ 0 = simp e at h in absurd (omega arith)
    go false e = e

pub pair_right : (t : List ℕ) → spaces t ≡ 0 → is_pair t ≡ true → are_pairs t ≡ are_pairs (drop 2 t)
unfolding are_pairs
pair_right [] n e = refl
pair_right (a ∷ []) n e = let z : ◌≡◌ {A = ℕ} 0 1 = cc in absurd (omega arith)
pair_right (a ∷ b ∷ t) n e = simp (no-space a (b ∷ t) n, e)

pub pair_bytes : (t : List ℕ) → spaces t ≡ 0 → is_pair t ≡ true → bytes_in t ≡ byte_of (get_or t 0 0) (get_or t 1 0) ∷ bytes_in (drop 2 t)
unfolding bytes_in
pair_bytes [] n e = let z : ◌≡◌ {A = ℕ} 0 1 = cc in absurd (omega arith)
pair_bytes (a ∷ []) n e = let z : ◌≡◌ {A = ℕ} 0 1 = cc in absurd (omega arith)
pair_bytes (a ∷ b ∷ t) n e = simp (no-space a (b ∷ t) n)

pub no_pair : (t : List ℕ) → spaces t ≡ 0 → 0 < length t → is_pair t ≡ false → are_pairs t ≡ false
unfolding are_pairs
no_pair [] n h e = absurd (omega arith)
no_pair (a ∷ []) n h e = no-space a [] n
no_pair (a ∷ b ∷ t) n h e = simp (no-space a (b ∷ t) n, e)

pub a_pair : (t : List ℕ) → spaces t ≡ 0 → 0 < length t → are_pairs t ≡ true → is_pair t ≡ true
a_pair t n h r = go (is_pair t) refl
  where
    go : (x : Bool) → is_pair t ≡ x → is_pair t ≡ true
    go true e = e
    go false e =
        let f = no_pair t n h e in
        let z : ◌≡◌ {A = ℕ} 0 1 = cc in
        absurd (omega arith)

-- the place behind a pair and the spaces behind it
abbrev pub place_behind : List ℕ → ℕ → ℕ
place_behind s at = at + 2 + spaces (drop (at + 2) s)

pub record PairPassed (s : List ℕ) (at : ℕ) : Type 0 where
  pub right : are_pairs (drop at s) ≡ are_pairs (drop (place_behind s at) s)
  pub bytes : bytes_in (drop at s)
      ≡ byte_of (get_or (drop at s) 0 0) (get_or (drop at s) 1 0) ∷ bytes_in (drop (place_behind s at) s)
  pub none : spaces (drop (place_behind s at) s) ≡ 0
  pub within : place_behind s at ≤ length s

pub pair_passed : (s : List ℕ) (at : ℕ) → spaces (drop at s) ≡ 0 → is_pair (drop at s) ≡ true → PairPassed s at
pair_passed s at n e =
    let t = drop at s in
    let u = drop (at + 2) s in
    let p = spaces-passed u in
    let next : drop (spaces u) u ≡ drop (place_behind s at) s = drop-drop (spaces u) (at + 2) s in
    let two : drop 2 t ≡ u = drop-drop 2 at s in
    record {
      right = pair_right t n e ∙ ap are_pairs two ∙ p.right ∙ ap are_pairs next;
      bytes = pair_bytes t n e
          ∙ ap (λ (l : List ℕ). byte_of (get_or t 0 0) (get_or t 1 0) ∷ l) (ap bytes_in two ∙ p.bytes ∙ ap bytes_in next);
      none = ap spaces (sym next) ∙ p.none;
      within = omega (arith, (two_digits t e).long, length-drop at s, length-drop (at + 2) s, count-short is_space u);
    }

-- ---- the bytes taken one by one: those from the i-th on are to come

some_bytes : (t : List ℕ) → 0 < length (bytes_in t) → 0 < length t
unfolding bytes_in
some_bytes [] h = absurd (omega arith)
some_bytes (a ∷ t) h = omega arith

pub record ToCome (s : List ℕ) (at i : ℕ) : Type 0 where
  pub none : spaces (drop at s) ≡ 0
  pub right : are_pairs (drop at s) ≡ true
  pub rest : bytes_in (drop at s) ≡ drop i (bytes_in s)

pub all_to_come : (s : List ℕ) → are_pairs s ≡ true → ToCome s (spaces s) 0
all_to_come s e = let p = spaces-passed s in record { none = p.none; right = sym p.right ∙ e; rest = sym p.bytes }

module _ (s : List ℕ) (at i : ℕ) (t : ToCome s at i) (more : i < length (bytes_in s)) where
  pub pair_here : is_pair (drop at s) ≡ true
  pair_here =
      let some : 0 < length (bytes_in (drop at s)) = omega (arith, ap length t.rest, length-drop i (bytes_in s)) in
      a_pair (drop at s) t.none (some_bytes (drop at s) some) t.right

  passed : PairPassed s at
  passed = pair_passed s at t.none pair_here

  pub fits-here : place_behind s at ≤ length s
  fits-here = passed.within

  all_here : byte_of (get_or (drop at s) 0 0) (get_or (drop at s) 1 0) ∷ bytes_in (drop (place_behind s at) s)
      ≡ get_or (bytes_in s) i 0 ∷ drop (suc i) (bytes_in s)
  all_here = sym passed.bytes ∙ t.rest ∙ drop-cons (bytes_in s) i 0 more

  pub byte-here : byte_of (get_or (drop at s) 0 0) (get_or (drop at s) 1 0) ≡ get_or (bytes_in s) i 0
  byte-here = ap (λ (l : List ℕ). get_or l 0 0) all_here

  pub next_to_come : ToCome s (place_behind s at) (i + 1)
  next_to_come =
      record {
        none = passed.none;
        right = sym passed.right ∙ t.right;
        rest = ap (drop 1) all_here ∙ ap (λ (n : ℕ). drop n (bytes_in s)) (sym (add-one i));
      }

-- the first i of them written over d
abbrev pub written : List ℕ → List ℕ → ℕ → List ℕ
written d p i = take i p ++ drop i d

pub length-written : (d p : List ℕ) (i : ℕ) → i ≤ length p → length p ≤ length d → length (written d p i) ≡ length d
length-written d p i h fits = omega (arith, length-append (take i p) (drop i d), length-take-le i p h, length-drop i d)

pub written_next : (d p : List ℕ) (i : ℕ) → i < length p → length p ≤ length d → set (written d p i) i (get_or p i 0) ≡ written d p (i + 1)
written_next d p i h fits =
    let x = get_or p i 0 in
    let rest = drop (suc i) d in
    let front : take (suc i) p ≡ take i p ++ (x ∷ []) = take-suc p i 0 h in
    ap (λ (r : List ℕ). set (take i p ++ r) i x) (drop-cons d i 0 (omega arith))
    ∙ set_at (take i p) (get_or d i 0) rest x i (length-take-le i p (omega arith))
    ∙ sym (append_snoc (take i p) x rest)
    ∙ ap (λ (l : List ℕ). l ++ rest) (sym front)
    ∙ ap (written d p) (sym (add-one i))

pub written_all : (d p : List ℕ) (i : ℕ) → i ≡ length p → length p ≤ length d → written d p i ≡ written_at d 0 p
written_all d p i e fits =
    ap (written d p) e ∙ ap (λ (l : List ℕ). l ++ drop (length p) d) (take-length p) ∙ sym (written-front d p fits)
