-- Some bytes make an open front whole: zeros up to the sum, and the sum. Assumes nothing.
use Rattle.std.proofs.Common.{◌≡◌, ℕ, zero, suc, ◌+◌, ◌-◌, ◌≤◌, eqb, leb, List, [], ◌∷◌, ◌++◌, length, get_or, take, sym, refl, ap, ◌∙◌, subst, ap₂, ⊎_elim, append_assoc, mod-lt, zero-lt-suc, arith, length-append, take_at, get_or-append-add, eqb-true, leb-true}
use lib.ListN.{length-replicate, get_or-append, get_or-eq_default}
use lib.Seq.{get_or_at}
use Rattle.fronts.specs.declared.front.Front.TheVariants.{Whole, Open}
use Rattle.sequences.specs.Bytes.{Bytes}
use Rattle.fronts.specs.Frame.{head1, head2, max_data, header_size, frame_size, total, sum_byte, length_at}
use Rattle.sequences.specs.Numbers.{number16}
use Rattle.fronts.specs.Fronts.{front_of}
use Rattle.sequences.specs.Padding.{zeros}
use Rattle.sequences.proofs.Orders.{lt_or_le}
use Rattle.sequences.proofs.Bytes.{bytes-append}
use Rattle.sequences.proofs.Padding.{bytes-zeros}
use Rattle.fronts.proofs.Fronts.{test_is_open, whole_open, sum_right, from_sum, from_length, from_high, from_head2, whole_sum}

get_or-zeros : (k i : ℕ) → get_or (zeros k) i 0 ≡ 0
get_or-zeros zero i = refl
get_or-zeros (suc k) zero = refl
get_or-zeros (suc k) (suc i) = get_or-zeros k i

-- zeros behind a list do not show
get_or-padded : (s : List ℕ) (k i : ℕ) → get_or (s ++ zeros k) i 0 ≡ get_or s i 0
get_or-padded s k i =
    ⊎_elim
    (λ h. get_or-append s (zeros k) 0 i h)
    (λ h.
    let e : i ≡ length s + (i - length s) = omega arith in
    ap (λ (j : ℕ). get_or (s ++ zeros k) j 0) e ∙ get_or-append-add s (zeros k) (i - length s) 0 ∙ get_or-zeros k (i - length s)
    ∙ sym (get_or-eq_default s 0 {n = i} h))
    (lt_or_le i (length s))

pub record Completion (s : List ℕ) : Type 0 where
  pub tail : List ℕ
  pub bytes : Bytes tail
  pub whole : front_of (s ++ tail) ≡ Whole

-- a front that passes every test for which it has the bytes, and lacks the sum
summed : (s : List ℕ) → get_or s 0 0 ≡ head1 → get_or s 1 0 ≡ head2 → get_or s 4 0 ≤ 2 → length_at s ≤ max_data
    → length s ≤ header_size + length_at s → Completion s
summed s e f g l h =
    let n = header_size + length_at s in
    let k = n - length s in
    let p = s ++ zeros k in
    let x = sum_byte p in
    let w = p ++ (x ∷ []) in
    let size : length p ≡ n = omega (arith, length-append s (zeros k), length-replicate {A = ℕ} k 0) in
    let size-w : length w ≡ suc n = omega (arith, length-append p (x ∷ [])) in
    let b0 = get_or-append p (x ∷ []) 0 0 (omega arith) ∙ get_or-padded s k 0 in
    let b1 = get_or-append p (x ∷ []) 0 1 (omega arith) ∙ get_or-padded s k 1 in
    let b4 = get_or-append p (x ∷ []) 0 4 (omega arith) ∙ get_or-padded s k 4 in
    let b5 = get_or-append p (x ∷ []) 0 5 (omega arith) ∙ get_or-padded s k 5 in
    let m : length_at w ≡ length_at s = ap₂ number16 b4 b5 in
    let at : header_size + length_at w ≡ n = ap (λ (i : ℕ). header_size + i) m in
    let last : get_or w (header_size + length_at w) 0 ≡ x = ap (λ (i : ℕ). get_or w i 0) at ∙ get_or_at p x [] 0 n size in
    let front : take (header_size + length_at w) w ≡ p = ap (λ (i : ℕ). take i w) at ∙ take_at p (x ∷ []) n size in
    let done = whole_sum w (b0 ∙ e) (b1 ∙ f) (omega arith) (omega arith) (omega arith) (omega arith) (last ∙ ap sum_byte (sym front)) in
    record {
      tail = zeros k ++ (x ∷ []);
      bytes = bytes-append (zeros k) (x ∷ []) (bytes-zeros k) (mod-lt (total p) (zero-lt-suc 255), tt);
      whole = sym (ap front_of (append_assoc s (zeros k) (x ∷ []))) ∙ done;
    }

-- what completes s and more bytes completes s
before : (s t : List ℕ) → Bytes t → Completion (s ++ t) → Completion s
before s t p c =
    record {
      tail = t ++ c.tail;
      bytes = bytes-append t c.tail p c.bytes;
      whole = sym (ap front_of (append_assoc s t c.tail)) ∙ c.whole;
    }

-- a front of both head bytes: the bytes that are not there yet count as zeros
past_head1 : (s : List ℕ) → 2 ≤ length s → get_or s 0 0 ≡ head1 → from_head2 s ≡ Open → Completion s
past_head1 s h e o =
    ⊎_elim (λ k. absurd {A = Completion s} (omega arith))
    (λ t2. let f = eqb-true (get_or s 1 0) head2 t2.0 in
    ⊎_elim (λ k. let z4 = get_or-eq_default s 0 {n = 4} (omega arith) in let z5 = get_or-eq_default s 0 {n = 5} (omega arith) in
    summed s e f (omega arith) (omega arith) (omega arith))
    (λ t5. let g = leb-true (get_or s 4 0) 2 t5.0 in
    ⊎_elim (λ k. let z5 = get_or-eq_default s 0 {n = 5} (omega arith) in summed s e f g (omega arith) (omega arith))
    (λ t6. let l = leb-true (length_at s) max_data t6.0 in
    ⊎_elim (λ k. summed s e f g l (omega arith)) (λ t7. absurd {A = Completion s} (whole_open t7.1))
    (test_is_open (frame_size (length_at s)) (length s) (sum_right s) Whole t6.1))
    (test_is_open 6 (length s) (leb (length_at s) max_data) (from_sum s) t5.1))
    (test_is_open 5 (length s) (leb (get_or s 4 0) 2) (from_length s) t2.1))
    (test_is_open 2 (length s) (eqb (get_or s 1 0) head2) (from_high s) o)

heads : Completion (head1 ∷ head2 ∷ [])
heads = summed (head1 ∷ head2 ∷ []) refl refl (omega arith) (omega arith) (omega arith)

pub open_completion : (s : List ℕ) → front_of s ≡ Open → Completion s
unfolding front_of
open_completion [] e = before [] (head1 ∷ head2 ∷ []) (omega arith, (omega arith, tt)) heads
open_completion (a ∷ []) e =
    ⊎_elim (λ k. absurd {A = Completion (a ∷ [])} (omega arith))
    (λ t1.
    subst (λ (i : ℕ). Completion (i ∷ [])) (sym (eqb-true a head1 t1.0))
    (before (head1 ∷ []) (head2 ∷ []) (omega arith, tt) heads))
    (test_is_open 1 1 (eqb a head1) (from_head2 (a ∷ [])) e)
open_completion (a ∷ b ∷ s) e =
    ⊎_elim (λ k. absurd {A = Completion (a ∷ b ∷ s)} (omega arith))
    (λ t1. past_head1 (a ∷ b ∷ s) (omega arith) (eqb-true a head1 t1.0) t1.1)
    (test_is_open 1 (length (a ∷ b ∷ s)) (eqb a head1) (from_head2 (a ∷ b ∷ s)) e)
