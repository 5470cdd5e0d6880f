-- Folding, for every kind and every list of offsets: sweeping carries the register on (`swept-standing`), and so the last bytes swept,
-- unswept, have the register of the whole message (`folded`). Assumes nothing.
use mathlib.Core.Path.{◌≡◌, refl, sym, ap, ap₂, subst, ◌∙◌}
use mathlib.Core.Bool.{cond}
use mathlib.Core.List.{List, [], ◌∷◌, ◌++◌, append_assoc}
use Prim.Native.Nat.{ℕ, zero, suc, ◌+◌, ◌-◌, ◌≤◌, ◌<◌}
use native.Mathlib.Nat.{add-zero}
use native.Mathlib.Numerals.{add-one}
use native.Mathlib.Omega.{arith}
use lib.Bits.{bit_xor, xor_self, xor_zero_l, xor_zero_r, xor_lt}
use lib.ListN.{length, take, drop, get_or, set, replicate, length-append, length-drop, length-set, length-replicate}
use lib.ListN.{replicate-append-replicate}
use lib.Seq.{paste, length-paste, sets, sets-eq, take_at, drop_at, take-set-le, drop-set-add, drop-cons, take-take, take-add}
use lib.Seq.{take-append-le, length-take-le, get_or-drop, get_or-set_same, get_or-set_other}
use Rattle.std.specs.Int.Bits.{xor_assoc}
use Rattle.std.proofs.lemmas.List.{append-nil, take-replicate}
use Rattle.crc.specs.Crc.{Kind, byte_step, update}
use Rattle.crc.specs.Tables.{zero_bytes}
use Rattle.crc.specs.Folding.{sum_over, Within, Multiple, gathered, swept, unswept, standing, Stands, Carries, met, unmet}
use Rattle.crc.specs.Folding.{sweepable, movable}
use Rattle.crc.proofs.Bounds.{sweeps, moves}
use Rattle.crc.proofs.Xor.{xor_medial}
use Rattle.crc.proofs.Linear.{byte-none, byte-sum, update_from}
use Rattle.crc.proofs.Meeting.{length-met, update-met}
use Rattle.crc.proofs.Updates.{update-none, update-append, update-next, update-rest}

-- each of them is a byte
abbrev pub BytesAt : List ℕ → Type 0
BytesAt b = (i : ℕ) → get_or b i 0 < 256

-- ---- sums over the offsets

later : (l m a : ℕ) (os : List ℕ) → Within l m (a ∷ os) → Within l m os
later l m a os w = λ n h. w (suc n) (omega arith)

pub within_wider : (l m least most : ℕ) (offs : List ℕ) → least ≤ l → m ≤ most → Within l m offs → Within least most offs
within_wider l m least most offs h g w = λ n there. let bounds = w n there in (omega (arith, bounds), omega (arith, bounds))

sum_same : (l m : ℕ) (offs : List ℕ) → Within l m offs → (f g : ℕ → ℕ) → ((a : ℕ) → l ≤ a → a ≤ m → f a ≡ g a)
    → sum_over offs f ≡ sum_over offs g
sum_same l m [] w f g e = refl
sum_same l m (a ∷ os) w f g e =
    let first : (l ≤ a) × (a ≤ m) = w 0 (omega arith) in
    ap₂ bit_xor (e a first.0 first.1) (sum_same l m os (later l m a os w) f g e)

sum-xor : (offs : List ℕ) (f g : ℕ → ℕ) → sum_over offs (λ (a : ℕ). bit_xor (f a) (g a)) ≡ bit_xor (sum_over offs f) (sum_over offs g)
sum-xor [] f g = refl
sum-xor (a ∷ os) f g = ap (bit_xor (bit_xor (f a) (g a))) (sum-xor os f g) ∙ xor_medial (f a) (g a) (sum_over os f) (sum_over os g)

sum-none : (offs : List ℕ) → sum_over offs (λ (a : ℕ). 0) ≡ 0
sum-none [] = refl
sum-none (a ∷ os) = sum-none os

sum-byte : (offs : List ℕ) (f : ℕ → ℕ) → ((a : ℕ) → f a < 256) → sum_over offs f < 256
sum-byte [] f small = omega arith
sum-byte (a ∷ os) f small = xor_lt 8 (f a) (sum_over os f) (small a) (sum-byte os f small)

-- ---- zeros

zeros_register : (k : Kind) (n : ℕ) → update k 0 (replicate n 0) ≡ 0
unfolding update
zeros_register k zero = refl
zeros_register k (suc n) = ap (λ (r : ℕ). update k r (replicate n 0)) (byte-none k) ∙ zeros_register k n

module _ (k : Kind) (d : ℕ) (offs : List ℕ) (w : Within 1 d offs) where
  -- ---- what swept bytes stand for

  sum-next : (os b : List ℕ) → Within 1 d os → (p : ℕ) → d ≤ p → p ≤ length b
      → byte_step k (sum_over os (λ (a : ℕ). update k 0 (take (p - a) b))) (gathered os b p) ≡ sum_over os
      (λ (a : ℕ). update k 0 (take (p + 1 - a) b))
  sum-next [] b v p h l = byte-none k
  sum-next (a ∷ os) b v p h l =
      let first : (1 ≤ a) × (a ≤ d) = v 0 (omega arith) in
      let there : p - a < length b = omega arith in
      let place : p - a + 1 ≡ p + 1 - a = omega arith in
      byte-sum k (update k 0 (take (p - a) b)) (sum_over os (λ (x : ℕ). update k 0 (take (p - x) b))) (get_or b (p - a) 0) (gathered os b p)
      ∙ ap₂ bit_xor (update-next k 0 b (p - a) there refl ∙ ap (λ (x : ℕ). update k 0 (take x b)) place)
      (sum-next os b (later 1 d a os v) p h l)

  -- one swept byte more: by linearity alone
  standing-next : (b : List ℕ) (p : ℕ) → d ≤ p → p < length b
      → byte_step k (standing k offs p b) (bit_xor (get_or b p 0) (gathered offs b p)) ≡ standing k offs (p + 1) b
  standing-next b p h l =
      byte-sum k (update k 0 (take p b)) (sum_over offs (λ (a : ℕ). update k 0 (take (p - a) b))) (get_or b p 0) (gathered offs b p)
      ∙ ap₂ bit_xor (update-next k 0 b p l refl) (sum-next offs b w p h (omega arith))

  -- only the first d bytes matter
  pub standing-same : (b c : List ℕ) → take d b ≡ take d c → standing k offs d b ≡ standing k offs d c
  standing-same b c e =
      let alike : (n : ℕ) → n ≤ d → take n b ≡ take n c = λ n h. sym (take-take n d b h) ∙ ap (take n) e ∙ take-take n d c h in
      ap₂ bit_xor (ap (update k 0) e)
      (sum_same 1 d offs w (λ (a : ℕ). update k 0 (take (d - a) b)) (λ (a : ℕ). update k 0 (take (d - a) c))
      (λ a one most. ap (update k 0) (alike (d - a) (omega arith))))

  -- n unswept bytes more
  unswept-standing : (b : List ℕ) (n p : ℕ) → d ≤ p → p + n ≤ length b
      → update k (standing k offs p b) (unswept offs p n b) ≡ standing k offs (p + n) b
  unfolding update unswept
  unswept-standing b zero p h l = ap (λ (x : ℕ). standing k offs x b) (sym (add-zero p))
  unswept-standing b (suc n) p h l =
      let place : p + 1 + n ≡ p + suc n = omega arith in
      ap (λ (r : ℕ). update k r (unswept offs (p + 1) n b)) (standing-next b p h (omega arith))
      ∙ unswept-standing b n (p + 1) (omega arith) (omega arith)
      ∙ ap (λ (x : ℕ). standing k offs x b) place

  -- ---- the first of d + 1 bytes is not needed any more: the multiple adds it to those after it

  first-gone : Multiple k d offs → (c : ℕ) (b : List ℕ) → c < 256 → d ≤ length b → standing k offs (suc d) (c ∷ b) ≡ standing k offs d b
  unfolding Multiple update
  first-gone multiple c b small l =
      let y = byte_step k 0 c in
      let after : (n : ℕ) → n ≤ d → update k y (take n b) ≡ bit_xor (zero_bytes k n y) (update k 0 (take n b)) =
      λ n h. update_from k y (take n b)
      ∙ ap (λ (m : ℕ). bit_xor (zero_bytes k m y) (update k 0 (take n b))) (length-take-le n b (omega arith)) in
      let zeros : ℕ → ℕ = λ a. zero_bytes k (d - a) y in
      let others : ℕ → ℕ = λ a. update k 0 (take (d - a) b) in
      let each = sum_same 1 d offs w (λ (a : ℕ). update k 0 (take (suc d - a) (c ∷ b))) (λ (a : ℕ). bit_xor (zeros a) (others a))
      (λ a one most.
      let place : suc d - a ≡ suc (d - a) = omega arith in
      ap (λ (x : ℕ). update k 0 (take x (c ∷ b))) place ∙ after (d - a) (omega arith)) in
      ap₂ bit_xor (after d (omega arith)) (each ∙ sum-xor offs zeros others)
      ∙ xor_medial (zero_bytes k d y) (update k 0 (take d b)) (sum_over offs zeros) (sum_over offs others)
      ∙ ap (λ (x : ℕ). bit_xor (bit_xor x (sum_over offs zeros)) (standing k offs d b)) (multiple c small)
      ∙ ap (λ (x : ℕ). bit_xor x (standing k offs d b)) (xor_self (sum_over offs zeros))
      ∙ xor_zero_l (standing k offs d b)

  -- one byte on: the d bytes from i + 1 on stand for the register of those from i on, after the byte that was swept in behind these
  slide : Multiple k d offs → (b : List ℕ) → BytesAt b → (i : ℕ) → i + d < length b
      → byte_step k (standing k offs d (drop i b)) (bit_xor (get_or b (i + d) 0) (gathered offs b (i + d)))
      ≡ standing k offs d (drop (i + 1) b)
  slide multiple b small i l =
      let c = drop i b in
      let long : d < length c = rw length-drop (omega arith) in
      let more : d ≤ length (drop (suc i) b) = rw length-drop (omega arith) in
      let same = sum_same 1 d offs w (λ (a : ℕ). get_or b (i + d - a) 0) (λ (a : ℕ). get_or c (d - a) 0)
      (λ a one most.
      let place : i + d - a ≡ i + (d - a) = omega arith in
      ap (λ (x : ℕ). get_or b x 0) place ∙ sym (get_or-drop i b (d - a) 0)) in
      ap₂ (λ (x y : ℕ). byte_step k (standing k offs d c) (bit_xor x y)) (sym (get_or-drop i b d 0)) same
      ∙ standing-next c d (omega arith) long
      ∙ ap₂ (standing k offs) (add-one d) (drop-cons b i 0 (omega arith))
      ∙ first-gone multiple (get_or b i 0) (drop (suc i) b) (small i) more
      ∙ ap (λ (x : ℕ). standing k offs d (drop x b)) (sym (add-one i))

  -- bytes stay bytes
  swept-byte : (b : List ℕ) → BytesAt b → (p x : ℕ) → x < 256 → BytesAt (set b p (bit_xor x (gathered offs b p)))
  swept-byte b small p x less =
      set-byte b small p (bit_xor x (gathered offs b p))
      (xor_lt 8 x (gathered offs b p) less (sum-byte offs (λ (a : ℕ). get_or b (p - a) 0) (λ a. small (p - a))))
    where
      set-byte : (c : List ℕ) → BytesAt c → (q v : ℕ) → v < 256 → BytesAt (set c q v)
      set-byte [] s q v h i = s i
      set-byte (y ∷ c) s zero v h zero = h
      set-byte (y ∷ c) s zero v h (suc i) = s (suc i)
      set-byte (y ∷ c) s (suc q) v h zero = s zero
      set-byte (y ∷ c) s (suc q) v h (suc i) = set-byte c (λ j. s (suc j)) q v h i

  -- one byte more
  swept-next : Multiple k d offs → (b : List ℕ) → BytesAt b → (i x : ℕ) → x < 256 → i + d < length b
      → standing k offs d (drop (i + 1) (set b (i + d) (bit_xor x (gathered offs b (i + d))))) ≡ byte_step k (standing k offs d (drop i b)) x
  swept-next multiple b small i x less l =
      let p = i + d in
      let g = gathered offs b p in
      let c = set b p (bit_xor x g) in
      let kept = standing-same (drop i c) (drop i b)
      (ap (take d) (drop-set-add i b d (bit_xor x g)) ∙ take-set-le d (drop i b) d (bit_xor x g) (omega arith)) in
      let same : gathered offs c p ≡ g = sum_same 1 d offs w (λ (a : ℕ). get_or c (p - a) 0) (λ (a : ℕ). get_or b (p - a) 0)
      (λ a one most. get_or-set_other b p (p - a) (bit_xor x g) 0 (λ e. absurd (omega (arith, e)))) in
      let back : bit_xor (bit_xor x g) g ≡ x = xor_assoc x g g ∙ ap (bit_xor x) (xor_self g) ∙ xor_zero_r x in
      sym (slide multiple c (swept-byte b small p x less) i (rw length-set l))
      ∙ ap₂ (byte_step k) kept (ap₂ bit_xor (get_or-set_same b p (bit_xor x g) 0 l) same ∙ back)

  -- all of s: what the d bytes before place i + d stand for, and those at its end
  pub swept-standing : Multiple k d offs → (s b : List ℕ) → BytesAt s → BytesAt b → (i : ℕ) → i + d + length s ≤ length b
      → standing k offs d (drop (i + length s) (swept offs (i + d) s b)) ≡ update k (standing k offs d (drop i b)) s
  unfolding swept update
  swept-standing multiple [] b small bytes i l = ap (λ (x : ℕ). standing k offs d (drop x b)) (add-zero i)
  swept-standing multiple (x ∷ s) b small bytes i l =
      let c = set b (i + d) (bit_xor x (gathered offs b (i + d))) in
      let place : i + suc (length s) ≡ i + 1 + length s = omega arith in
      let next : i + d + 1 ≡ i + 1 + d = omega arith in
      ap₂ (λ (m n : ℕ). standing k offs d (drop m (swept offs n s c))) place next
      ∙ swept-standing multiple s c (λ j. small (suc j)) (swept-byte b bytes (i + d) x (small 0)) (i + 1) (rw length-set (omega arith))
      ∙ ap (λ (r : ℕ). update k r s) (swept-next multiple b bytes i x (small 0) (omega arith))

  -- ---- the first bytes and the last ones

  -- some bytes after zeros stand for themselves, where no offset reaches back from their end to one of them
  pub standing-first : (e : ℕ) (head b : List ℕ) → e + length head ≡ d → Within (length head) d offs → take d b ≡ replicate e 0 ++ head
      → standing k offs d b ≡ update k 0 head
  standing-first e head b size reach bytes =
      let none = sum_same (length head) d offs reach (λ (a : ℕ). update k 0 (take (d - a) b)) (λ (a : ℕ). 0)
      (λ a least most.
      let within : d - a ≤ e = omega arith in
      let reached : take (d - a) b ≡ replicate (d - a) 0 =
      sym (take-take (d - a) d b (omega arith))
      ∙ ap (take (d - a)) bytes
      ∙ take-append-le (d - a) (replicate e 0) head (rw length-replicate within)
      ∙ take-replicate {X = ℕ} (d - a) e 0 within in
      ap (update k 0) reached ∙ zeros_register k (d - a)) in
      ap₂ bit_xor (ap (update k 0) bytes ∙ update-append k 0 (replicate e 0) head ∙ ap (λ (r : ℕ). update k r head) (zeros_register k e))
      (none ∙ sum-none offs)
      ∙ xor_zero_r (update k 0 head)

  -- d bytes behind d zeros, unswept, have the register that they stand for
  pub standing-last : (b : List ℕ) → take d b ≡ replicate d 0 → d + d ≤ length b
      → update k 0 (unswept offs d d b) ≡ standing k offs d (drop d b)
  standing-last b zeros l =
      let start : standing k offs d b ≡ 0 = standing-first d [] b (add-zero d) (λ n h. (omega arith, (w n h).1))
      (zeros ∙ sym (append-nil (replicate d 0))) ∙ update-none k 0 in
      let after : (n : ℕ) → update k 0 (take (d + n) b) ≡ update k 0 (take n (drop d b)) =
      λ n. ap (update k 0) (take-add d n b) ∙ update-append k 0 (take d b) (take n (drop d b))
      ∙ ap (λ (r : ℕ). update k r (take n (drop d b))) (ap (update k 0) zeros ∙ zeros_register k d) in
      let each = sum_same 1 d offs w (λ (a : ℕ). update k 0 (take (d + d - a) b)) (λ (a : ℕ). update k 0 (take (d - a) (drop d b)))
      (λ a one most.
      let place : d + d - a ≡ d + (d - a) = omega arith in
      ap (λ (x : ℕ). update k 0 (take x b)) place ∙ after (d - a)) in
      ap (λ (r : ℕ). update k r (unswept offs d d b)) (sym start) ∙ unswept-standing b d d (omega arith) l ∙ ap₂ bit_xor (after d) each

  -- ---- the buffer that a loop sweeps part after part into

  -- it begins with some bytes after zeros
  pub stands-first : (room e : ℕ) (head : List ℕ) → e + length head ≡ d → Within (length head) d offs → d + d ≤ room
      → Stands k d offs (update k 0 head) (sets (replicate room 0) (d + e) head)
  unfolding Stands
  stands-first room e head size reach fits =
      let zeros = replicate {A = ℕ} room 0 in
      let long : length zeros ≡ room = length-replicate {A = ℕ} room 0 in
      let after = drop (d + e + length head) zeros in
      let before : take (d + e) zeros ≡ replicate d 0 ++ replicate e 0 = take-replicate {X = ℕ} (d + e) room 0 (omega arith)
      ∙ sym (replicate-append-replicate d e 0) in
      let whole : sets zeros (d + e) head ≡ replicate d 0 ++ ((replicate e 0 ++ head) ++ after) =
      sets-eq head zeros (d + e) (omega arith)
      ∙ ap (λ (l : List ℕ). l ++ head ++ after) before
      ∙ ap (λ (l : List ℕ). l ++ after) (append_assoc (replicate d 0) (replicate e 0) head)
      ∙ append_assoc (replicate d 0) (replicate e 0 ++ head) after in
      let some : length (replicate e 0 ++ head) ≡ d = length-append (replicate e 0) head
      ∙ ap (λ (n : ℕ). n + length head) (length-replicate {A = ℕ} e 0) ∙ size in
      let window : take d (drop d (sets zeros (d + e) head)) ≡ replicate e 0 ++ head =
      ap (λ (l : List ℕ). take d (drop d l)) whole
      ∙ ap (take d) (drop_at (replicate d 0) ((replicate e 0 ++ head) ++ after) d (length-replicate {A = ℕ} d 0))
      ∙ take_at (replicate e 0 ++ head) after d some in (
        standing-first e head (drop d (sets zeros (d + e) head)) size reach window,
        ap (take d) whole ∙ take_at (replicate d 0) ((replicate e 0 ++ head) ++ after) d (length-replicate {A = ℕ} d 0),
      )

  pub length-swept : (s b : List ℕ) (p : ℕ) → length (swept offs p s b) ≡ length b
  unfolding swept
  length-swept [] b p = refl
  length-swept (x ∷ s) b p =
      let v = bit_xor x (gathered offs b p) in
      length-swept s (set b p v) (p + 1) ∙ length-set b p v

  take-swept : (s b : List ℕ) (n p : ℕ) → n ≤ p → take n (swept offs p s b) ≡ take n b
  unfolding swept
  take-swept [] b n p h = refl
  take-swept (x ∷ s) b n p h =
      let v = bit_xor x (gathered offs b p) in
      take-swept s (set b p v) n (p + 1) (omega arith) ∙ take-set-le n b p v h

  -- a part is swept in after the d bytes, and the last d bytes are moved down
  pub stands_part : Multiple k d offs → (r : ℕ) (part b : List ℕ) → BytesAt part → BytesAt b → d + d + length part ≤ length b
      → Stands k d offs r b
      → let c = swept offs (d + d) part b in Stands k d offs (update k r part) (paste c d (drop (d + length part) c) d)
  unfolding Stands
  stands_part multiple r part b small bytes fits at =
      let c = swept offs (d + d) part b in
      let last = drop (d + length part) c in
      let moved = paste c d last d in
      let long : length c ≡ length b = length-swept part b (d + d) in
      let kept : length (take d c) ≡ d = length-take-le d c (omega arith) in
      let enough : d ≤ length last = rw length-drop (omega arith) in
      let parts : moved ≡ take d c ++ (take d last ++ drop (d + d) c) = append_assoc (take d c) (take d last) (drop (d + d) c) in
      let window : take d (drop d moved) ≡ take d last =
      ap (λ (l : List ℕ). take d (drop d l)) parts
      ∙ ap (take d) (drop_at (take d c) (take d last ++ drop (d + d) c) d kept)
      ∙ take_at (take d last) (drop (d + d) c) d (length-take-le d last enough) in (
        standing-same (drop d moved) last window ∙ swept-standing multiple part b small bytes d fits
            ∙ ap (λ (x : ℕ). update k x part) at.0,
        ap (take d) parts ∙ take_at (take d c) (take d last ++ drop (d + d) c) d kept ∙ take-swept part b d (d + d) (omega arith) ∙ at.1,
      )

  -- so it goes on over a part
  pub carries_part : Multiple k d offs → (part b c e : List ℕ) (n : ℕ) → length part ≡ n → BytesAt part → BytesAt b → d + d + n ≤ length b
      → c ≡ cond (sweepable offs (d + d) (length part) (length b)) (swept offs (d + d) part b) b
      → e ≡ cond (movable (d + n) d d (length c)) (paste c d (drop (d + n) c) d) c
      → (length e ≡ length b) × Carries k d offs part b e
  carries_part multiple part b c e n size small bytes fits swept-in moved_down =
      let near = within_wider 1 d 1 (d + d) offs (omega arith) (omega arith) w in
      let Swept-all = sweeps offs part b c (d + d) near (omega arith) swept-in in
      let same : length c ≡ length b = ap length Swept-all ∙ length-swept part b (d + d) in
      let moved_all = moves c e (d + n) d d (omega arith) (omega arith) moved_down in
      let enough : d ≤ length (drop (d + n) c) = rw length-drop (omega arith) in
      let there : paste (swept offs (d + d) part b) d (drop (d + length part) (swept offs (d + d) part b)) d ≡ e =
      ap₂ (λ (l : List ℕ) (m : ℕ). paste l d (drop (d + m) l) d) (sym Swept-all) size ∙ sym moved_all in (
        ap length moved_all ∙ length-paste c d (drop (d + n) c) d (omega arith) enough ∙ same,
        λ r at. subst (Stands k d offs (update k r part)) there (stands_part multiple r part b small bytes (omega arith) at),
      )

  -- the bytes that count, unswept, have the register
  pub stands-last : (r : ℕ) (b : List ℕ) → d + d ≤ length b → Stands k d offs r b → update k 0 (unswept offs d d b) ≡ r
  unfolding Stands
  stands-last r b fits at = standing-last b at.1 fits ∙ at.0

  -- the whole of it: the register meets the first bytes of s and is carried on over the others; the last bytes, unswept, have it
  pub folded : 8 ≤ k.width → (room e n r : ℕ) (s b c u : List ℕ) → e + n ≡ d → Within n d offs → d + d ≤ room → n ≤ length s
      → unmet k n r ≡ 0
      → b ≡ sets (replicate room 0) (d + e) (met k r (take n s)) → Carries k d offs (take (length s - n) (drop n s)) b c
      → length c ≡ room
      → u ≡ unswept offs d d c → update k 0 u ≡ update k r s
  folded wide room e n r s b c u size reach fits some none first others long last =
      let head = met k r (take n s) in
      let taken : length (take n s) ≡ n = length-take-le n s some in
      let short : length head ≡ n = length-met k r (take n s) ∙ taken in
      let met : update k 0 head ≡ update k r (take n s) = sym
      (update-met k wide r (take n s) (ap (λ (m : ℕ). unmet k m r) taken ∙ none)) in
      let start : Stands k d offs (update k 0 head) b =
      subst (Stands k d offs (update k 0 head)) (sym first)
      (stands-first room e head (ap (λ (m : ℕ). e + m) short ∙ size) (subst (λ (m : ℕ). Within m d offs) (sym short) reach) fits) in
      ap (update k 0) last
      ∙ stands-last (update k (update k 0 head) (take (length s - n) (drop n s))) c (omega arith) (others (update k 0 head) start)
      ∙ update-rest k r s n some met
