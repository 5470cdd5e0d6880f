-- What holds of a packet that is taken and of one that is repeated. Assumes nothing.
use mathlib.Core.Path.{◌≡◌, refl, sym, ap, ap₂, ◌∙◌}
use mathlib.Core.List.{List}
use Prim.Native.Nat.{ℕ, ◌+◌, ◌-◌, ◌≤◌, ◌<◌}
use native.Mathlib.Omega.{arith}
use lib.ListN.{length}
use mathlib.Core.Logic.{⊎_elim}
use mathlib.Core.Bool.{Bool, true, false, not, ◌||◌, ◌&&◌, and-eq-true_iff}
use lib.Dec.{ltb, eqb}
use borrow.Author.Tests.{lt-ltb, le-ltb, ltb-true, ltb-false, eqb-true, eqb-false, eq-eqb, ne_eqb, not-true, not-false}
use Rattle.sequences.proofs.Orders.{lt_or_le}
use Rattle.requests.specs.declared.request.RequestFD.{RequestFD}
use Rattle.transfer.specs.declared.phase.Phase.{Phase}
use Rattle.transfer.specs.declared.phase.Phase.TheVariants.{Idle, Asked, Told, Receiving, Done}
use Rattle.transfer.specs.declared.state.Transfer.{Transfer}
use Rattle.transfer.specs.Phases.{receiving}
use Rattle.packets.specs.FD.{not_receiving_here, not_next, wrong_size, wrong_crc, repeats, state_fd, takes, Acceptable}
use Rattle.sequences.proofs.Conditionals.{no-refusal, neither}
use Rattle.image.proofs.Storing.{IsLast, is-last}
use Rattle.commands.specs.Limits.{max_next}

-- what is left of a length, compared without a sum
pub room-left : (m s n : ℕ) → s ≤ m → ltb (m - s) n ≡ ltb m (s + n)
room-left m s n h =
    ⊎_elim (λ k. lt-ltb (m - s) n (omega arith) ∙ sym (lt-ltb m (s + n) k))
    (λ k. le-ltb (m - s) n (omega arith) ∙ sym (le-ltb m (s + n) k)) (lt_or_le m (s + n))

-- the number one below the next, which is not 0
pub one_below : (number next : ℕ) → (next ≡ 0 → ⊥) → eqb number (next - 1) ≡ eqb (number + 1) next
one_below number next some = go (eqb (number + 1) next) refl
  where
    go : (b : Bool) → eqb (number + 1) next ≡ b → eqb number (next - 1) ≡ b
    go true e = let below = eqb-true (number + 1) next e in eq-eqb number (next - 1) (omega arith)
    go false e = let other = eqb-false (number + 1) next e in ne_eqb number (next - 1) (λ same. other (omega arith))

positive : (n : ℕ) {m : ℕ} → (n ≡ 0 → ⊥) → m ≡ n → 0 < m
positive n some e = omega (arith, e)

is-receiving : (p : Phase) → receiving p ≡ true → p ≡ Receiving
is-receiving Receiving e = refl
is-receiving Idle e = let z : ◌≡◌ {A = ℕ} 0 1 = cc in absurd (omega arith)
is-receiving Asked e = let z : ◌≡◌ {A = ℕ} 0 1 = cc in absurd (omega arith)
is-receiving Told e = let z : ◌≡◌ {A = ℕ} 0 1 = cc in absurd (omega arith)
is-receiving Done e = let z : ◌≡◌ {A = ℕ} 0 1 = cc in absurd (omega arith)

module _ (t : Transfer) (r : RequestFD) (p area : List ℕ) where
  -- what holds of a repeated packet
  pub record Repeated : Type 0 where
    pub number : r.number + 1 ≡ t.leg.next
    pub size : r.size ≡ t.progress.last
    pub last : IsLast t.progress p area

  pub repeated : repeats t r p area ≡ true → Repeated
  unfolding repeats
  repeated e =
      let e1 = (and-eq-true_iff (eqb (r.number + 1) t.leg.next) _).0 e in
      let e2 = (and-eq-true_iff (eqb r.size t.progress.last) _).0 e1.1 in
      record {
        number = eqb-true (r.number + 1) t.leg.next e1.0;
        size = eqb-true r.size t.progress.last e2.0;
        last = is-last t.progress p area e2.1;
      }

  -- what holds of a packet that is taken
  pub record Taken : Type 0 where
    pub here : not_receiving_here t r ≡ false
    pub within : t.leg.next < max_next
    pub number : r.number ≡ t.leg.next
    pub size : r.size ≡ length p
    pub some : length p ≡ 0 → ⊥
    pub agreed : length p ≤ t.leg.agreed
    pub fits : t.progress.stored + length p ≤ t.image.announced
    pub right-crc : wrong_crc r p ≡ false

  -- state 00 to a packet that is not repeated
  pub passed : state_fd t r p area ≡ 0 → repeats t r p area ≡ false → Taken
  unfolding state_fd
  passed z new =
      let e1 = no-refusal (not_receiving_here t r) 4 _ (omega arith) z in
      let e2 = no-refusal (not_next t r) 1 _ (omega arith) (simp new at e1).1 in
      let m = neither (not (ltb t.leg.next max_next)) _ e2.0 in
      let e3 = no-refusal (wrong_size t r (length p)) 2 _ (omega arith) e2.1 in
      let n1 = neither (not (eqb r.size (length p))) _ e3.0 in
      let n2 = neither (eqb r.size 0) _ n1.1 in
      let n3 = neither (ltb t.leg.agreed r.size) _ n2.1 in
      let size = eqb-true r.size (length p) (not-false (eqb r.size (length p)) n1.0) in
      let some = eqb-false r.size 0 n2.0 in
      let agreed = ltb-false t.leg.agreed r.size n3.0 in
      let fits = ltb-false t.image.announced (t.progress.stored + r.size) n3.1 in
      record {
        here = e1.0;
        within = ltb-true t.leg.next max_next (not-false _ m.0);
        number = eqb-true r.number t.leg.next (not-false _ m.1);
        size = size;
        some = λ none. some (size ∙ none);
        agreed = omega arith;
        fits = omega arith;
        right-crc = (no-refusal (wrong_crc r p) 3 0 (omega arith) e3.1).0;
      }

  pub taken-state : takes t r p area ≡ true → state_fd t r p area ≡ 0
  unfolding takes
  taken-state e = eqb-true (state_fd t r p area) 0 ((and-eq-true_iff (eqb (state_fd t r p area) 0) _).0 e).0

  pub taken : takes t r p area ≡ true → Taken
  unfolding takes
  taken e = passed (taken-state e) (not-true _ ((and-eq-true_iff (eqb (state_fd t r p area) 0) _).0 e).1)

  -- the packets answered 00 that are taken are those of the next number
  pub takes-next : (eqb (state_fd t r p area) 0 && eqb r.number t.leg.next) ≡ takes t r p area
  unfolding takes
  takes-next = go (eqb (state_fd t r p area) 0) (repeats t r p area) refl refl
    where
      go : (a b : Bool) → eqb (state_fd t r p area) 0 ≡ a → repeats t r p area ≡ b → (a && eqb r.number t.leg.next) ≡ (a && not b)
      go false b ea eb = refl
      go true true ea eb = let again = (repeated eb).number in ne_eqb r.number t.leg.next (λ e. omega arith)
      go true false ea eb = eq-eqb r.number t.leg.next (passed (eqb-true (state_fd t r p area) 0 ea) eb).number

  -- ---- exactly when a packet is taken

  pub acceptable : takes t r p area ≡ true → Acceptable t r p
  acceptable e =
      let k = taken e in
      let n = neither (not (receiving t.leg.phase)) _ k.here in
      let size = k.size in
      let some = k.some in
      record {
        receiving = is-receiving t.leg.phase (not-false _ n.0);
        channel = eqb-true _ _ (not-false _ n.1);
        number = k.number;
        within = k.within;
        size = size;
        some = positive (length p) some size;
        agreed = omega (arith, k.agreed);
        fits = omega (arith, k.fits);
        right-crc = eqb-true _ _ (not-false _ k.right-crc);
      }

  pub accepted-taken : Acceptable t r p → takes t r p area ≡ true
  unfolding takes state_fd
  accepted-taken a =
      let here : not_receiving_here t r ≡ false =
      ap₂ (λ (x y : Bool). not x || not y) (ap receiving a.receiving) (eq-eqb r.channel t.leg.channel a.channel) in
      let new : repeats t r p area ≡ false = not-again (repeats t r p area) refl in
      let next : not_next t r ≡ false =
      ap₂ (λ (x y : Bool). not x || not y) (lt-ltb t.leg.next max_next a.within) (eq-eqb r.number t.leg.next a.number) in
      let sized : wrong_size t r (length p) ≡ false =
      ap₂ (λ (x y : Bool). not x || y) (eq-eqb r.size (length p) a.size)
      (ap₂ ◌||◌ (ne_eqb r.size 0 (λ none. omega (arith, a.some)))
      (ap₂ ◌||◌ (le-ltb t.leg.agreed r.size a.agreed) (le-ltb t.image.announced _ a.fits))) in
      let crc : wrong_crc r p ≡ false = ap not (eq-eqb _ _ a.right-crc) in
      simp (here, new, next, sized, crc)
    where
      not-again : (b : Bool) → repeats t r p area ≡ b → b ≡ false
      not-again true e = let again = (repeated e).number in let n = a.number in absurd (omega arith)
      not-again false e = refl
