-- What is counted stands in the area. Assumes nothing.
use mathlib.Core.Path.{◌≡◌, sym, ap, ◌∙◌}
use mathlib.Core.Bool.{Bool, true, false, not, cond, ◌&&◌, and-eq-true_iff}
use mathlib.Core.List.{List}
use Prim.Native.Nat.{ℕ, ◌+◌, ◌-◌, ◌≤◌}
use native.Mathlib.Omega.{arith}
use borrow.Author.Tests.{le-leb, eqb-true, eqb-false, eq-eqb, ne_eqb, not-true}
use lib.Dec.{leb, eqb}
use lib.ListN.{length, take, drop}
use Rattle.sequences.specs.Comparing.{same}
use Rattle.sequences.specs.Places.{written_at}
use Rattle.sequences.proofs.Conditionals.{of-both}
use Rattle.sequences.proofs.Places.{written-there, written-before}
use Rattle.sequences.proofs.Sames.{same_equal, same_self}
use Rattle.image.specs.declared.progress.Progress.{Progress}
use Rattle.image.specs.Progresses.{grown_by, storing, last_stored, is_last, StoresBytes, Stores}

module _ (p : Progress) (bytes area : List ℕ) where
  pub storing-fits : p.stored + length bytes ≤ length area → storing p bytes area ≡ grown_by p (length bytes)
  unfolding storing
  storing-fits h = ap (λ (b : Bool). cond b (grown_by p (length bytes)) p) (le-leb (p.stored + length bytes) (length area) h)

  -- whether they fit or not: what is stored stays below a bound that has room for them, the last length too, and within what is stored
  pub storing-within : (most : ℕ) → p.stored + length bytes ≤ most → p.stored ≤ most → (storing p bytes area).stored ≤ most
  unfolding storing
  storing-within most h k = of-both (λ (q : Progress). q.stored ≤ most) (leb (p.stored + length bytes) (length area)) _ _ h k

  pub storing-last : (most : ℕ) → length bytes ≤ most → p.last ≤ most → (storing p bytes area).last ≤ most
  unfolding storing
  storing-last most h k = of-both (λ (q : Progress). q.last ≤ most) (leb (p.stored + length bytes) (length area)) _ _ h k

  pub storing-last-stored : p.last ≤ p.stored → (storing p bytes area).last ≤ (storing p bytes area).stored
  unfolding storing
  storing-last-stored h = of-both (λ (q : Progress). q.last ≤ q.stored) (leb (p.stored + length bytes) (length area)) _ _ (omega arith) h

  -- they are the last ones
  pub last_stored_lem : p.stored + length bytes ≤ length area → last_stored (storing p bytes area) (written_at area p.stored bytes) ≡ bytes
  last_stored_lem h =
      let place : p.stored + length bytes - length bytes ≡ p.stored = omega arith in
      ap (λ (q : Progress). last_stored q (written_at area p.stored bytes)) (storing-fits h)
      ∙ ap (λ (n : ℕ). take (length bytes) (drop n (written_at area p.stored bytes))) place
      ∙ written-there area bytes p.stored h

  stores-bytes : StoresBytes p bytes area
  stores-bytes =
      record { counted = storing-fits; there = last_stored_lem; before = written-before area bytes p.stored 0 p.stored (omega arith) }

  -- what holds of the bytes of the packet taken last
  pub record IsLast : Type 0 where
    pub some : p.last ≡ 0 → ⊥
    pub size : length bytes ≡ p.last
    pub same_bytes : bytes ≡ last_stored p area

  pub is-last : is_last p bytes area ≡ true → IsLast
  unfolding is_last
  is-last e =
      let e1 = (and-eq-true_iff (not (eqb p.last 0)) _).0 e in
      let e2 = (and-eq-true_iff (eqb (length bytes) p.last) _).0 e1.1 in
      record {
        some = eqb-false p.last 0 (not-true _ e1.0);
        size = eqb-true (length bytes) p.last e2.0;
        same_bytes = same_equal bytes (last_stored p area) e2.1;
      }

  pub last-is : IsLast → is_last p bytes area ≡ true
  unfolding is_last
  last-is i =
      simp (
        ne_eqb p.last 0 i.some,
        eq-eqb (length bytes) p.last i.size,
        ap (same bytes) (sym i.same_bytes) ∙ same_self bytes,
      )

  -- while no packet is the last one, none is
  pub none_last : p.last ≡ 0 → is_last p bytes area ≡ false
  unfolding is_last
  none_last e = ap (λ (b : Bool). not b && (eqb (length bytes) p.last && same bytes (last_stored p area))) (eq-eqb p.last 0 e)

pub stores : Stores
stores = stores-bytes
