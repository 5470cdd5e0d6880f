-- The end check comes to the same however it is cut into portions. Assumes nothing.
use mathlib.Core.Path.{◌≡◌, refl, sym, ap, ap₂, ◌∙◌}
use mathlib.Core.List.{List, ◌++◌}
use Prim.Native.Nat.{ℕ, ◌+◌, ◌-◌, ◌≤◌, ◌<◌}
use native.Mathlib.Omega.{arith}
use borrow.Author.Tests.{lt-ltb, le-ltb}
use lib.Dec.{eqb}
use lib.ListN.{length, take-append-drop}
use lib.Seq.{slice}
use Rattle.crc.specs.Crc.{update, finish, checksum, crc32}
use Rattle.crc.proofs.Updates.{update-append}
use Rattle.sequences.proofs.Slices.{take-slice, drop-slice}
use Rattle.image.specs.declared.check.Check.{Check}
use Rattle.image.specs.declared.check.Verdict.TheVariants.{Unfinished}
use Rattle.image.specs.declared.check.Portion.{Portion}
use Rattle.image.specs.Checks.{started_check, left_unread, read_on, portion_of, has_crc, will_pass, saying, ChecksAlikeIn, ChecksAlike}

-- two parts that meet
slice_join : (f t u : ℕ) (l : List ℕ) → f ≤ t → t ≤ u → u ≤ length l → slice f t l ++ slice t u l ≡ slice f u l
slice_join f t u l h k m =
    let e : f + (t - f) ≡ t = omega arith in
    ap₂ ◌++◌
    (sym (take-slice f u (t - f) l (omega arith) m ∙ ap (λ (n : ℕ). slice f n l) e))
    (sym (drop-slice f u (t - f) l ∙ ap (λ (n : ℕ). slice n u l) e))
    ∙ take-append-drop (t - f) (slice f u l)

module _ (announced crc : ℕ) (area : List ℕ) where
  -- a check that has just started says what the check in one go says
  pub started-says : will_pass started_check announced crc area ≡ has_crc announced crc area
  unfolding checksum
  started-says = refl

  -- reading on does not change what it will say
  says_on : (c : Check) (n : ℕ) → announced ≤ length area → c.read + n ≤ announced
      → will_pass (read_on c n area) announced crc area ≡ will_pass c announced crc area
  says_on c n fits h =
      ap (λ (r : ℕ). eqb (finish crc32 r) crc)
      (sym (update-append crc32 c.register (slice c.read (c.read + n) area) (slice (c.read + n) announced area))
      ∙ ap (update crc32 c.register) (slice_join c.read (c.read + n) announced area (omega arith) h fits))

  -- fewer bytes than are left unread: the check goes on
  pub goes_on : (c : Check) (most : ℕ) → announced ≤ length area → most < left_unread c announced
      → (portion_of c most announced crc area ≡ record { count = most; verdict = Unfinished; check = read_on c most area })
      × (will_pass (read_on c most area) announced crc area ≡ will_pass c announced crc area)
  unfolding portion_of
  goes_on c most fits h =
      let short : c.read + most < announced = omega arith in
      (simp (lt-ltb most (left_unread c announced) h, lt-ltb _ _ short), says_on c most fits (omega arith))

  -- all of them: it says what it would say
  pub ends : (c : Check) (most : ℕ) → c.read < announced → left_unread c announced ≤ most
      → portion_of c most announced crc area ≡ record {
        count = left_unread c announced;
        verdict = saying (will_pass c announced crc area);
        check = read_on c (left_unread c announced) area;
      }
  unfolding portion_of
  ends c most inside h =
      let all : c.read + left_unread c announced ≡ announced = omega arith in
      let done : announced ≤ announced = omega arith in
      simp (le-ltb most (left_unread c announced) h, all, le-ltb announced announced done)

  checks_alike_in : ChecksAlikeIn announced crc area
  checks_alike_in =
      record {
        starts = started-says;
        goes_on = goes_on;
        ends = λ c most inside h. (
          ap (λ (p : Portion). p.count) (ends c most inside h),
          ap (λ (p : Portion). p.verdict) (ends c most inside h),
        );
      }

pub checks_alike : ChecksAlike
checks_alike = checks_alike_in
