-- Document 02, K5: "each portion call is given a largest number of bytes, reports how many image bytes it read in this call, and says
-- unfinished, right or wrong. That count is the smaller of the largest number and what is left unread." Assumes nothing.
use Rattle.std.specs.Prelude.{◌≡◌, Bool, true, false, cond, List, ℕ, ◌+◌, ◌-◌, ◌≤◌, ◌<◌, ltb, eqb, length, take}
use Rattle.std.proofs.Math.Seq.{slice}
use Rattle.crc.specs.Crc.{update, finish, checksum, crc32}
use Rattle.image.specs.declared.check.Check.{Check}
use Rattle.image.specs.declared.check.Verdict.{Verdict}
use Rattle.image.specs.declared.check.Verdict.TheVariants.{Unfinished, Right, Wrong}
use Rattle.image.specs.declared.check.Portion.{Portion}

-- no end check runs, "the check's own fields" zero
abbrev pub no_check : Check
no_check = record { running = false; read = 0; register = 0 }

-- one that has read nothing yet: the register is the CRC-32's first one
abbrev pub started_check : Check
started_check = record { running = true; read = 0; register = crc32.init }

-- "what is left unread" of an announced length
abbrev pub left_unread : Check → ℕ → ℕ
left_unread c announced = announced - c.read

-- "the smaller of the largest number and what is left unread"
abbrev pub portion_size : ℕ → ℕ → ℕ
portion_size most left = cond (ltb most left) most left

-- a check that has read n bytes more
abbrev pub read_on : Check → ℕ → List ℕ → Check
read_on c n area =
    record { running = c.running; read = c.read + n; register = update crc32 c.register (slice c.read (c.read + n) area) }

-- what it says once it stands there
abbrev pub verdict_of : Check → ℕ → ℕ → Verdict
verdict_of c announced crc = cond (ltb c.read announced) Unfinished (cond (eqb (finish crc32 c.register) crc) Right Wrong)

unfoldable pub portion_of : Check → ℕ → ℕ → ℕ → List ℕ → Portion
portion_of c most announced crc area =
    let n = portion_size most (left_unread c announced) in
    let next = read_on c n area in
    record { count = n; verdict = verdict_of next announced crc; check = next }

-- in one go: the CRC-32 of the area's first announced bytes is the announced one
abbrev pub has_crc : ℕ → ℕ → List ℕ → Bool
has_crc announced crc area = eqb (checksum crc32 (take announced area)) crc

-- what a check will say once it has read on to the end
abbrev pub will_pass : Check → ℕ → ℕ → List ℕ → Bool
will_pass c announced crc area = eqb (finish crc32 (update crc32 c.register (slice c.read announced area))) crc

-- "right or wrong"
abbrev pub saying : Bool → Verdict
saying right = cond right Right Wrong

-- A check comes to the same however it is cut into portions. What it will say is what it says in one go once it has started,
-- stays as it was through every portion that is too small for the rest, and is said by the one that is not.
pub record ChecksAlikeIn (announced crc : ℕ) (area : List ℕ) : Type 0 where
  pub starts : will_pass started_check announced crc area ≡ has_crc announced crc area
  pub goes_on : (c : Check) (most : ℕ) → announced ≤ length area → most < left_unread c announced
      → (portion_of c most announced crc area ≡ record { count = most; verdict = Unfinished; check = read_on c most area })
      × (will_pass (read_on c most area) announced crc area ≡ will_pass c announced crc area)
  pub ends : (c : Check) (most : ℕ) → c.read < announced → left_unread c announced ≤ most
      → ((portion_of c most announced crc area).count ≡ left_unread c announced) ×
      ((portion_of c most announced crc area).verdict ≡ saying (will_pass c announced crc area))

-- The claim.
abbrev pub ChecksAlike : Type 0
ChecksAlike = (announced crc : ℕ) (area : List ℕ) → ChecksAlikeIn announced crc area
