-- The end check of a transfer comes to the same however it is cut into portions. Assumes nothing.
use mathlib.Core.Path.{◌≡◌, refl, ap, ◌∙◌}
use mathlib.Core.Bool.{Bool, true, false}
use mathlib.Core.List.{List}
use Prim.Native.Nat.{ℕ, ◌≤◌, ◌<◌}
use lib.ListN.{length}
use Rattle.image.specs.declared.check.Check.{Check}
use Rattle.image.specs.declared.check.Verdict.TheVariants.{Unfinished}
use Rattle.image.specs.declared.check.Portion.{Portion}
use Rattle.image.specs.Checks.{started_check, read_on, portion_of, saying}
use Rattle.image.proofs.Slices as slices
use Rattle.transfer.specs.declared.state.Transfer.{Transfer}
use Rattle.transfer.specs.declared.state.Step.{Step}
use Rattle.transfer.specs.Transfers.{with_check, noted}
use Rattle.ending.specs.FE.{ended_fe}
use Rattle.ending.specs.Portions.{step_by, check_step, unread, will_say, right_crc}

-- a check that has just started says what the check in one go says
pub started-says : (t : Transfer) (area : List ℕ) → will_say (with_check t started_check) area ≡ right_crc t area
started-says t area = slices.started-says t.image.announced t.image.crc area

-- what a portion of the check makes of the transfer
by-portion : (t : Transfer) (most : ℕ) (area : List ℕ) (p : Portion)
    → portion_of t.check most t.image.announced t.image.crc area ≡ p
    → check_step t most area ≡ record { count = p.count; verdict = p.verdict; step = step_by p.verdict t p.check }
unfolding check_step
by-portion t most area p e =
    ap (λ (q : Portion). record { count = q.count; verdict = q.verdict; step = step_by q.verdict t q.check }) e

ended_by : (t : Transfer) (c : Check) (b : Bool) → step_by (saying b) t c ≡ ended_fe t b
ended_by t c true = refl
ended_by t c false = refl

-- a running check of a transfer whose image lies within the area
module _ (t : Transfer) (most : ℕ) (area : List ℕ) (fits : t.image.announced ≤ length area)
    (inside : t.check.read < t.image.announced) where
  abbrev pub further : ℕ → Transfer
  further n = with_check t (read_on t.check n area)

  -- fewer bytes than are left unread: the check goes on
  pub goes_on : most < unread t
      → (check_step t most area ≡ record { count = most; verdict = Unfinished; step = noted (further most) }) ×
      (will_say (further most) area ≡ will_say t area)
  goes_on h =
      let e = slices.goes_on t.image.announced t.image.crc area t.check most fits h in
      (by-portion t most area _ e.0, e.1)

  -- all of them: it says what it would say
  pub ends : unread t ≤ most → check_step t most area ≡ record {
    count = unread t;
    verdict = saying (will_say t area);
    step = ended_fe t (will_say t area);
  }
  ends h =
      by-portion t most area _ (slices.ends t.image.announced t.image.crc area t.check most inside h)
      ∙ ap (λ (s : Step). record { count = unread t; verdict = saying (will_say t area); step = s })
      (ended_by t (read_on t.check (unread t) area) (will_say t area))
