-- Document 02, K5: a portion call, as far as the session goes. It refuses "9, 6, .. then 18 when no check runs: count 0, unfinished,
-- nothing changed"; "The call that reads the last byte gives the verdict and FE's reply .. (outcome 0); before that it is 19". Assumes
-- nothing.
use Rattle.std.specs.Prelude.{cond, not, None, List, ℕ, eqb, length}
use Rattle.image.specs.declared.check.Verdict.{Verdict}
use Rattle.image.specs.declared.check.Verdict.TheVariants.{Unfinished, Right, Wrong}
use Rattle.ending.specs.declared.check.CheckStep.{CheckStep}
use Rattle.ending.specs.Portions.{check_step}
use Rattle.session.specs.declared.session.Session.{Session}
use Rattle.session.specs.declared.check.Checked.{Checked}
use Rattle.commands.specs.declared.outcome.Outcome.{Outcome}
use Rattle.commands.specs.Outcomes.{accepted, other_area, rules_broken, no_check_runs, unfinished}
use Rattle.session.specs.Transfers.{own_transfer, with_transfer}
use Rattle.session.specs.Lawful.{unlawful}

abbrev pub outcome_of : Verdict → Outcome
outcome_of Unfinished = unfinished
outcome_of Right = accepted
outcome_of Wrong = accepted

-- refused: "count 0, unfinished, nothing changed"
abbrev pub refused_check : Outcome → Session → Checked
refused_check outcome s = record { outcome = outcome; count = 0; verdict = Unfinished; session = s; reply = None }

abbrev pub checked_by : Session → CheckStep → Checked
checked_by s p =
    record {
      outcome = outcome_of p.verdict;
      count = p.count;
      verdict = p.verdict;
      session = with_transfer s p.step.transfer;
      reply = p.step.reply;
    }

unfoldable pub checked : Session → ℕ → List ℕ → Checked
checked s most area =
    cond (unlawful s) (refused_check rules_broken s)
    (cond (not (eqb (length area) s.opened)) (refused_check other_area s)
    (cond (own_transfer s).check.running (checked_by s (check_step (own_transfer s) most area)) (refused_check no_check_runs s)))
