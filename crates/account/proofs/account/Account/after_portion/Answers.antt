-- `account::account::Account::after_portion` meets its contract. Assumes nothing.
use Rattle.std.proofs.Common.{refl}
use Rattle.account.proofs.Telling.{frame_added}
use Rattle.account.proofs.account.Account.after_portion.Goals as goal

pub returns-in-Unfinished : goal.returns-in-Unfinished
returns-in-Unfinished c = record { goes_on = λ _. (refl, refl); ends = λ other. absurd (other c.in-Unfinished.is) }

pub returns-in_default : goal.returns-in_default
returns-in_default c =
    record {
      goes_on = λ e. absurd (c.in_default.not-Unfinished e);
      ends = λ _. frame_added refl c.from.ensures c.line_at-line.ensures
          c.with_line.ensures;
    }
