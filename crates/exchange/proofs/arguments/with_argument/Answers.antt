-- `exchange::arguments::with_argument` meets its contract. Assumes nothing.
use mathlib.Core.Path.{sym, subst}
use Rattle.words.specs.Ranges.{InRange}
use Rattle.words.proofs.Sayings.{stay_in_range}
use Rattle.exchange.proofs.arguments.with_argument.Goals as goal

pub returns-in-Ok : goal.returns-in-Ok
returns-in-Ok c = λ ok. subst InRange (sym c.with_word.ensures) (stay_in_range.said _ ok _ _)

pub returns-in-Err : goal.returns-in-Err
returns-in-Err c = λ ok. subst InRange (sym c.refused.ensures) (stay_in_range.refused _ ok)
