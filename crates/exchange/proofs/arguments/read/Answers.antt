-- `exchange::arguments::read` meets its contract. Assumes nothing.
use mathlib.Core.Path.{sym, subst}
use Rattle.words.specs.Ranges.{InRange}
use Rattle.words.proofs.Sayings.{stay_in_range}
use Rattle.exchange.proofs.arguments.read.Goals as goal

pub loop-i-init : goal.loop-i-init
loop-i-init c = subst InRange (sym c.none-words.ensures) stay_in_range.none

pub returns-then-words : goal.returns-then-words
returns-then-words c = c.with_argument-words.ensures c.loop-i.invariant

pub loop-i-preserved : goal.loop-i-preserved
loop-i-preserved c = c.with_argument-words.ensures c.loop-i.invariant
