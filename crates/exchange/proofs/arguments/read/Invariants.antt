-- `exchange::arguments::read` meets its contract. Assumes nothing.
use Rattle.words.specs.Ranges.{InRange}
use Rattle.exchange.proofs.arguments.read.Given as goal

abbrev pub invariant-loop-i : goal.invariant-loop-i
invariant-loop-i l = InRange l.words
