-- `values::span::behind_last` meets its contract. The loop's invariant: the last place is among those that are left. Assumes nothing.
use mathlib.Core.Path.{◌≡◌}
use Rattle.values.specs.Spans.{changed_at, behind_last}
use Rattle.values.proofs.span.behind_last.Given as goal

abbrev pub invariant-loop-last : goal.invariant-loop-last
invariant-loop-last l = behind_last (changed_at l.before l.after) l.last ≡ behind_last (changed_at l.before l.after) l.end
