use mathlib.Core.Path.{◌≡◌}
use Rattle.sequences.specs.Padding.{padded}
use Rattle.boards.specs.Report.{max_report}
use Rattle.boards.proofs.Reports.{so_far}
use Rattle.boards.proofs.report.report_data.Given as goal

abbrev pub invariant-loop-i : goal.invariant-loop-i
invariant-loop-i l = l.d ≡ padded max_report (so_far l.fn.boards l.fn.count l.i)
