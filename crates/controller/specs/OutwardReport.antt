-- 01, "Outcome numbers": "outward F9 9, then 11"; "outward F9 gives 0 and the length 8 + 7n"; "a refused outward F9, gives length 0" and
-- nothing is written. Assumes nothing.
use Rattle.std.specs.Prelude.{◌≡◌, cond, List, ◌++◌, ℕ, ◌+◌, ◌*◌, ltb, length, drop}
use Rattle.fronts.specs.Frame.{encode}
use Rattle.commands.specs.declared.outcome.Outcome.{Outcome}
use Rattle.commands.specs.Outcomes.{accepted, rules_broken, short_report_room}
use Rattle.boards.specs.Report.{report_frame}
use Rattle.controller.specs.declared.record.Record.{Record}
use Rattle.controller.specs.declared.report.Reported.{Reported}
use Rattle.commands.specs.Outcomes.{same_outcome}
use Rattle.controller.specs.Records.{unlawful_record}

-- "8 + 7n"
abbrev pub report_length : Record → ℕ
report_length r = 8 + 7 * r.session.count

unfoldable pub report_refusal : Record → ℕ → Outcome
report_refusal r room = cond (unlawful_record r) rules_broken (cond (ltb room (report_length r)) short_report_room accepted)

unfoldable pub reported : Record → List ℕ → Reported
reported r room =
    let code = report_refusal r (length room) in
    record { outcome = code; length = cond (same_outcome code accepted) (report_length r) 0 }

unfoldable pub room_reported : Record → List ℕ → List ℕ
room_reported r room =
    cond (same_outcome (report_refusal r (length room)) accepted)
    (encode (report_frame r.session.boards r.session.count) ++ drop (report_length r) room) room

pub record ReportLeaves (r : Record) (room : List ℕ) (x : Reported) (after : List ℕ) : Type 0 where
  pub gives : x ≡ reported r room
  pub leaves : after ≡ room_reported r room
