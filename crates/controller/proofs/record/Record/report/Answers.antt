-- `controller::record::Record::report` meets its contract. Assumes nothing.
use mathlib.Core.Path.{sym, ◌∙◌}
use native.Mathlib.Omega.{arith}
use Rattle.session.proofs.Lawfuls.{lawful-count}
use Rattle.boards.proofs.Reports.{report_size_lem, report_room_lem}
use Rattle.controller.proofs.Refusals.{lawful_record}
use borrow.Author.Tests.{le-ltb}
use Rattle.controller.specs.OutwardReport.{reported, room_reported, report_refusal}
use Rattle.controller.proofs.record.Record.report.Goals as goal

pub overflow_mul-self : goal.overflow_mul-self
overflow_mul-self c =
    omega (
      arith,
      lawful-count _
          (lawful_record _ (sym c.unlawful.ensures ∙ c.if-unlawful.false)).session,
    )

pub overflow_add-self : goal.overflow_add-self
overflow_add-self c =
    omega (
      arith,
      lawful-count _
          (lawful_record _ (sym c.unlawful.ensures ∙ c.if-unlawful.false)).session,
    )

pub returns : goal.returns
unfolding reported room_reported report_refusal
returns c =
    let good = sym c.unlawful.ensures
    ∙ c.if-unlawful.false in
    let wide = c.if-room-self.false in
    let fits = le-ltb _ _ wide in
    let o = c.args in
    let few = lawful-count o.self.session (lawful_record o.self good).session in
    let w = c.write.ensures in
    let size = w.gives ∙ report_size_lem o.self.session.boards o.self.session.count o.room.now few wide in
    record {
      gives = simp (good, fits, size);
      leaves = simp (good, fits) (w.leaves ∙ report_room_lem o.self.session.boards o.self.session.count o.room.now few wide);
    }
