-- `desk::desk::Desk::show` meets its contract. Assumes nothing.
use mathlib.Core.Path.{ap}
use Rattle.text.proofs.Texts.{texts_as, ◌then◌}
use Rattle.answers.specs.Answers.{changed_texts}
use Rattle.controller.specs.declared.record.Record.{Record}
use Rattle.desk.proofs.desk.Desk.show.Goals as goal

pub returns : goal.returns
returns c =
    let d = c.args.self in
    let none = ap (λ (r : Record). changed_texts r d.record) c.no_record.ensures in
    c.begun.ensures then texts_as none c.changed.ensures
