-- `desk::desk::Desk::show_sender` meets its contract. Assumes nothing.
use mathlib.Core.Path.{ap}
use Rattle.text.proofs.Texts.{texts_as, ◌then◌}
use Rattle.answers.specs.Answers.{sender_changed_texts}
use Rattle.sender.specs.declared.sender.Sender.{Sender}
use Rattle.desk.proofs.desk.Desk.show_sender.Goals as goal

pub returns : goal.returns
returns c =
    let d = c.args.self in
    let none = ap (λ (s : Sender). sender_changed_texts s d.sender) c.none.ensures in
    c.begun.ensures then texts_as none c.sender_changed.ensures
