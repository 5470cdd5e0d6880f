-- `account::account::Account::after` meets its contract. Assumes nothing.
use Rattle.std.proofs.Common.{sym, refl, ◌∙◌}
use mathlib.Core.Bool.{false≢true}
use Rattle.account.proofs.Telling.{drops-passed, frame_added}
use Rattle.account.proofs.account.Account.after.Goals as goal

pub returns-then-line_waits : goal.returns-then-line_waits
returns-then-line_waits c =
    let a = c.args in
    let waits = sym c.line_waits.ensures ∙ c.if-line_waits.true in
    let passed = drops-passed a.self a.c.dropped _ _ c.plus.ensures c.plus-2.ensures in
    record { nothing = λ _. (passed, refl); line = λ due. absurd (false≢true (sym due ∙ waits)) }

pub returns : goal.returns
returns c =
    let a = c.args in
    let due = sym c.line_waits.ensures ∙ c.if-line_waits.false in
    let passed = drops-passed a.self a.c.dropped _ _ c.plus.ensures c.plus-2.ensures in
    record {
      nothing = λ waits. absurd (false≢true (sym due ∙ waits));
      line = λ _. frame_added passed c.from.ensures c.line_at-line.ensures c.with_line.ensures;
    }
