-- `lines::lines::Lines::next` meets its contract. Assumes nothing.
use Rattle.std.proofs.Common.{◌∙◌}
use Rattle.lines.proofs.Nexts.{of-waiting, ends-here, is_the_last, wants_more, is_too_long}
use Rattle.lines.proofs.lines.Lines.next.Goals as goal

pub returns-then-length-waiting : goal.returns-then-length-waiting
returns-then-length-waiting c =
    let a = c.args in
    c.line_ended.ensures
    ∙ ends-here a.self _ _ c.if-length-waiting.true
    ∙ of-waiting a.self c.between-waiting.result.now a.input.now c.line_in-length.ensures c.between-waiting.ensures

pub returns-then-self : goal.returns-then-self
returns-then-self c =
    let a = c.args in
    c.last_line.ensures
    ∙ is_the_last a.self _ _ c.if-length-waiting.false c.if-length-lt-INPUT.true c.if-self.true
    ∙ of-waiting a.self c.between-waiting.result.now a.input.now c.line_in-length.ensures c.between-waiting.ensures

pub returns-then-length-lt-INPUT : goal.returns-then-length-lt-INPUT
returns-then-length-lt-INPUT c =
    let a = c.args in
    c.more_wanted.ensures
    ∙ wants_more a.self _ _ c.if-length-waiting.false c.if-length-lt-INPUT.true c.if-self.false
    ∙ of-waiting a.self c.between-waiting.result.now a.input.now c.line_in-length.ensures c.between-waiting.ensures

pub returns : goal.returns
returns c =
    let a = c.args in
    c.passed_over.ensures
    ∙ is_too_long a.self _ _ c.if-length-waiting.false c.if-length-lt-INPUT.false
    ∙ of-waiting a.self c.between-waiting.result.now a.input.now c.line_in-length.ensures c.between-waiting.ensures
