-- `account::line::Line::decimal` meets its contract. Assumes nothing.
use Rattle.std.proofs.Common.{arith}
use Rattle.account.proofs.Adding.{twenty_digits, adds-decimal}
use Rattle.account.proofs.line.Line.decimal.Goals as goal

pub text-requires : goal.text-requires
text-requires c =
    let d = c.decimal-count in
    omega (arith, twenty_digits c.args.n d.result (omega arith) d.ensures.len)

pub returns : goal.returns
returns c =
    let d = c.decimal-count in
    adds-decimal c.args.n d.result d.new.out (omega arith) d.ensures.in_bounds.1 d.ensures.len d.ensures.digits
    c.text.ensures
