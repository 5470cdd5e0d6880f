-- `account::line::Line::put` meets its contract. Assumes nothing.
use Rattle.std.proofs.Common.{arith}
use Rattle.account.proofs.Adding.{adds-byte}
use Rattle.account.proofs.line.Line.put.Goals as goal

pub returns : goal.returns
returns c = adds-byte c.args.self c.args.b (omega arith)
