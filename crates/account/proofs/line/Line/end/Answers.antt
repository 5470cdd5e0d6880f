-- `account::line::Line::end` meets its contract. Assumes nothing.
use Rattle.account.proofs.Adding.{adds-both, from_empty}
use Rattle.account.proofs.line.Line.end.Goals as goal

pub returns : goal.returns
returns c =
    let dropped = c.decimal.ensures in
    let whole = adds-both c.text.ensures (adds-both dropped.adds c.put.ensures) in
    record {
      dropped_text = dropped.text;
      is-dropped = dropped.is-decimal;
      is = from_empty c.empty.ensures whole;
    }
