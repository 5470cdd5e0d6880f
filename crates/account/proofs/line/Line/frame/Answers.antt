-- `account::line::Line::frame` meets its contract. Assumes nothing.
use Rattle.account.proofs.Adding.{adds-both, from_empty}
use Rattle.account.proofs.line.Line.frame.Goals as goal

pub returns : goal.returns
returns c =
    let place = c.decimal.ensures in
    let outcome = c.decimal-2.ensures in
    let to_the_end = adds-both c.put-3.ensures (adds-both c.reply.ensures.adds c.put-4.ensures) in
    let from-command = adds-both c.hex.ensures (adds-both c.put-2.ensures (adds-both outcome.adds to_the_end)) in
    let whole = adds-both place.adds (adds-both c.put.ensures from-command) in
    record {
      place_text = place.text;
      outcome_text = outcome.text;
      is-place = place.is-decimal;
      is-outcome = outcome.is-decimal;
      is = from_empty c.empty.ensures whole;
    }
