-- `account::line::Line::text` meets its contract. Assumes nothing.
use Rattle.std.proofs.Common.{rules, ◌≡◌, ◌-◌, length, drop, length-take, length-drop, arith}
use Rattle.account.specs.Texts.{max_line}
use Rattle.account.proofs.Adding.{adds_part}
use Rattle.account.proofs.line.Line.text.Goals as goal

pub returns : goal.returns
returns c =
    let a = c.args in
    let good = c.well_formed in
    let size : length a.self.bytes ≡ max_line = search rules in
    let w = c.copy.ensures in
    let behind = drop a.self.count a.self.bytes in
    let all_copied : c.copy.result ≡ length a.text.now =
    omega (arith, w.count, length-take (length a.self.bytes - a.self.count) behind, length-drop a.self.count a.self.bytes) in
    adds_part a.self a.text.now _ _ (omega arith) (omega arith) all_copied (rw all_copied at w.copied)
