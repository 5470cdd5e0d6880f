-- `account::line::Line::hex` meets its contract. Assumes nothing.
use Rattle.std.proofs.Common.{ℕ, List, [], ◌∷◌, get_or, ap, subst}
use Rattle.account.specs.Texts.{Adds}
use Rattle.account.proofs.Adding.{adds-both}
use Rattle.account.proofs.line.Line.hex.Goals as goal

pub returns : goal.returns
returns c =
    let digits = c.byte-digits in
    subst (λ (t : List ℕ). Adds c.args.self t c.put-2.result) (ap (λ (d : List ℕ). get_or d 0 0 ∷ get_or d 1 0 ∷ []) digits.ensures)
    (adds-both c.put.ensures c.put-2.ensures)
