-- `account::account::Account::end` meets its contract. Assumes nothing.
use Rattle.std.proofs.Common.{ℕ, List, subst}
use Rattle.text.specs.Outputs.{TextAdded}
use Rattle.account.specs.Texts.{line_text}
use Rattle.account.proofs.account.Account.end.Goals as goal

pub returns : goal.returns
returns c =
    let line = c.end-line in
    let a = c.args in
    let adds : List ℕ → Type 0 = λ s. TextAdded a.output.now s c.text.new.self in
    record {
      text = line_text line.result;
      says = line.ensures;
      adds = subst adds c.front.ensures c.text.ensures;
    }
