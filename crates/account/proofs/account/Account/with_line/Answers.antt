-- `account::account::Account::with_line` meets its contract. Assumes nothing.
use Rattle.std.proofs.Common.{ℕ, List, refl, ap, ◌∙◌, subst}
use Rattle.text.specs.Outputs.{TextAdded}
use Rattle.account.specs.Accounts.{sum}
use Rattle.account.proofs.account.Account.with_line.Goals as goal

pub returns : goal.returns
returns c =
    let text = c.text in
    let a = c.args in
    let adds : List ℕ → Type 0 = λ s. TextAdded a.output.now s text.new.self in
    record {
      passes = c.plus-2.ensures ∙ ap (λ (n : ℕ). sum n a.length) c.plus.ensures;
      drops = refl;
      adds = subst adds c.front.ensures text.ensures;
    }
