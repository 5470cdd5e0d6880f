-- `text::output::Output::decimal` meets its contract. Assumes nothing.
use mathlib.Core.Path.{subst}
use mathlib.Core.List.{List}
use Prim.Native.Nat.{ℕ}
use Rattle.text.specs.Outputs.{TextAdded}
use Rattle.text.proofs.Decimals.{is_the_decimal}
use Rattle.text.proofs.Digits.{is-decimal}
use Rattle.text.proofs.output.Output.decimal.Goals as goal

pub returns : goal.returns
returns c =
    let a = c.args in
    let d = c.decimal-count in
    let says = is-decimal a.n d.result d.new.out d.ensures.in_bounds.1 d.ensures.len d.ensures.digits in
    let adds : List ℕ → Type 0 = λ s. TextAdded a.self.now s c.text.new.self in
    subst adds (is_the_decimal _ _ says) c.text.ensures
