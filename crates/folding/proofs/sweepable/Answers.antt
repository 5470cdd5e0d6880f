-- `folding::sweepable` meets its contract: `all` answers whether every offset passes. Assumes nothing.
use borrow.Author.Rules.{rules}
use borrow.Author.Tests.{tests}
use mathlib.Core.Path.{sym, ap, ◌∙◌}
use mathlib.Core.Bool.{Bool, ◌&&◌}
use Prim.Native.Nat.{ℕ, ◌+◌}
use lib.Dec.{leb}
use Rattle.std.proofs.lemmas.Iterator.{YieldsList-from_slice}
use Rattle.std.proofs.lemmas.Iterator.Search.{all_from_yields_List}
use Rattle.folding.proofs.Bounds.{tested}
use Rattle.folding.proofs.sweepable.Goals as goal

pub returns-then-all : goal.returns-then-all
returns-then-all c =
    let o = c.args in
    let passed = all_from_yields_List (λ (offset : ℕ). leb offset o.at) _ _ c.all.result c.all.ensures.ran
    (YieldsList-from_slice o.offsets.now cc) (λ x b q k. search (rules, tests)) in
    c.ends_in.ensures ∙ sym (tested o.offsets.now o.at o.n o.size _ passed ∙ ap (λ (t : Bool). t && leb (o.at + o.n) o.size) c.if-all.true)

pub returns-else-all : goal.returns-else-all
returns-else-all c =
    let o = c.args in
    let passed = all_from_yields_List (λ (offset : ℕ). leb offset o.at) _ _ c.all.result c.all.ensures.ran
    (YieldsList-from_slice o.offsets.now cc) (λ x b q k. search (rules, tests)) in
    c.if-all.false ∙ sym (tested o.offsets.now o.at o.n o.size _ passed ∙ ap (λ (t : Bool). t && leb (o.at + o.n) o.size) c.if-all.false)
