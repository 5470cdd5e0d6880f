-- `phrases::spaces::spaces_end` meets its contract. Assumes nothing.
use mathlib.Core.Path.{ap, ◌∙◌}
use Prim.Native.Nat.{ℕ, ◌+◌}
use native.Mathlib.Omega.{arith}
use lib.ListN.{drop, length-drop}
use Rattle.phrases.specs.Spaces.{is_space, spaces}
use Rattle.phrases.proofs.Fronts.{count-short}
use Rattle.phrases.proofs.spaces.spaces_end.Goals as goal

pub overflow_add-result : goal.overflow_add-result
overflow_add-result c =
    let a = c.args in
    let rest = drop a.at a.s.now in
    let n = c.spaces.ensures ∙ ap spaces c.behind.ensures in
    omega (arith, n, count-short is_space rest, length-drop a.at a.s.now)

pub returns : goal.returns
returns c =
    let at = c.args.at in
    ap (λ (n : ℕ). at + n) (c.spaces.ensures ∙ ap spaces c.behind.ensures)
