-- `phrases::pairs::byte_at` meets its contract. Assumes nothing.
use mathlib.Core.Path.{ap, ap₂, ◌∙◌}
use mathlib.Core.List.{List}
use Prim.Native.Nat.{ℕ, ◌+◌, ◌*◌}
use native.Mathlib.Omega.{arith}
use lib.ListN.{length, drop, get_or}
use Rattle.phrases.specs.Pairs.{hex_of}
use Rattle.phrases.proofs.Hexes.{two_digits}
use Rattle.phrases.proofs.pairs.byte_at.Goals as goal

pub bounds-rest-0 : goal.bounds-rest-0
bounds-rest-0 c =
    let a = c.args in
    let pair = two_digits (drop a.at a.s.now) c.requires in
    omega (arith, pair.long, ap length c.behind-rest.ensures)

pub overflow_mul-result : goal.overflow_mul-result
overflow_mul-result c =
    let a = c.args in
    let pair = two_digits (drop a.at a.s.now) c.requires in
    omega (arith, pair.high, c.digit.ensures ∙ ap (λ (l : List ℕ). hex_of (get_or l 0 0)) c.behind-rest.ensures)

pub bounds-rest-1 : goal.bounds-rest-1
bounds-rest-1 c =
    let a = c.args in
    let pair = two_digits (drop a.at a.s.now) c.requires in
    omega (arith, pair.long, ap length c.behind-rest.ensures)

pub overflow_add-result : goal.overflow_add-result
overflow_add-result c =
    let a = c.args in
    let pair = two_digits (drop a.at a.s.now) c.requires in
    let high = c.digit.ensures ∙ ap (λ (l : List ℕ). hex_of (get_or l 0 0)) c.behind-rest.ensures in
    let low = c.digit-2.ensures ∙ ap (λ (l : List ℕ). hex_of (get_or l 1 0)) c.behind-rest.ensures in
    omega (arith, pair.high, pair.low, high, low)

pub returns : goal.returns
returns c =
    let rest = c.behind-rest.ensures in
    ap₂ (λ (x y : ℕ). 16 * x + y)
    (c.digit.ensures ∙ ap (λ (l : List ℕ). hex_of (get_or l 0 0)) rest)
    (c.digit-2.ensures ∙ ap (λ (l : List ℕ). hex_of (get_or l 1 0)) rest)
