-- `boards::list::place_of` meets its contract. Assumes nothing.
use mathlib.Core.Path.{◌≡◌, sym, ap, ◌∙◌}
use native.Mathlib.Omega.{arith}
use Rattle.std.specs.Option.{unwrap_or}
use Rattle.boards.specs.Boards.{place_of}
use Rattle.boards.proofs.Places.{place_in_lem, first-place, place-within}
use Rattle.boards.proofs.list.place_of.Goals as goal

pub returns : goal.returns
returns c =
    let a = c.args in
    let few = c.if-count-gt-MAX_BOARDS.false in
    let place : c.unwrap_or.result ≡ place_of a.boards a.count a.channel =
    c.unwrap_or.ensures ∙ ap (λ o. unwrap_or o a.count) c.first_with.ensures ∙ first-place a.boards a.count a.channel (omega arith) in
    (place ∙ sym (place_in_lem a.boards a.count a.channel few), omega (arith, place, place-within a.boards a.count a.channel))
