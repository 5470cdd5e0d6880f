-- `ends::feed` meets its contract. Assumes nothing.
use mathlib.Core.Path.{subst}
use mathlib.Core.List.{List}
use Prim.Native.Nat.{ℕ}
use Rattle.controller.specs.Calls.{fed_call, Leaves}
use Rattle.ends.proofs.feed.Goals as goal

pub returns : goal.returns
returns c =
    let a = c.args in
    let f = c.front.ensures in
    subst (λ (s : List ℕ). Leaves (fed_call s a.«record» a.room.now a.area.now) c.feed.result c.feed.new.room
    c.feed.new.area) f c.feed.ensures
