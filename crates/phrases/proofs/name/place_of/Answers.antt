-- `phrases::name::place_of` meets its contract. The loop's invariant: the search from place i on finds what the whole search finds.
-- Assumes nothing.
use borrow.Author.Tests.{lt-ltb, le-ltb}
use Rattle.std.proofs.Common.{◌≡◌, sym, ◌∙◌, arith}
use Rattle.sequences.proofs.Searches.{find-start, find_hit, find_miss, find_end}
use Rattle.phrases.specs.Table.{row_count}
use Rattle.phrases.specs.Names.{is_named, command_place}
use Rattle.phrases.proofs.name.place_of.Goals as goal

pub loop-i-init : goal.loop-i-init
unfolding command_place
loop-i-init c = find-start (is_named c.args.line.now) row_count

pub returns-then-is_named : goal.returns-then-is_named
returns-then-is_named c =
    let i = c.loop-i.i in
    let line = c.args.line.now in
    let named = sym c.is_named.ensures ∙ c.if-is_named.true in
    let here : command_place line ≡ i = sym c.loop-i.invariant ∙ find_hit (is_named line) row_count i (omega arith) named in
    simp (here, lt-ltb i row_count (omega arith))

pub loop-i-preserved : goal.loop-i-preserved
loop-i-preserved c =
    let i = c.loop-i.i in
    let line = c.args.line.now in
    let other = sym c.is_named.ensures ∙ c.if-is_named.false in
    find_miss (is_named line) row_count i (omega arith) other ∙ c.loop-i.invariant

pub returns : goal.returns
returns c =
    let i = c.loop-i.i in
    let line = c.args.line.now in
    let none : command_place line ≡ i = sym c.loop-i.invariant ∙ find_end (is_named line) row_count i (omega arith) in
    simp (none, le-ltb i row_count (omega arith))
