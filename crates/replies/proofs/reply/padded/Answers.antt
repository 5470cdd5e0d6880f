-- `replies::reply::padded` meets its contract. Assumes nothing.
use borrow.Author.Rules.{rules}
use mathlib.Core.Path.{◌≡◌, sym, ap, ap₂, ◌∙◌}
use mathlib.Core.List.{◌++◌}
use Prim.Native.Nat.{ℕ, ◌-◌}
use lib.ListN.{length, drop}
use Rattle.sequences.specs.Padding.{zeros}
use Rattle.sequences.proofs.Padding.{drop-zeros}
use Rattle.replies.proofs.reply.padded.Goals as goal

pub returns : goal.returns
returns g c =
    let size : length c.args.bytes ≡ g.row.N = search rules in
    let front : c.copy_from_slice.new.self ≡ c.args.bytes = search rules in
    ap₂ ◌++◌ front (ap (drop g.row.N) c.none-data.ensures ∙ drop-zeros g.row.N 26 ∙ ap (λ (n : ℕ). zeros (26 - n)) (sym size))
