-- `slicing::tables::ArrayU32512Tables::at` meets its contract: the tables' rule at (n, x). Assumes nothing.
use borrow.Author.Rules.{rules}
use mathlib.Core.Path.{ap, ◌∙◌}
use Prim.Native.Nat.{ℕ, ◌+◌, ◌*◌, ◌/◌, ◌%◌}
use native.Mathlib.Nat.{mod-eq_of_lt}
use lib.Bits.{bit_xor}
use lib.ListN.{get_or}
use Rattle.crc.proofs.Tables.{two_nibbles}
use Rattle.slicing.proofs.tables.ArrayU32512Tables.at.Goals as goal

pub returns : goal.returns
returns c =
    λ k there tabled.
    let t = c.args.self.now in
    let x = c.args.x in
    ap (λ (m : ℕ). bit_xor (get_or t (m * 32 + x % 16) 0) (get_or t (m * 32 + 16 + x / 16) 0)) (mod-eq_of_lt there)
    ∙ two_nibbles k 16 t tabled c.args.n x there (search rules)
