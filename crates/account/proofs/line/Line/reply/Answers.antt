-- `account::line::Line::reply` meets its contract. Assumes nothing.
use Rattle.std.proofs.Common.{◌≡◌, ℕ, List, length, sym, subst, rules, arith}
use Rattle.std.proofs.lemmas.Bool.Decides.{nat_tests}
use Rattle.account.specs.Texts.{max_line, Adds}
use Rattle.account.proofs.Adding.{adds-reply, hex_count, no-reply}
use Rattle.account.proofs.line.Line.reply.Goals as goal

pub returns-then-is_empty : goal.returns-then-is_empty
returns-then-is_empty c =
    let a = c.args in
    let none = no-reply a.reply.now (grind (arith, nat_tests)) in
    record { adds = subst (λ (t : List ℕ). Adds a.self t c.put.result) (sym none) c.put.ensures; count_bound = omega (arith, c.put.ensures.counts) }

pub overflow_add-self : goal.overflow_add-self
overflow_add-self c =
    let a = c.args in
    let good = c.well_formed in
    let size : length a.self.bytes ≡ max_line = search rules in
    omega (arith, hex_count a.self a.reply.now _ (omega arith) (omega arith) c.bytes.ensures.value)

pub returns : goal.returns
returns c =
    let a = c.args in
    let w = c.bytes.ensures in
    let good = c.well_formed in
    let size : length a.self.bytes ≡ max_line = search rules in
    record {
      adds = adds-reply a.self a.reply.now _ _ (omega arith) (omega arith) (grind (arith, nat_tests)) w.value w.room_after;
      count_bound = omega (arith, hex_count a.self a.reply.now _ (omega arith) (omega arith) w.value);
    }
