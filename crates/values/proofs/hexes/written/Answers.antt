-- `values::hexes::written` meets its contract. Assumes nothing.
use native.Mathlib.Omega.{arith}
use Rattle.std.proofs.lemmas.Bool.Decides.{nat_tests}
use Rattle.text.proofs.Texts.{one, texts_as}
use Rattle.values.proofs.Digits.{bytes-none, bytes-some}
use Rattle.values.proofs.hexes.written.Goals as goal

pub returns-then-is_empty : goal.returns-then-is_empty
returns-then-is_empty c = texts_as (bytes-none c.args.bytes.now (grind (arith, nat_tests))) (one c.text.ensures)

pub returns-else-is_empty : goal.returns-else-is_empty
returns-else-is_empty c = texts_as (bytes-some c.args.bytes.now (grind (arith, nat_tests))) c.digits.ensures
