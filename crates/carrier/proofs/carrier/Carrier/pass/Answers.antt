-- `carrier::carrier::Carrier::pass` meets its contract. Assumes nothing.
use borrow.Author.Tests.{lt-ltb}
use mathlib.Core.Path.{refl}
use Rattle.text.specs.Outputs.{none}
use Rattle.carrier.specs.Sending.{passing}
use Rattle.carrier.proofs.Carrying.{carries_as}
use Rattle.carrier.proofs.Letters.{full-loses}
use Rattle.carrier.proofs.carrier.Carrier.pass.Goals as goal

pub returns-then-self-lt-PLACES : goal.returns-then-self-lt-PLACES
unfolding passing
returns-then-self-lt-PLACES c =
    record {
      links = c.with-self.ensures.value;
      leaves = refl;
      holds = c.with-self.ensures.memory_after;
      tells = simp (lt-ltb _ _ c.if-self-lt-PLACES.true) none;
    }

pub returns-else-self-lt-PLACES : goal.returns-else-self-lt-PLACES
returns-else-self-lt-PLACES c =
    let a = c.args in
    carries_as (full-loses a.self.link a.self.script a.memory.now a.frame c.if-self-lt-PLACES.false)
    (c.lose.ensures a.memory.now)
