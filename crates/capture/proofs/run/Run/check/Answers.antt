-- `capture::run::Run::check` meets its contract. Assumes nothing.
use Rattle.std.proofs.Common.{refl}
use Rattle.capture.proofs.Turns.{checks-on}
use Rattle.capture.proofs.run.Run.check.Goals as goal

pub returns : goal.returns
returns c =
    checks-on c.portion-p.ensures (record { keeps = refl; tells = c.after_portion-self.ensures })
