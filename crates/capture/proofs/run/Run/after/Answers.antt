-- `capture::run::Run::after` meets its contract. Assumes nothing.
use Rattle.std.proofs.Common.{refl}
use Rattle.capture.proofs.run.Run.after.Goals as goal

pub returns : goal.returns
returns c =
    record { keeps = refl; goes_on = refl; takes = refl; tells = c.after-account.ensures }
