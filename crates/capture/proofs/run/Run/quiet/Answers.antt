-- `capture::run::Run::quiet` meets its contract. Assumes nothing.
use Rattle.capture.proofs.Turns.{passes-quiet}
use Rattle.capture.proofs.run.Run.quiet.Goals as goal

pub returns : goal.returns
returns c =
    passes-quiet c.after_quiet.ensures c.quiet-c.ensures c.after.ensures
