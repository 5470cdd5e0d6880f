-- The claims about live reading, in one. Assumes nothing.
use Rattle.frames.specs.LiveReading.{LiveReads}
use Rattle.frames.proofs.Calls.{call-accepted, call-refused, call-keeps, quiet-emptied}
use Rattle.frames.proofs.FedAlone.{fed-alone, fed-written}

pub live_reads : LiveReads
live_reads =
    record {
      keeps = call-keeps;
      emptied = quiet-emptied;
      accepted = call-accepted;
      refusal = call-refused;
      alone = λ r f none small. fed-alone f small r none;
      written = λ r f room none ok. fed-written f room ok r none;
    }
