-- Which transfer is whose. A session has one, whichever channel asks; opening makes it, and answers, outcome 9 and the claims reach it
-- through these definitions. Assumes nothing.
use Rattle.std.specs.Prelude.{ℕ}
use Rattle.transfer.specs.declared.state.Transfer.{Transfer}
use Rattle.session.specs.declared.session.Session.{Session}

-- what frames for this channel come to
abbrev pub transfer_on : Session → ℕ → Transfer
transfer_on s channel = s.transfer

-- 01: "the session's channel", and its transfer: of these speak outcome 9 and portions
abbrev pub own_transfer : Session → Transfer
own_transfer s = transfer_on s s.transfer.leg.channel

-- the session with another transfer there
abbrev pub with_transfer : Session → Transfer → Session
with_transfer s t = record { boards = s.boards; count = s.count; opened = s.opened; transfer = t }
