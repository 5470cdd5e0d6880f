-- An exchange, one request after the other. Assumes nothing.
use mathlib.Core.Path.{◌≡◌, ap}
use mathlib.Core.List.{List, ◌∷◌}
use Prim.Native.Nat.{ℕ, suc}
use Rattle.fronts.specs.Frame.{Frame}
use Rattle.sender.specs.declared.decision.Decision.{Decision}
use Rattle.sender.specs.declared.decision.Decided.{Decided}
use Rattle.sender.specs.declared.sender.Sender.{Sender}
use Rattle.sender.specs.Requests.{request_of}
use Rattle.sender.specs.Exchanges.{Exchange, exchange}

-- one request more in front
abbrev pub then : Frame → Decision → Exchange → Exchange
then f d e = record { requests = f ∷ e.requests; decisions = d ∷ e.decisions; sender = e.sender }

-- one step, what comes of the request being known
pub exchange-step : (heard : Sender → Decided) (n : ℕ) (s : Sender) (image : List ℕ) (d : Decided) → heard s ≡ d
    → exchange heard (suc n) s image ≡ then (request_of s image) d.decision (exchange heard n d.next image)
unfolding exchange
exchange-step heard n s image d e =
    ap (λ (x : Decided). then (request_of s image) x.decision (exchange heard n x.next image)) e
