-- The sender opens with what the words of the program can say. Assumes nothing.
use mathlib.Core.Path.{◌≡◌}
use Prim.Native.Nat.{ℕ, ◌<◌, ◌≤◌}
use native.Mathlib.Omega.{arith}
use borrow.Author.Tests.{le-ltb, ne_eqb}
use Rattle.commands.specs.Limits.{min_packet, max_area}
use Rattle.sender.specs.Opening.{opened_sender}
use Rattle.ends.specs.Ends.{image_offer, open_sender}

pub sender-opens : (channel size n : ℕ) → min_packet ≤ size → 0 < n → n ≤ max_area
    → (opened_sender (image_offer channel size n)).sender ≡ open_sender channel size n
unfolding opened_sender
sender-opens channel size n least some most =
    let e1 = le-ltb size min_packet least in
    let e2 = ne_eqb n 0 (λ z. omega arith) in
    let e3 = le-ltb max_area n most in
    simp (e1, e2, e3)
