-- `packets::fd::answer` meets its contract. Assumes nothing.
use mathlib.Core.Path.{◌≡◌, sym, ap, ◌∙◌}
use mathlib.Core.Bool.{Bool, ◌&&◌}
use mathlib.Core.List.{List}
use Prim.Native.Nat.{ℕ}
use lib.Dec.{eqb}
use Rattle.requests.specs.declared.request.RequestFD.{RequestFD}
use Rattle.transfer.specs.declared.state.Transfer.{Transfer}
use Rattle.transfer.specs.declared.state.Step.{Step}
use Rattle.replies.specs.Replies.{reply_state}
use Rattle.transfer.specs.Transfers.{replied, Effect}
use Rattle.packets.specs.FD.{state_fd, takes, after_packet}
use Rattle.packets.proofs.Packets.{taken, takes-next}
use Rattle.packets.proofs.Results.{effect-taken, effect-not-taken}
use Rattle.packets.proofs.fd.answer.Goals as goal

-- what was tested is whether the packet is taken
is-taken : (t : Transfer) (r : RequestFD) (p area : List ℕ) (state : ℕ) (b : Bool) → state ≡ state_fd t r p area
    → b ≡ (eqb state 0 && eqb r.number t.leg.next) → takes t r p area ≡ b
is-taken t r p area state b e f =
    sym (takes-next t r p area) ∙ ap (λ (n : ℕ). eqb n 0 && eqb r.number t.leg.next) (sym e) ∙ sym f

pub after_packet-next-requires : goal.after_packet-next-requires
after_packet-next-requires c =
    let o = c.args in
    let it = is-taken o.t o.r o.packet.now o.area.now _ _ c.packet_state-state.ensures
    c.stores.ensures in
    (taken o.t o.r o.packet.now o.area.now (it ∙ c.if-stores.true)).within

pub returns-then-stores : goal.returns-then-stores
returns-then-stores c =
    let o = c.args in
    let state = c.packet_state-state.ensures in
    let it = is-taken o.t o.r o.packet.now o.area.now _ _ state c.stores.ensures ∙ c.if-stores.true in
    let effect = effect-taken o.t o.r o.packet.now o.area.now it in
    let stored = c.after_packet-next.ensures in
    let given : c.replied.result ≡ replied (after_packet o.t o.packet.now o.area.now)
    (reply_state o.r.channel (state_fd o.t o.r o.packet.now o.area.now)) =
    simp (← state, c.state-reply.ensures, stored.0, c.replied.ensures) in
    (given ∙ sym (ap (λ (x : Effect Step). x.gives) effect), stored.1 ∙ sym (ap (λ (x : Effect Step). x.area) effect))

pub returns : goal.returns
returns c =
    let o = c.args in
    let state = c.packet_state-state.ensures in
    let it = is-taken o.t o.r o.packet.now o.area.now _ _ state c.stores.ensures ∙ c.if-stores.false in
    let effect = effect-not-taken o.t o.r o.packet.now o.area.now it in
    let given : c.replied-2.result ≡ replied o.t (reply_state o.r.channel (state_fd o.t o.r o.packet.now o.area.now)) =
    simp (← state, c.state-reply.ensures, c.replied-2.ensures) in
    (given ∙ sym (ap (λ (x : Effect Step). x.gives) effect), sym (ap (λ (x : Effect Step). x.area) effect))
