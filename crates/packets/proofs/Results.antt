-- What the answers leave, each by itself. Assumes nothing.
use mathlib.Core.Path.{◌≡◌, refl, ap, ◌∙◌}
use mathlib.Core.Bool.{Bool, true, false, not, ◌&&◌}
use mathlib.Core.List.{List}
use Prim.Native.Nat.{ℕ, ◌+◌, ◌≤◌}
use native.Mathlib.Omega.{arith}
use borrow.Author.Tests.{ne_eqb}
use lib.Dec.{eqb}
use lib.ListN.{length}
use Rattle.requests.specs.declared.request.RequestFD.{RequestFD}
use Rattle.replies.specs.Replies.{reply_state}
use Rattle.transfer.specs.declared.state.Transfer.{Transfer}
use Rattle.transfer.specs.declared.state.Step.{Step}
use Rattle.transfer.specs.Transfers.{replied, Effect, unwritten}
use Rattle.sequences.proofs.Places.{written-fits}
use Rattle.image.specs.declared.progress.Progress.{Progress}
use Rattle.image.proofs.Storing.{storing-fits}
use Rattle.commands.specs.Limits.{max_next}
use Rattle.packets.specs.FD.{repeats, state_fd, takes, numbered_on, after_packet, area_with}
use Rattle.packets.specs.FD.{effect_fd, answer_fd, area_fd, PacketStored, StoresPackets}
use Rattle.packets.specs.FD.{PacketUntaken, UntakenPackets, TakesExactly}
use Rattle.packets.proofs.Packets.{taken, taken-state, acceptable, accepted-taken}

and_false : (b : Bool) → (b && false) ≡ false
and_false true = refl
and_false false = refl

module _ (t : Transfer) (r : RequestFD) (p area : List ℕ) where
  -- what a packet does, by whether it is taken
  abbrev reply : List ℕ
  reply = reply_state r.channel (state_fd t r p area)

  pub effect-taken : takes t r p area ≡ true → effect_fd t r p area
      ≡ record { gives = replied (after_packet t p area) reply; area = area_with t p area }
  unfolding effect_fd
  effect-taken e = rw e

  pub effect-not-taken : takes t r p area ≡ false → effect_fd t r p area ≡ unwritten (replied t reply) area
  unfolding effect_fd
  effect-not-taken e = rw e

  -- a packet taken, answered 00: it is written from place stored on
  pub packet-stored : takes t r p area ≡ true → area_fd t r p area ≡ area_with t p area
  packet-stored e = ap (λ (x : Effect Step). x.area) (effect-taken e)

  pub packet-counted : takes t r p area ≡ true → answer_fd t r p area ≡ replied (after_packet t p area) (reply_state r.channel 0)
  packet-counted e =
      ap (λ (x : Effect Step). x.gives) (effect-taken e)
      ∙ ap (λ (n : ℕ). replied (after_packet t p area) (reply_state r.channel n)) (taken-state t r p area e)

  pub stores-packet : t.image.announced ≤ length area → takes t r p area ≡ true → PacketStored t r p area
  stores-packet inside e =
      let there : t.progress.stored + length p ≤ length area = omega (arith, (taken t r p area e).fits) in
      record {
        written = packet-stored e ∙ written-fits area p t.progress.stored there;
        counted = packet-counted e
            ∙ ap (λ (q : Progress). replied (record { leg = numbered_on t.leg; progress = q; image = t.image; check = t.check })
            (reply_state r.channel 0)) (storing-fits t.progress p area there);
      }

  -- any other packet, repeated or refused, changes nothing: neither the area nor the transfer
  pub packet-not-taken : takes t r p area ≡ false → (area_fd t r p area ≡ area) × (answer_fd t r p area ≡ replied t reply)
  packet-not-taken e = (ap (λ (x : Effect Step). x.area) (effect-not-taken e), ap (λ (x : Effect Step). x.gives) (effect-not-taken e))

  pub packet-refused : (state_fd t r p area ≡ 0 → ⊥) → takes t r p area ≡ false
  unfolding takes
  packet-refused n = ap (λ (b : Bool). b && not (repeats t r p area)) (ne_eqb (state_fd t r p area) 0 n)

  packet-repeated : repeats t r p area ≡ true → takes t r p area ≡ false
  unfolding takes
  packet-repeated e = ap (λ (b : Bool). eqb (state_fd t r p area) 0 && not b) e ∙ and_false (eqb (state_fd t r p area) 0)

  none-next : t.leg.next ≡ max_next → takes t r p area ≡ false
  none-next last = go (takes t r p area) refl
    where
      go : (b : Bool) → takes t r p area ≡ b → b ≡ false
      go true e = let n = (taken t r p area e).within in absurd (omega arith)
      go false e = refl

  packet-untaken : PacketUntaken t r p area
  packet-untaken = record { not_taken = effect-not-taken; refused = packet-refused; repeated = packet-repeated; none-next = none-next }

pub untaken-packets : UntakenPackets
untaken-packets = packet-untaken

pub stores-packets : StoresPackets
stores-packets = stores-packet

pub takes_exactly : TakesExactly
takes_exactly t r p area = (acceptable t r p area, accepted-taken t r p area)
