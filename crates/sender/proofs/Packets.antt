-- The packet to send: its size and its number. Assumes nothing.
use mathlib.Core.Path.{◌≡◌, sym, ◌∙◌}
use mathlib.Core.Bool.{false}
use mathlib.Core.List.{List}
use mathlib.Core.Logic.{⊎_elim}
use Prim.Native.Nat.{ℕ, ◌*◌, ◌-◌, ◌/◌, ◌≤◌, ◌<◌}
use native.Mathlib.Nat.{le-mul_of_pos_right, div-lt_iff_lt-mul}
use native.Mathlib.Omega.{arith}
use borrow.Author.Tests.{ltb-true, ltb-false, lt-ltb, le-ltb}
use lib.Dec.{ltb}
use lib.ListN.{take, drop, length-take}
use lib.Seq.{take_all}
use Rattle.sequences.proofs.Orders.{lt_or_le}
use Rattle.sequences.proofs.Conditionals.{of_each}
use Rattle.commands.specs.Limits.{min_packet, max_packet}
use Rattle.sender.specs.declared.phase.Phase.TheVariants.{Sending}
use Rattle.sender.specs.declared.sender.Sender.{Sender}
use Rattle.sender.specs.Senders.{packet_size, next_size}
use Rattle.sender.specs.Rules.{breaks_rules}
use Rattle.sender.specs.Requests.{next_packet}
use Rattle.sender.specs.Replies.{AtPacket}
use Rattle.sender.proofs.RulesKept.{lawful}

-- a number above a quotient
pub quotient_below : (x k y : ℕ) → 0 < k → ltb (x / k) y ≡ ltb x (y * k)
quotient_below x k y some =
    let iff = div-lt_iff_lt-mul {k = k} {x = x} {y = y} some in
    ⊎_elim (λ h. lt-ltb (x / k) y h ∙ sym (lt-ltb x (y * k) (iff.0 h)))
    (λ h. le-ltb (x / k) y h ∙ sym (le-ltb x (y * k) (not_below (x / k) y x (y * k) h iff.1))) (lt_or_le (x / k) y)
  where
    not_below : (a b c d : ℕ) → b ≤ a → (c < d → a < b) → d ≤ c
    not_below a b c d h f = ⊎_elim (λ l. let z = f l in absurd (omega arith)) (λ l. l) (lt_or_le c d)

-- 16 to 512 bytes
pub packet-some : (size : ℕ) → min_packet ≤ size → min_packet ≤ packet_size size
packet-some size h = of_each (λ (n : ℕ). min_packet ≤ n) (ltb size max_packet) size max_packet (λ e. h) (λ e. omega arith)

pub packet-most : (size : ℕ) → packet_size size ≤ max_packet
packet-most size =
    of_each (λ (n : ℕ). n ≤ max_packet) (ltb size max_packet) size max_packet (λ e. let h = ltb-true size max_packet e in omega arith)
    (λ e. omega arith)

-- no more than a packet, and no more than is left
pub next_fits : (s : Sender) → (next_size s ≤ packet_size s.offer.size) × (next_size s ≤ s.offer.length - s.position.place)
unfolding next_size
next_fits s =
    let left = s.offer.length - s.position.place in
    let packet = packet_size s.offer.size in
    of_each (λ (n : ℕ). (n ≤ packet) × (n ≤ left)) (ltb left packet) left packet
    (λ e. let h = ltb-true left packet e in (omega arith, omega arith)) (λ e. (omega arith, ltb-false left packet e))

pub next-short : (s : Sender) → next_size s ≤ max_packet
next-short s = omega (arith, next_fits s, packet-most s.offer.size)

-- all of the packet is sent
pub packet-whole : (s : Sender) (image : List ℕ) → take max_packet (next_packet s image) ≡ next_packet s image
packet-whole s image =
    take_all max_packet (next_packet s image) (omega (arith, next-short s, length-take (next_size s) (drop s.position.place image)))

pub at-packet : (s : Sender) → breaks_rules s ≡ false → s.position.phase ≡ Sending → AtPacket s
at-packet s ok is =
    let l = lawful s ok in
    let n = s.position.number in
    let place = l.sending is in
    let numbered = l.numbered is in
    let packet = packet-some s.offer.size l.least_size in
    let number : n ≤ n * packet_size s.offer.size = le-mul_of_pos_right n (omega arith) in
    record { place-fits = omega arith; length-fits = l.most-image; number_fits = omega (arith, l.most-image) }
