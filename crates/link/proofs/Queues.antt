-- The frames under way stay in the order in which they were sent. Assumes nothing.
use Rattle.std.proofs.Common.{◌≡◌, ℕ, ◌-◌, ◌*◌, ◌<◌, List, take, drop, sym, refl, ap, ◌∙◌, ap₂, ⊎_elim, arith, get_or-set_other, get_or-set_same, ne_eqb}
use Rattle.sequences.proofs.Orders.{lt_or_le}
use Rattle.sequences.proofs.Places.{written-there, written-before, written_behind}
use Rattle.link.specs.declared.frame.Frame.{Frame}
use Rattle.link.specs.declared.link.Head.{Head}
use Rattle.link.specs.declared.link.Link.{Link}
use Rattle.link.specs.Links.{no_head, head_of, ring_place, with_bytes, passed}
use Rattle.link.specs.Queues.{Fits, Behind, InOrder}
use Rattle.link.proofs.Rings.{apart, moved_up}

abbrev made : Head → List ℕ → Frame
made h s = record { way = h.way; bytes = s; length = h.length }

module _ (l : Link) (f : Frame) (memory : List ℕ) (fits : Fits l f memory) (most : l.count < 64) where
  abbrev p : ℕ
  p = ring_place l l.count

  abbrev after : List ℕ
  after = with_bytes l f memory

  in-ring : p < 64
  in-ring = omega arith

  -- other places are read as before
  bytes_stay : (q : ℕ) → (q ≡ p → ⊥) → take 526 (drop (q * 526) after) ≡ take 526 (drop (q * 526) memory)
  bytes_stay q other =
      let b = f.bytes in
      let size = fits.bytes in
      let room = fits.room in
      let below = in-ring in
      ⊎_elim
      (λ before. written-before memory b (p * 526) (q * 526) 526 (omega arith))
      (λ least. ⊎_elim (λ above. ap (take 526) (written_behind memory b (p * 526) (q * 526) (omega arith)))
      (λ same. absurd (other (omega arith))) (lt_or_le p q))
      (lt_or_le q p)

  behind : Behind l f memory
  behind =
      let size = fits.bytes in
      let room = fits.room in
      let heads = fits.heads in
      let below = in-ring in
      let back = ap (λ (n : ℕ). take n (drop (p * 526) after)) (sym size) ∙ written-there memory f.bytes (p * 526) (omega arith) in
      record {
        last = ap₂ made (get_or-set_same l.heads p (head_of f) no_head (omega arith)) back;
        others = λ i h.
            let other : ring_place l i ≡ p → ⊥ = apart l.first i l.count h most in
            ap₂ made (get_or-set_other l.heads p (ring_place l i) (head_of f) no_head other) (bytes_stay (ring_place l i) other);
      }

-- an arrival leaves one frame less
pub passed-count : (l : Link) → 0 < l.count → (passed l).count < l.count
passed-count l some =
    let fewer : l.count - 1 < l.count = omega arith in
    simp (ne_eqb _ _ (λ (none : l.count ≡ 0). absurd (omega arith))) fewer

pub in_order : InOrder
in_order =
    record {
      sent = behind;
      arrived = λ l some memory i.
          simp (ne_eqb _ _ (λ (none : l.count ≡ 0). absurd (omega arith)), moved_up l.first i (ring_place l 1) refl);
    }
