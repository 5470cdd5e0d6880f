-- `requests::request::packet` meets its contract. Assumes nothing.
use borrow.Author.Tests.{lt-ltb, le-ltb}
use mathlib.Core.Path.{◌≡◌, refl, sym, ap, ◌∙◌}
use mathlib.Core.Bool.{Bool, true, false, cond, ◌||◌}
use Prim.Native.Nat.{ℕ, ◌+◌}
use native.Mathlib.Nat.{zero-add}
use lib.Dec.{ltb}
use Rattle.fronts.specs.Frame.{max_data}
use Rattle.requests.specs.Requests.{packet_of, packet_place}
use Rattle.requests.proofs.request.packet.Goals as goal
use Rattle.requests.proofs.request.packet.Goals.{then-length-lt-PACKET-via-then-length-lt-PACKET, then-length-lt-PACKET-via-else-length-lt-PACKET+then-length-gt-MAX_DATA}

-- too little for an FD or too much for a frame: the part begins at the first byte; else at FD's bytes
unfit : (L at : ℕ) → (ltb L 7 || ltb max_data L) ≡ true → at ≡ packet_place L + at
unfolding packet_place
unfit L at e = sym (ap (λ (b : Bool). cond b 0 7 + at) e ∙ zero-add at)

fit : (L at : ℕ) → (ltb L 7 || ltb max_data L) ≡ false → 7 + at ≡ packet_place L + at
unfolding packet_place
fit L at e = sym (ap (λ (b : Bool). cond b 0 7 + at) e)

pub returns-then-length-lt-PACKET : goal.returns-then-length-lt-PACKET
unfolding packet_of
returns-then-length-lt-PACKET c =
    let L = c.args.length in
    let e : (ltb L 7 || ltb max_data L) ≡ true =
    elim c.then-length-lt-PACKET.branch [
      | then-length-lt-PACKET-via-then-length-lt-PACKET w ↦ simp (lt-ltb _ _ w.if-length-lt-PACKET.true)
      | then-length-lt-PACKET-via-else-length-lt-PACKET+then-length-gt-MAX_DATA w ↦
          simp (le-ltb _ _ w.if-length-lt-PACKET.false, lt-ltb _ _ w.if-length-gt-MAX_DATA.true)
    ] in
    record { result_value = simp e; ref_ptr_value = (refl, unfit L _ e) }

pub returns : goal.returns
unfolding packet_of
returns c =
    let e = le-ltb _ _ c.if-length-lt-PACKET.false in
    let e2 = le-ltb _ _ c.if-length-gt-MAX_DATA.false in
    record { result_value = simp (e, e2); ref_ptr_value = (refl, fit _ _ (simp (e, e2))) }
