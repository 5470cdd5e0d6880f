-- `frames::buffer::data` meets its contract. Assumes nothing.
use mathlib.Core.Path.{◌≡◌, refl, sym, ap, ◌∙◌}
use mathlib.Core.Bool.{Bool, true, cond}
use mathlib.Core.List.{List, [], ◌++◌, append-nil}
use Prim.Native.Nat.{ℕ, ◌+◌, ◌-◌, ◌≤◌}
use native.Mathlib.Nat.{zero-add}
use native.Mathlib.Omega.{arith}
use lib.ListN.{length, take, drop}
use Rattle.fronts.specs.Frame.{header_size, frame_size, length_at, frame_at}
use Rattle.frames.specs.Buffer.{whole_at, data_at, data_place}
use Rattle.fronts.proofs.Fronts.{is-whole, whole-passed}
use Rattle.frames.proofs.buffer.data.Goals as goal

-- a whole frame begins at the first byte of s
all_there : (s : List ℕ) (r : Bool) → r ≡ whole_at s → r ≡ true → frame_size (length_at s) ≤ length s
unfolding whole_at
all_there s r is e = (whole-passed s (is-whole _ (sym is ∙ e))).there

-- L is what the header of s announces
announced : (s : List ℕ) (L : ℕ) → L ≡ length_at (s ++ []) → L ≡ length_at s
announced s L is = is ∙ ap length_at (append-nil s)

pub slice_bounds-result-end : goal.slice_bounds-result-end
slice_bounds-result-end c =
    let s = c.args.s.now in
    omega (arith, all_there s c.whole.result c.whole.ensures c.if-whole.true, announced s c.length_at-end.result c.length_at-end.ensures.0)

pub returns-then-whole : goal.returns-then-whole
unfolding data_at data_place whole_at frame_at
returns-then-whole c =
    let s = c.args.s.now in
    let yes = sym c.whole.ensures ∙ c.if-whole.true in
    let n : header_size + c.length_at-end.result - header_size ≡ length_at s =
    omega (arith, announced s c.length_at-end.result c.length_at-end.ensures.0) in
    record {
      result_value = ap (λ (k : ℕ). take k (drop header_size s)) n ∙ sym (ap (λ (b : Bool). cond b (frame_at s).payload []) yes);
      ref_ptr_value = (refl, sym (ap (λ (b : Bool). cond b header_size 0 + c.args.s.ref_ptr.1) yes));
    }

pub returns-else-whole : goal.returns-else-whole
unfolding data_at data_place whole_at frame_at
returns-else-whole c =
    let o = c.args.s in
    let no = sym c.whole.ensures ∙ c.if-whole.false in
    record {
      result_value = sym (ap (λ (b : Bool). cond b (frame_at o.now).payload []) no);
      ref_ptr_value = (refl, sym (ap (λ (b : Bool). cond b header_size 0 + o.ref_ptr.1) no ∙ zero-add o.ref_ptr.1));
    }
