-- `frames::scan::quiet` meets its contract. The loop's invariant: the call goes on at where the scan stands. Assumes nothing.
use mathlib.Core.Path.{◌≡◌, refl, sym, ap, ◌∙◌}
use mathlib.Core.Bool.{false, false≢true}
use mathlib.Core.List.{List, [], ◌++◌}
use Prim.Native.Nat.{ℕ, ◌+◌, ◌<◌}
use native.Mathlib.Omega.{arith}
use lib.ListN.{length, drop}
use lib.Seq.{slice, drop-length}
use Rattle.fronts.specs.declared.front.Front.{Front}
use Rattle.fronts.specs.declared.front.Front.TheVariants.{Whole}
use Rattle.fronts.specs.Fronts.{front_of, is_whole}
use Rattle.frames.specs.Scans.{Headless}
use Rattle.frames.specs.LiveReading.{with_frame, without_frame, quiet_call}
use Rattle.frames.proofs.Wholes.{equality_is_whole, whole_is}
use Rattle.frames.proofs.Turns.{quiet-whole, quiet-ends}
use Rattle.frames.proofs.Positions.{to_end, quiet-drops-at, quiet_end_at}
use Rattle.frames.proofs.Stretches.{quiet-headless-at}
use Rattle.frames.proofs.scan.quiet.Goals as goal

-- where the front is judged, as f
module _ (a : List ℕ) (at : ℕ) (goes_on : quiet_call a 0 ≡ quiet_call (drop at a) at) (f : Front)
    (is : f ≡ front_of (slice at (length a) (a ++ []))) where
  judged : front_of (drop at a) ≡ f
  judged = sym (ap front_of (to_end a at (length a) refl)) ∙ sym is

  -- any other front than a whole one loses its byte, and those up to r
  drops : (r : ℕ) → is_whole f ≡ false → at < length a → Headless a (at + 1) (length a) r → quiet_call a 0 ≡ quiet_call (drop r a) r
  drops r w k h = goes_on ∙ quiet-drops-at a at k (ap is_whole judged ∙ w) ∙ quiet-headless-at a (at + 1) r h

pub loop-at-init : goal.loop-at-init
loop-at-init c = (omega arith, (refl, refl))

pub returns-then-eq : goal.returns-then-eq
returns-then-eq c =
    let a = c.args.a.now in
    let at = c.loop-at.at in
    let f = c.front_at.result in
    let is : f ≡ Whole = whole_is f (sym (equality_is_whole f) ∙ sym c.if-eq.ensures) in
    let whole : front_of (drop at a) ≡ Whole = judged a at c.loop-at.invariant.1.1 f c.front_at.ensures ∙ is in
    record {
      stop =
          record {
            ordered = omega arith;
            within = omega arith;
            taken = omega arith;
            small = omega arith;
            whole = λ _. ap front_of (to_end a at (length a) refl) ∙ whole;
          };
      is = c.loop-at.invariant.1.1 ∙ quiet-whole (drop at a) at whole ∙ quiet_end_at a at with_frame;
    }

pub loop-at-smaller : goal.loop-at-smaller
loop-at-smaller c = let o = c.next_head-at.ensures.ordered in omega arith

pub loop-at-preserved : goal.loop-at-preserved
loop-at-preserved c =
    let h = c.next_head-at in
    let f = c.front_at.result in
    let other : is_whole f ≡ false = sym (equality_is_whole f) ∙ sym c.if-eq.ensures in (
      h.ensures.within,
      (
        refl,
        drops c.args.a.now c.loop-at.at c.loop-at.invariant.1.1 f c.front_at.ensures h.result other (omega arith) h.ensures,
      ),
    )

pub returns : goal.returns
returns c =
    let a = c.args.a.now in
    let at = c.loop-at.at in
    let none : drop at a ≡ [] = ap (λ (k : ℕ). drop k a) (let e : at ≡ length a = omega arith in e) ∙ drop-length a in
    record {
      stop = record {
        ordered = omega arith;
        within = omega arith;
        taken = omega arith;
        small = omega arith;
        whole = λ e. absurd (false≢true e);
      };
      is =
          c.loop-at.invariant.1.1
          ∙ ap (λ (h : List ℕ). quiet_call h at) none
          ∙ quiet-ends at
          ∙ ap (λ (h : List ℕ). without_frame 0 h at) (sym none)
          ∙ quiet_end_at a at without_frame;
    }
