-- `frames::result::stopped` meets its contract: with a frame, and without one. Assumes nothing.
use mathlib.Core.Path.{◌≡◌, sym, ap, ap₂, ◌∙◌}
use mathlib.Core.Bool.{Bool, true, false, cond}
use mathlib.Core.List.{List, ◌++◌}
use Prim.Native.Nat.{ℕ, ◌+◌, ◌-◌, ◌≤◌}
use native.Mathlib.Omega.{arith}
use lib.ListN.{length, drop, length-append}
use lib.Seq.{slice, length-slice}
use Rattle.fronts.specs.Frame.{frame_size, length_at, frame_at}
use Rattle.fronts.specs.Fronts.{front_of}
use Rattle.fronts.specs.declared.front.Front.TheVariants.{Whole}
use Rattle.frames.specs.LiveReading.{with_frame, without_frame, holding, handed_back}
use Rattle.frames.specs.Scans.{Stop, held_at}
use Rattle.frames.specs.Finished.{finished}
use Rattle.frames.specs.declared.scan.Scan.{Scan}
use Rattle.frames.specs.declared.reader.Reader.{Reader}
use Rattle.frames.specs.declared.finished.FinishedFrame.{FinishedFrame}
use Rattle.sequences.proofs.Slices.{drop-slice}
use Rattle.frames.proofs.FinishedFrames.{finished-length}
use Rattle.fronts.proofs.Fronts.{whole-passed}
use Rattle.fronts.proofs.Encodings.{payload-size}
use Rattle.frames.proofs.result.stopped.Goals as goal

-- what is held where the scan stops, and a frame stands there
module _ (a b : List ℕ) (s : Scan) (stop : Stop a b s) (yes : s.found ≡ true) where
  abbrev all : List ℕ
  all = a ++ b

  abbrev held : List ℕ
  held = held_at a b s

  whole : front_of held ≡ Whole
  whole = stop.whole yes

  module _ (f : FinishedFrame) (is : f ≡ finished (frame_at held)) where
    L-is : f.length ≡ length_at held
    L-is = ap (λ (g : FinishedFrame). g.length) is ∙ finished-length (frame_at held) ∙ payload-size held whole

    rest : s.from + frame_size f.length ≤ s.to
    rest =
        omega (
          arith,
          stop,
          L-is,
          (whole-passed held whole).there,
          length-slice s.from s.to all (omega (arith, stop, length-append a b)),
        )

    behind : holding (slice (s.from + frame_size f.length) s.to all) ≡ holding (drop (frame_size (length_at held)) held)
    behind =
        ap holding
        (ap (λ (k : ℕ). slice (s.from + frame_size k) s.to all) L-is ∙ sym (drop-slice s.from s.to (frame_size (length_at held)) all))

pub frame_at-frame-requires : goal.frame_at-frame-requires
frame_at-frame-requires c = let o = c.requires in (o.ordered, (o.within, o.whole c.if-s.true))

pub overflow_add-rest : goal.overflow_add-rest
overflow_add-rest c =
    let o = c.args in
    omega (arith, rest o.a.now o.b.now o.s c.requires c.if-s.true c.frame_at-frame.result c.frame_at-frame.ensures)

pub overflow_add-rest-then-s : goal.overflow_add-rest-then-s
overflow_add-rest-then-s c =
    let o = c.args in
    omega (arith, rest o.a.now o.b.now o.s c.requires c.if-s.true c.frame_at-frame.result c.frame_at-frame.ensures)

pub hold-next-requires : goal.hold-next-requires
hold-next-requires c =
    let o = c.args in
    let rest = rest o.a.now o.b.now o.s c.requires c.if-s.true c.frame_at-frame.result c.frame_at-frame.ensures in
    omega (arith, rest, c.requires)

pub returns-then-s : goal.returns-then-s
unfolding with_frame
returns-then-s c =
    let o = c.args in
    let h = held_at o.a.now o.b.now o.s in
    let from = o.s.from in
    let taken = o.s.to - length o.a.now in
    let next : c.hold-next.result ≡ holding (drop (frame_size (length_at h)) h) =
    c.hold-next.ensures ∙ behind o.a.now o.b.now o.s c.requires c.if-s.true c.frame_at-frame.result c.frame_at-frame.ensures in
    ap₂ (λ (r : Reader) (f : FinishedFrame). record { next = r; taken = taken; dropped = from; found = true; frame = f }) next
    c.frame_at-frame.ensures
    ∙ ap (λ (b : Bool). handed_back (cond b (with_frame taken h from) (without_frame taken h from)))
    (sym c.if-s.true)

pub returns : goal.returns
returns c =
    let h = held_at c.args.a.now c.args.b.now c.args.s in
    let from = c.args.s.from in
    let taken = c.args.s.to - length c.args.a.now in
    ap₂ (λ (r : Reader) (f : FinishedFrame). record { next = r; taken = taken; dropped = from; found = false; frame = f })
    c.hold-next-2.ensures c.no_frame-frame.ensures
    ∙ ap (λ (b : Bool). handed_back (cond b (with_frame taken h from) (without_frame taken h from))) (sym c.if-s.false)
