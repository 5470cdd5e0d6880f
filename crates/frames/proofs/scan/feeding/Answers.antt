-- `frames::scan::feeding` meets its contract. The loop's invariant: the call goes on from where the scan stands. Assumes nothing.
use mathlib.Core.Path.{◌≡◌, sym, ap, ◌∙◌}
use mathlib.Core.Bool.{false≢true}
use mathlib.Core.List.{List, ◌++◌}
use Prim.Native.Nat.{ℕ, ◌+◌, ◌-◌, ◌≤◌, ◌<◌}
use native.Mathlib.Omega.{arith}
use lib.ListN.{length, length-append}
use lib.Seq.{slice}
use Rattle.fronts.specs.Frame.{max_frame}
use Rattle.fronts.specs.declared.front.Front.{Front}
use Rattle.fronts.specs.declared.front.Front.TheVariants.{Whole, Dead, Open}
use Rattle.fronts.specs.Fronts.{front_of, Missing}
use Rattle.frames.specs.LiveReading.{without_frame}
use Rattle.frames.proofs.Positions.{feeding_at, feeding-start, dead-some, feeding-dead-at, feeding-waits-at, waits-room}
use Rattle.frames.proofs.Positions.{feeding-whole-at, feeding-ends-at}
use Rattle.frames.proofs.Stretches.{feeding-headless-at}
use Rattle.frames.proofs.scan.feeding.Goals as goal

-- where a front is dead
dead-loses : (v : List ℕ) (n from to : ℕ) (f : Front) → from ≤ to → f ≡ front_of (slice from to v) → f ≡ Dead → from < to
dead-loses v n from to f h is e = dead-some v n from to h (sym is ∙ e)

-- where the bytes up to the next test are taken, as far as they are there: k of the m that it is short of
module _ (v : List ℕ) (n from to m k : ℕ) (undecided : Missing v from to m) (least : k ≡ m - (m - (length v - to)))
    (order : from ≤ to) (held : n ≤ to) (below : to < length v) where
  some : 0 < k
  some = omega (arith, undecided.some)

  there : to + k ≤ length v
  there = omega arith

  stays : (t : ℕ) → to ≤ t → t < to + k → front_of (slice from t v) ≡ Open
  stays t h j = undecided.undecided t h (omega arith) (omega (arith, there))

  room : to + k ≤ from + max_frame
  room = waits-room v n from to k order some there stays

  waits : feeding_at v n from to ≡ feeding_at v n from (to + k)
  waits = feeding-waits-at v n from to k order there held stays

pub overflow_add-all : goal.overflow_add-all
overflow_add-all c = omega arith

pub loop-from-init : goal.loop-from-init
loop-from-init c =
    let o = c.args in
    (omega arith, (omega arith, (omega arith, (omega arith, feeding-start o.a.now o.b.now))))

pub returns-in-Whole : goal.returns-in-Whole
returns-in-Whole c =
    let o = c.args in
    let l = c.loop-from in
    let v = o.a.now ++ o.b.now in
    let whole : front_of (slice l.from l.to v) ≡ Whole = sym c.front_at.ensures ∙ c.in-Whole.is in
    record {
      stop = record { ordered = omega arith; within = omega arith; taken = omega arith; small = omega arith; whole = λ _. whole };
      is = l.invariant.1.1.1.1 ∙ feeding-whole-at v (length o.a.now) l.from l.to whole;
    }

pub overflow_add-from : goal.overflow_add-from
overflow_add-from c = omega arith

pub next_head_of-from-requires : goal.next_head_of-from-requires
next_head_of-from-requires c =
    let o = c.args in
    let l = c.loop-from in
    let some =
    dead-loses (o.a.now ++ o.b.now) (length o.a.now) l.from l.to c.front_at.result (omega arith) c.front_at.ensures c.in-Dead.is in
    omega (arith, some)

pub loop-from-smaller-in-Dead : goal.loop-from-smaller-in-Dead
loop-from-smaller-in-Dead c =
    let o = c.args in
    let l = c.loop-from in
    let some =
    dead-loses (o.a.now ++ o.b.now) (length o.a.now) l.from l.to c.front_at.result (omega arith) c.front_at.ensures c.in-Dead.is in
    let ordered = c.next_head_of-from.ensures.ordered in
    omega (arith, some)

pub loop-from-preserved-in-Dead : goal.loop-from-preserved-in-Dead
loop-from-preserved-in-Dead c =
    let x = c.args in
    let l = c.loop-from in
    let v = x.a.now ++ x.b.now in
    let n = length x.a.now in
    let at = c.next_head_of-from in
    let o = at.ensures.ordered in
    let w = at.ensures.within in
    let dead : front_of (slice l.from l.to v) ≡ Dead = sym c.front_at.ensures ∙ c.in-Dead.is in
    let some = dead-some v n l.from l.to (omega arith) dead in
    let size = length-append x.a.now x.b.now in
    let end : l.to ≤ length v = omega (arith, size) in
    let on =
    feeding-dead-at v n l.from l.to some end dead
    ∙ feeding-headless-at v n (l.from + 1) l.to (n + length x.b.now) at.result (omega arith) end (omega arith) (omega (arith, size)) at.ensures
    ∙ ap (feeding_at v n at.result) (sym c.larger-to.ensures) in
    (omega arith, (omega arith, (omega arith, (omega arith, l.invariant.1.1.1.1 ∙ on))))

pub returns-then-to-all : goal.returns-then-to-all
returns-then-to-all c =
    let o = c.args in
    let l = c.loop-from in
    let v = o.a.now ++ o.b.now in
    let n = length o.a.now in
    let undecided : front_of (slice l.from l.to v) ≡ Open = sym c.front_at.ensures ∙ c.in-Open.is in
    let last : l.to ≡ length v = omega (arith, length-append o.a.now o.b.now) in
    record {
      stop = record {
        ordered = omega arith;
        within = omega arith;
        taken = omega arith;
        small = omega arith;
        whole = λ e. absurd (false≢true e);
      };
      is =
          l.invariant.1.1.1.1
          ∙ feeding-ends-at v n l.from l.to last undecided
          ∙ ap (λ (k : ℕ). without_frame (k - n) (slice l.from k v) l.from) c.if-to-all.true;
    }

pub overflow_sub-all : goal.overflow_sub-all
overflow_sub-all c = omega arith

pub overflow_add-to : goal.overflow_add-to
overflow_add-to c = omega arith

pub loop-from-smaller : goal.loop-from-smaller
loop-from-smaller c =
    let undecided = c.missing.ensures (omega arith) (omega arith) (sym c.front_at.ensures ∙ c.in-Open.is) in
    omega (arith, undecided.some)

pub loop-from-preserved : goal.loop-from-preserved
loop-from-preserved c =
    let o = c.args in
    let l = c.loop-from in
    let v = o.a.now ++ o.b.now in
    let n = length o.a.now in
    let k = c.smaller-to.result in
    let m = c.missing.result in
    let size = length-append o.a.now o.b.now in
    let undecided = c.missing.ensures (omega arith) (omega arith) (sym c.front_at.ensures ∙ c.in-Open.is) in
    let least : k ≡ m - (m - (length v - l.to)) = omega (arith, size, c.smaller-to.ensures) in
    let order : l.from ≤ l.to = omega arith in
    let held : n ≤ l.to = omega arith in
    let below : l.to < length v = omega (arith, size) in
    let more = there v n l.from l.to m k undecided least order held below in (
      omega arith,
      (
        omega (arith, more, size),
        (
          omega arith,
          (
            room v n l.from l.to m k undecided least order held below,
            l.invariant.1.1.1.1 ∙ waits v n l.from l.to m k undecided least order held below,
          ),
        ),
      ),
    )
