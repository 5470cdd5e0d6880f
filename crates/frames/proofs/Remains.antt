-- What every call of a run keeps, over any state, step and answer: what is still to come of the plain run stands in the bytes held and
-- not yet taken. Apparatus of demand 3's proof; the layers above cite its laws. Assumes nothing.
use mathlib.Core.Path.{◌≡◌, refl, sym, ap, ◌∙◌, subst}
use mathlib.Core.Bool.{cond}
use mathlib.Core.List.{List, [], ◌++◌, append_assoc, append-nil}
use Prim.Native.Nat.{ℕ, ◌+◌}
use native.Mathlib.Omega.{arith}
use lib.ListN.{drop}
use Rattle.sequences.specs.Bytes.{Bytes}
use Rattle.fronts.specs.Frame.{Frame}
use Rattle.frames.specs.Reading.{Reading, reading}
use Rattle.frames.specs.LiveReading.{CallResult, Call, called, due, called_then}
use Rattle.frames.specs.Series.{Series}
use Rattle.frames.specs.PlainRun.{Plain, plain, Begins}
use Rattle.sequences.proofs.Bytes.{bytes_drop}
use Rattle.frames.proofs.Readings.{reading-none, series-read}
use Rattle.frames.proofs.Calls.{call_law, call-keeps}
use Rattle.frames.proofs.PlainRuns.{plain-none, plain_maybe}

module _ {S R : Type 0} (step : S → Frame → S) (answer : S → Frame → List R) where
  -- the state after a call, and its replies
  abbrev pub state_after : CallResult → S → S
  state_after c s = cond c.found (step s c.frame) s

  abbrev pub replies_of : CallResult → S → List R
  replies_of c s = cond c.found (answer s c.frame) []

  -- in state s, with the replies so far, d bytes dropped, h held and r not yet taken, the rest of the plain run of fs from s₀ and the
  -- rest of n stray bytes are to come
  pub record Remains (s₀ : S) (fs : List Frame) (n : ℕ) (repliesSoFar : List R) (d : ℕ) (s : S) (h r : List ℕ) : Type 0 where
    pub state : (plain step answer s₀ fs).state ≡ (plain step answer s (reading (h ++ r)).frames).state
    pub replies : (plain step answer s₀ fs).replies ≡ repliesSoFar ++ (plain step answer s (reading (h ++ r)).frames).replies
    pub strays : n ≡ d + (reading (h ++ r)).dropped
    pub held : Bytes h
    pub coming : Bytes r

  -- before the first call, whatever the bytes
  pub remains-start : (s : S) (b : List ℕ) → Bytes b → Remains s (reading b).frames (reading b).dropped [] 0 s [] b
  remains-start s b p = record { state = refl; replies = refl; strays = omega arith; held = tt; coming = p }

  -- and of a series
  pub remains-series : (s : S) {b : List ℕ} {fs : List Frame} {n : ℕ} → Series b fs n → Bytes b → Remains s fs n [] 0 s [] b
  remains-series s {b} series p =
      subst (λ (x : Reading). Remains s x.frames x.dropped [] 0 s [] b) (series-read series) (remains-start s b p)

  -- c found and dropped what stands before r'
  remains-by :
      (c : CallResult) (r' : List ℕ) {s₀ : S} {fs : List Frame} {n : ℕ} {so_far : List R} {d : ℕ} {s : S} {h r : List ℕ}
      → reading (h ++ r) ≡ called_then c (reading (c.held ++ r')) → Bytes c.held → Bytes r' → Remains s₀ fs n so_far d s h r
      → Remains s₀ fs n (so_far ++ replies_of c s) (d + c.dropped) (state_after c s) c.held r'
  remains-by c r' {s₀} {fs} {n} {so_far} {d} {s} {h} {r} e p q m =
      let left = (reading (c.held ++ r')).frames in
      let x = ap (λ (y : Reading). plain step answer s y.frames) e ∙ plain_maybe step answer s c.found c.frame left in
      record {
        state = m.state ∙ ap (λ (y : Plain S R). y.state) x;
        replies =
            m.replies
            ∙ ap (λ (y : Plain S R). so_far ++ y.replies) x
            ∙ sym (append_assoc so_far (replies_of c s) (plain step answer (state_after c s) left).replies);
        strays = omega (arith, m.strays, ap (λ (y : Reading). y.dropped) e);
        held = p;
        coming = q;
      }

  -- a feeding call, or a quiet one once every byte is taken
  pub remains-called :
      (k : Call) {s₀ : S} {fs : List Frame} {n : ℕ} {so_far : List R} {d : ℕ} {s : S} (h r : List ℕ) → due k r
      → Remains s₀ fs n so_far d s h r
      → Remains s₀ fs n (so_far ++ replies_of (called k h r) s) (d + (called k h r).dropped) (state_after (called k h r) s)
      (called k h r).held (drop (called k h r).taken r)
  remains-called k h r u m =
      let c = called k h r in
      remains-by c (drop c.taken r) (call_law k h r u) ((call-keeps k h r).bytes m.held m.coming)
      (bytes_drop c.taken r m.coming) m

  -- the replies so far are the first of the plain run's
  pub remains-first :
      {s₀ : S} {fs : List Frame} {n : ℕ} {so_far : List R} {d : ℕ} {s : S} {h r : List ℕ} → Remains s₀ fs n so_far d s h r
      → Begins so_far (plain step answer s₀ fs).replies
  remains-first m = record { rest = _; joined = sym m.replies }

  -- nothing held and nothing left: state and replies are the plain run's, and the stray bytes were dropped
  pub remains-none :
      {s₀ : S} {fs : List Frame} {n : ℕ} {so_far : List R} {d : ℕ} {s : S} → Remains s₀ fs n so_far d s [] []
      → ((plain step answer s₀ fs).state ≡ s) × (((plain step answer s₀ fs).replies ≡ so_far) × (n ≡ d))
  remains-none {so_far = so_far} {s = s} m =
      let over : plain step answer s (reading []).frames ≡ record { state = s; replies = [] } =
      ap (λ (x : Reading). plain step answer s x.frames) reading-none ∙ plain-none step answer s in (
        m.state ∙ ap (λ (x : Plain S R). x.state) over,
        (
          m.replies ∙ ap (λ (x : Plain S R). so_far ++ x.replies) over ∙ append-nil so_far,
          omega (arith, m.strays, ap (λ (x : Reading). x.dropped) reading-none),
        ),
      )
