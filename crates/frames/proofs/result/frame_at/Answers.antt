-- `frames::result::frame_at` meets its contract. Assumes nothing.
use mathlib.Core.Path.{◌≡◌, sym, ap, ap₂, ◌∙◌}
use mathlib.Core.List.{List, [], ◌++◌}
use Prim.Native.Nat.{ℕ, ◌+◌, ◌-◌, ◌≤◌}
use native.Mathlib.Omega.{arith}
use lib.ListN.{length, take, drop, get_or, length-append}
use lib.Seq.{slice, length-slice}
use Rattle.fronts.specs.Frame.{max_data, header_size, frame_size, length_at, frame_at}
use Rattle.sequences.specs.Padding.{zeros, padded}
use Rattle.sequences.specs.Places.{written_at}
use Rattle.fronts.specs.Fronts.{front_of}
use Rattle.fronts.specs.declared.front.Front.TheVariants.{Whole}
use Rattle.frames.specs.Finished.{finished}
use Rattle.sequences.proofs.Slices.{get_or-slice, take-slice, drop-slice}
use Rattle.fronts.proofs.Looks.{length_seen}
use Rattle.sequences.proofs.Padding.{padded-more}
use Rattle.fronts.proofs.Fronts.{Passed, whole-passed}
use Rattle.frames.proofs.result.frame_at.Goals as goal

-- the bytes at whose front the frame stands
module _ (a b : List ℕ) (from to : ℕ) (inside : to ≤ length a + length b) (whole : front_of (slice from to (a ++ b)) ≡ Whole) where
  abbrev all : List ℕ
  all = a ++ b

  abbrev s : List ℕ
  s = slice from to all

  end : to ≤ length all
  end = omega (arith, length-append a b)

  passed : Passed s
  passed = whole-passed s whole

  -- all of it is there
  there : from + frame_size (length_at s) ≤ to
  there = omega (arith, passed.there, length-slice from to all end)

  -- L is what its header announces
  module _ (L : ℕ) (is : L ≡ length_at (drop from all)) where
    announced : L ≡ length_at s
    announced = is ∙ length_seen from to all (omega (arith, there))

    fits : (from + frame_size L ≤ to) × (L ≤ max_data)
    fits = omega (arith, there, announced, passed.small)

    -- the frame of the bytes that are read and copied
    made : (v m : ℕ) (out : List ℕ) → v ≡ get_or all (from + 2) 0 → m ≡ get_or all (from + 3) 0
        → out ≡ written_at (zeros max_data) 0 (slice (from + 6) (from + 6 + L) all)
        → record { version = v; command = m; length = L; bytes = out } ≡ finished (frame_at s)
    unfolding finished frame_at
    made v m out rv rm ro =
        let place = from + header_size in
        let part = slice place (place + L) all in
        let k : place + L - place ≡ L = omega arith in
        let size : length part ≡ L = length-slice place (place + L) all (omega (arith, fits, end)) ∙ k in
        let payload : part ≡ take (length_at s) (drop header_size s) =
        sym (take-slice place to L all (omega (arith, fits)) end)
        ∙ ap (λ (i : ℕ). take i (slice place to all)) announced
        ∙ ap (take (length_at s)) (sym (drop-slice from to header_size all)) in
        let bytes = ro ∙ padded-more max_data [] part (omega (arith, size, fits)) ∙ ap (padded max_data) payload in
        let version = rv ∙ sym (get_or-slice from to 2 all (omega (arith, fits))) in
        let command = rm ∙ sym (get_or-slice from to 3 all (omega (arith, fits))) in
        ap₂ (λ (v m : ℕ). record { version = v; command = m; length = L; bytes = out }) version command
        ∙ ap₂ (λ (i : ℕ) (l : List ℕ). record { version = get_or s 2 0; command = get_or s 3 0; length = i; bytes = l })
        (sym size ∙ ap length payload) bytes

pub overflow_add-start : goal.overflow_add-start
overflow_add-start c = let o = c.args in omega (arith, fits o.a.now o.b.now o.from o.to c.requires.1.0 c.requires.1.1 c.length_at-length.result c.length_at-length.ensures.0)

pub overflow_add-end : goal.overflow_add-end
overflow_add-end c = let o = c.args in omega (arith, fits o.a.now o.b.now o.from o.to c.requires.1.0 c.requires.1.1 c.length_at-length.result c.length_at-length.ensures.0)

pub overflow_add-from : goal.overflow_add-from
overflow_add-from c = let o = c.args in omega (arith, fits o.a.now o.b.now o.from o.to c.requires.1.0 c.requires.1.1 c.length_at-length.result c.length_at-length.ensures.0)

pub overflow_add-from-2 : goal.overflow_add-from-2
overflow_add-from-2 c = let o = c.args in omega (arith, fits o.a.now o.b.now o.from o.to c.requires.1.0 c.requires.1.1 c.length_at-length.result c.length_at-length.ensures.0)

pub returns : goal.returns
returns c =
    let o = c.args in
    made o.a.now o.b.now o.from o.to c.requires.1.0 c.requires.1.1 c.length_at-length.result c.length_at-length.ensures.0
    c.byte.result c.byte-2.result c.copy.new.out c.byte.ensures c.byte-2.ensures c.copy.ensures
