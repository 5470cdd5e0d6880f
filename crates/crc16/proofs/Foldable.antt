-- What foldable parameters have. Assumes nothing.
use mathlib.Core.Path.{◌≡◌}
use mathlib.Core.Bool.{true}
use lib.Dec.{T, leb, leb→le, lit≤}
use Rattle.crc.specs.Folding.{all_within}
use Rattle.crc.proofs.Bounds.{means-within}
use Rattle.crc.proofs.Multiples.{multiple-test, multiple}
use Rattle.crc16.specs.declared.parameters.Parameters.{Parameters}
use Rattle.crc16.specs.Foldable.{kind_for, max_far, Foldable}

-- by computation
pub foldable : (p : Parameters) → T (leb 2 p.fold.far) → T (leb p.fold.far max_far) → all_within 2 p.fold.far p.fold.offsets ≡ true
    → T (multiple-test (kind_for p) p.fold.far p.fold.offsets)
    → Foldable p
foldable p meets fits bounds adds = record {
  meets = leb→le 2 p.fold.far meets;
  fits = leb→le p.fold.far max_far fits;
  within = means-within 2 p.fold.far p.fold.offsets bounds;
  multiple = multiple (kind_for p) p.fold.far p.fold.offsets (lit≤ tt) adds;
}
