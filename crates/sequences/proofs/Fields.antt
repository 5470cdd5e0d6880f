-- Fields behind one another, each found at its place. Assumes nothing.
use mathlib.Core.Path.{◌≡◌, sym, ap, ap₂, ◌∙◌}
use mathlib.Core.List.{List, ◌++◌}
use Prim.Native.Nat.{ℕ, ◌+◌, ◌/◌, ◌%◌, ◌<◌}
use lib.ListN.{length, get_or, take, drop}
use lib.Seq.{take_at, drop_at, drop-drop, get_or-drop}
use Rattle.sequences.specs.Numbers.{number32, bytes32, max32}
use Rattle.sequences.specs.Fields.{field_at}
use Rattle.sequences.proofs.Numbers.{of-bytes32}

-- what stands from `at` on begins with a; behind it stands r
pub drop-next : (d a r : List ℕ) (at n : ℕ) → drop at d ≡ a ++ r → length a ≡ n → drop (at + n) d ≡ r
drop-next d a r at n e size = sym (drop-drop n at d) ∙ ap (drop n) e ∙ drop_at a r n size

pub field_there : (d a r : List ℕ) (at n : ℕ) → drop at d ≡ a ++ r → length a ≡ n → field_at at n d ≡ a
field_there d a r at n e size = ap (take n) e ∙ take_at a r n size

byte-there : (d r : List ℕ) (at i : ℕ) → drop at d ≡ r → get_or d (at + i) 0 ≡ get_or r i 0
byte-there d r at i e = sym (get_or-drop at d i 0) ∙ ap (λ (l : List ℕ). get_or l i 0) e

pub number32-there : (d r : List ℕ) (at x : ℕ) → drop at d ≡ bytes32 x ++ r → x < max32
    → number32 (get_or d (at + 0) 0) (get_or d (at + 1) 0) (get_or d (at + 2) 0) (get_or d (at + 3) 0) ≡ x
number32-there d r at x e small =
    ap₂ (λ (a b : ℕ). number32 a b (get_or d (at + 2) 0) (get_or d (at + 3) 0)) (byte-there d _ at 0 e) (byte-there d _ at 1 e)
    ∙ ap₂ (number32 (x / 16777216 % 256) (x / 65536 % 256)) (byte-there d _ at 2 e) (byte-there d _ at 3 e)
    ∙ of-bytes32 x small
