-- 01, "The record and the board list": "Versions compare part by part, first part first." Assumes nothing.
use Rattle.std.specs.Prelude.{Bool, cond, List, ℕ, ltb, eqb, get_or}

-- version a is above version b
unfoldable pub newer : List ℕ → List ℕ → Bool
newer a b =
    cond (eqb (get_or a 0 0) (get_or b 0 0))
    (cond (eqb (get_or a 1 0) (get_or b 1 0)) (ltb (get_or b 2 0) (get_or a 2 0)) (ltb (get_or b 1 0) (get_or a 1 0)))
    (ltb (get_or b 0 0) (get_or a 0 0))
