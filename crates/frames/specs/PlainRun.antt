-- 01, "Demand 3's runs": "The plain run: fed the series' frames alone, one at a time." Here over any state, any step from one to the
-- next, and any replies of a step. Assumes nothing.
use Rattle.std.specs.Prelude.{◌≡◌, List, [], ◌∷◌, ◌++◌}
use Rattle.fronts.specs.Frame.{Frame}

-- the state at its end, and all replies in order
pub record Plain (S R : Type 0) : Type 0 where
  pub state : S
  pub replies : List R

-- "Step: .. new state and reply": `step` gives the new state and `answer` the reply, of which there may be none
unfoldable pub plain : {S R : Type 0} → (S → Frame → S) → (S → Frame → List R) → S → List Frame → Plain S R
plain step answer s [] = record { state = s; replies = [] }
plain step answer s (f ∷ fs) =
    let next = plain step answer (step s f) fs in
    record { state = next.state; replies = answer s f ++ next.replies }

-- ys begins with xs: the replies so far are the first of those that the plain run gives
pub record Begins {R : Type 0} (xs ys : List R) : Type 0 where
  pub rest : List R
  pub joined : xs ++ rest ≡ ys
