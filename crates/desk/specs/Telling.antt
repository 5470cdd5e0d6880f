-- What a command leaves of the desk, and what it tells. Assumes nothing.
use Rattle.std.specs.Prelude.{◌≡◌, List, ℕ}
use Rattle.text.specs.declared.output.Output.{Output}
use Rattle.text.specs.Outputs.{TextsAdded}
use Rattle.desk.specs.declared.desk.Desk.{Desk}

-- the desk is the one given; the texts are put behind those that wait
pub record DeskTold (o : Output) (after : Desk) (texts : List (List ℕ)) (r : Desk) (o' : Output) : Type 0 where
  pub leaves : r ≡ after
  pub tells : TextsAdded o texts o'
