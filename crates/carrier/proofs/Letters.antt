-- What the script's next letter does to a frame. Assumes nothing.
use borrow.Author.Tests.{le-ltb}
use mathlib.Core.Path.{◌≡◌}
use mathlib.Core.List.{List}
use Prim.Native.Nat.{ℕ, ◌≤◌}
use Rattle.link.specs.declared.frame.Frame.{Frame}
use Rattle.link.specs.declared.link.Link.{Link}
use Rattle.link.specs.declared.script.Script.{Script}
use Rattle.link.specs.Links.{places}
use Rattle.carrier.specs.Sending.{losing, passing}

module _ (l : Link) (s : Script) (memory : List ℕ) (f : Frame) where
  pub full-loses : places ≤ l.count → losing l s memory f ≡ passing l s memory f
  unfolding passing
  full-loses full = simp (le-ltb _ _ full)
