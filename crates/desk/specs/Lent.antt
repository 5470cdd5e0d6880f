-- docs/CONSOLE.md: "A memory is lent from its first byte on." Assumes nothing.
use Rattle.std.specs.Prelude.{◌≡◌, List, ◌++◌, ℕ, ◌-◌, drop}
use Rattle.controller.specs.declared.call.Called.{Called}
use Rattle.controller.specs.Calls.{CallLeaves}

-- "room, 65,536 bytes", "area, 65,536 bytes"
abbrev pub memory_size : ℕ
memory_size = 65536

-- as many as are lent, but no more than there are
abbrev pub lent_length : ℕ → ℕ
lent_length n = n - (n - memory_size)

-- a memory of which the first n bytes were lent, and left as x
abbrev pub left_as : List ℕ → ℕ → List ℕ → List ℕ
left_as x n memory = x ++ drop n memory

-- a call on the first n bytes of the room and the first m of the area: what was lent is as the call left it, and what was not as it was
pub record LentCall (x : CallLeaves) (c : Called) (n : ℕ) (room room' : List ℕ) (m : ℕ) (area area' : List ℕ) : Type 0 where
  pub gives : c ≡ x.called
  pub in_room : room' ≡ left_as x.room n room
  pub in_area : area' ≡ left_as x.area m area
