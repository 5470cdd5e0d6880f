-- Texts on their way to standard output. Those that wait stand at the front of a buffer; a text is put behind them, and where it does not
-- fit there they are written first. Once a write has failed none is tried again. That what is written reaches standard output no
-- definition can say. Assumes nothing.
use Rattle.std.specs.Prelude.{◌≡◌, true, false, cond, List, [], ◌∷◌, ◌++◌, ℕ, ◌+◌, ◌≤◌, ltb, length, replicate}
use Rattle.sequences.specs.Places.{written_at}
use Rattle.text.specs.declared.output.Output.{Output}

abbrev pub buffer_size : ℕ
buffer_size = 65536

abbrev pub nothing : Output
nothing = record { buffer = replicate buffer_size 0; waiting = 0; failed = false }

-- where a text of n bytes begins: behind those that wait if it fits there
abbrev pub next_place : Output → ℕ → ℕ
next_place o n = cond (ltb buffer_size (o.waiting + n)) 0 o.waiting

-- how many bytes wait with it; a text longer than the buffer does not wait,
abbrev pub waiting_with : Output → ℕ → ℕ
waiting_with o n = cond (ltb buffer_size n) 0 (next_place o n + n)

-- and does not go into the buffer
abbrev pub buffer_with : Output → List ℕ → List ℕ
buffer_with o text = cond (ltb buffer_size (length text)) o.buffer (written_at o.buffer (next_place o (length text)) text)

-- none waits any more. That they were written is no part of this: what a write does no definition here says
pub record Flushed (o r : Output) : Type 0 where
  pub waits : r.waiting ≡ 0
  pub stands : r.buffer ≡ o.buffer
  pub fails : o.failed ≡ true → r.failed ≡ true

-- a text of n bytes may begin at its place
pub record RoomMade (o : Output) (n : ℕ) (r : Output) : Type 0 where
  pub waits : r.waiting ≡ next_place o n
  pub stands : r.buffer ≡ o.buffer
  pub fits : r.waiting + n ≤ buffer_size
  pub fails : o.failed ≡ true → r.failed ≡ true
  pub unwritten : o.waiting + n ≤ buffer_size → r.failed ≡ o.failed

-- a text stands behind those that wait, and waits with them
pub record TextAdded (o : Output) (text : List ℕ) (r : Output) : Type 0 where
  pub waits : r.waiting ≡ waiting_with o (length text)
  pub stands : r.buffer ≡ buffer_with o text
  pub fails : o.failed ≡ true → r.failed ≡ true
  pub unwritten : o.waiting + length text ≤ buffer_size → r.failed ≡ o.failed

-- so do several, one behind the other
pub data TextsAdded : Output → List (List ℕ) → Output → Type 0 where
  none : {o : Output} → TextsAdded o [] o
  more : {o m r : Output} {text : List ℕ} {texts : List (List ℕ)} → TextAdded o text m → TextsAdded m texts r → TextsAdded o (text ∷ texts) r

-- several texts as one
abbrev pub as_one : List (List ℕ) → List ℕ
as_one [] = []
as_one (text ∷ texts) = text ++ as_one texts

-- The claim: where they all fit behind those that wait, it is no matter in how many texts they are put.
abbrev pub AddedAsOne : Type 0
AddedAsOne =
    (o r : Output) (texts : List (List ℕ)) → TextsAdded o texts r → length o.buffer ≡ buffer_size
    → o.waiting + length (as_one texts) ≤ buffer_size → TextAdded o (as_one texts) r
