-- `desk::run::Run::turn` meets its contract. Assumes nothing.
use mathlib.Core.Path.{◌≡◌, refl, sym, subst}
use mathlib.Core.List.{List}
use Prim.Native.Nat.{ℕ}
use lib.ListN.{take, drop}
use Rattle.lines.specs.declared.lines.Next.{Next}
use Rattle.lines.specs.declared.lines.Kind.{Kind}
use Rattle.lines.specs.declared.lines.Kind.TheVariants.{Line, TooLong, Unfinished, None}
use Rattle.lines.specs.Lines.{next_line}
use Rattle.text.specs.declared.output.Output.{Output}
use Rattle.desk.specs.declared.run.Run.{Run}
use Rattle.desk.specs.Runs.{is_passed_over, LineDone, SessionTurned}
use Rattle.desk.proofs.run.Run.turn.Goals as goal

module _ (s : Run) (input bytes room area image : List ℕ) (o : Output) (r : Run) (input' bytes' room' area' image' : List ℕ) (o' : Output) where
  abbrev Turns : Kind → Next → Type 0
  Turns k n =
      SessionTurned k n s input bytes room area image o r input' bytes' room' area' image' o'

  -- what holds of a kind holds of what comes next, which is of it
  in-kind : (n : Next) (k : Kind) → n ≡ next_line s.lines input → n.kind ≡ k → Turns k n
      → Turns (next_line s.lines input).kind (next_line s.lines input)
  in-kind n k e f t = subst (λ (x : Next). Turns x.kind x) e (subst (λ (j : Kind). Turns j n) (sym f) t)

  -- a line is the part of the input that it stands in
  in-line : (n : Next) (from size : ℕ) (l : List ℕ) → l ≡ take size (drop from input)
      → LineDone (is_passed_over l) s n.lines l bytes room area image o r bytes' room' area' image' o'
      → input' ≡ input → Turns (Line from size) n
  in-line n from size l e t f = (
    subst
        (λ (x : List ℕ).
        LineDone (is_passed_over x) s n.lines x bytes room area image o r bytes' room' area' image' o') e t,
    f,
  )

pub returns-in-Line : goal.returns-in-Line
returns-in-Line c =
    let next = c.next-next in
    in-kind c.args.self c.args.input.now c.args.bytes.now c.args.room.now c.args.area.now c.args.image.now c.args.output.now _ _ _ _ _ _ _ next.result (Line _ _) next.ensures c.in-Line.is
    (in-line c.args.self c.args.input.now c.args.bytes.now c.args.room.now c.args.area.now c.args.image.now c.args.output.now _ _ _ _ _ _ _ next.result _ _ _ c.part-line.ensures c.obey.ensures refl)

pub returns-in-TooLong : goal.returns-in-TooLong
returns-in-TooLong c =
    let next = c.next-next in
    in-kind c.args.self c.args.input.now c.args.bytes.now c.args.room.now c.args.area.now c.args.image.now c.args.output.now _ _ _ _ _ _ _ next.result TooLong next.ensures c.in-TooLong.is
    (c.pass.ensures, (refl, (refl, (refl, (refl, refl)))))

pub returns-in-Unfinished : goal.returns-in-Unfinished
returns-in-Unfinished c =
    let next = c.next-next in
    in-kind c.args.self c.args.input.now c.args.bytes.now c.args.room.now c.args.area.now c.args.image.now c.args.output.now _ _ _ _ _ _ _ next.result Unfinished next.ensures c.in-Unfinished.is
    (c.read.ensures, (refl, (refl, (refl, refl))))

pub returns-in-None : goal.returns-in-None
returns-in-None c =
    let next = c.next-next in
    in-kind c.args.self c.args.input.now c.args.bytes.now c.args.room.now c.args.area.now c.args.image.now c.args.output.now _ _ _ _ _ _ _ next.result None next.ensures c.in-None.is
    (c.end.ensures, (refl, (refl, (refl, (refl, (refl, refl))))))
