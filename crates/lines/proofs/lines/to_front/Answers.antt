-- `lines::lines::to_front` meets its contract. Assumes nothing.
use Rattle.std.proofs.Common.{◌≡◌, ℕ, ◌+◌, ◌≤◌, ◌-◌, length, take, drop, sym, ap, ◌∙◌, arith, length-drop, length-take-le}
use lib.Seq.{paste}
use Rattle.std.proofs.lemmas.List.Edits.{take-paste}
use Rattle.lines.proofs.Parts.{cut_within}
use Rattle.lines.proofs.lines.to_front.Goals as goal

pub returns : goal.returns
returns c =
    let l = c.args.input.now in
    let e = c.min-end.result in
    let a = c.min-at.result in
    let n = e - a in
    let part = drop a l in
    let room : n ≤ length part = omega (arith, length-drop a l, c.min-end.ensures, c.min-at.ensures, c.told-input) in
    let cut = cut_within c.args.at c.args.end l (omega (arith, c.min-end.ensures, c.told-input)) c.min-at.ensures in
    let size : n ≡ length (take n part) = sym (length-take-le n part room) in
    let moved : take n (paste l 0 part n) ≡ take n part =
    let none : n ≡ 0 + n = omega arith in
    ap (λ (k : ℕ). take k (paste l 0 part n)) none ∙ take-paste l 0 part n (omega arith) room in
    record {
      counts = size ∙ ap length cut;
      fits = omega (arith, c.min-end.ensures);
      stands = ap (take n) c.copy_within.ensures.after ∙ moved ∙ cut;
    }
