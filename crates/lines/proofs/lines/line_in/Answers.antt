-- `lines::lines::line_in` meets its contract. Assumes nothing.
use Rattle.std.proofs.Common.{length, sym, ap, ◌∙◌}
use Rattle.std.specs.Option.{unwrap_or}
use Rattle.std.specs.Prelude.{Option, ℕ}
use Rattle.lines.proofs.Newlines.{line-found}
use Rattle.lines.proofs.lines.line_in.Goals as goal

pub returns : goal.returns
returns c =
    let s = c.args.s.now in
    c.unwrap_or.ensures ∙ ap (λ (o : Option ℕ). unwrap_or o (length s)) c.first_newline.ensures ∙ sym (line-found s)
