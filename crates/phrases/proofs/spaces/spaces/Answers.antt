-- `phrases::spaces::spaces` meets its contract. Assumes nothing.
use Rattle.std.proofs.Common.{length, sym, ap, ◌∙◌}
use Rattle.std.specs.Option.{unwrap_or}
use Rattle.std.specs.Prelude.{Option, ℕ}
use Rattle.phrases.specs.Spaces.{is_space}
use Rattle.phrases.proofs.Fronts.{front-found}
use Rattle.phrases.proofs.spaces.spaces.Goals as goal

pub returns : goal.returns
returns c =
    let s = c.args.s.now in
    c.unwrap_or.ensures ∙ ap (λ (o : Option ℕ). unwrap_or o (length s)) c.first_other.ensures ∙ sym (front-found is_space s)
