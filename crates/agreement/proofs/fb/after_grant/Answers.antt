-- `agreement::fb::after_grant` meets its contract. Assumes nothing.
use mathlib.Core.Path.{◌≡◌, sym, ◌∙◌}
use mathlib.Core.Bool.{true, false}
use Rattle.agreement.specs.FB.{after_fb, same_identity}
use Rattle.agreement.proofs.Comparisons.{identities-same}
use Rattle.agreement.proofs.fb.after_grant.Goals as goal

pub returns-then-eq : goal.returns-then-eq
unfolding after_fb
returns-then-eq c =
    let held : same_identity c.told-told.result c.args.t.image ≡ true =
    sym (identities-same c.told-told.result c.args.t.image) ∙ sym c.eq.ensures ∙ c.if-eq.true in
    simp (← c.told-told.ensures, held, c.with_phase.ensures)

pub returns : goal.returns
unfolding after_fb
returns c =
    let other : same_identity c.told-told.result c.args.t.image ≡ false =
    sym (identities-same c.told-told.result c.args.t.image) ∙ sym c.eq.ensures ∙ c.if-eq.false in
    simp (← c.told-told.ensures, other, c.replaced.ensures)
