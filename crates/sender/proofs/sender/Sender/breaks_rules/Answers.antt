-- `sender::sender::Sender::breaks_rules` meets its contract. Assumes nothing.
use mathlib.Core.Path.{◌≡◌, refl, sym, ◌∙◌}
use mathlib.Core.Bool.{Bool, true, false, ◌||◌}
use Rattle.sender.specs.Rules.{bad_offer, bad_tries, bad_position, breaks_rules}
use Rattle.sender.proofs.sender.Sender.breaks_rules.Goals as goal
use Rattle.sender.proofs.sender.Sender.breaks_rules.Goals.{then-bad_offer, else-bad_offer}

-- a test is asked where those before it did not pass
asked : (a b v : Bool) → a ≡ false → v ≡ b → v ≡ (a || b)
asked true b v t e = cc
asked false b v t e = e

passed : (a b v : Bool) → a ≡ true → v ≡ a → v ≡ (a || b)
passed true b v t e = e
passed false b v t e = cc

some : (a b c : Bool) → (a || b) ≡ true → true ≡ (a || (b || c))
some true b c e = refl
some false true c e = refl
some false false c e = cc

last : (a b c : Bool) → (a || b) ≡ false → c ≡ (a || (b || c))
last true b c e = cc
last false true c e = cc
last false false c e = refl

pub returns-then-bad_tries : goal.returns-then-bad_tries
unfolding breaks_rules
returns-then-bad_tries c =
    let a = c.args.self in
    let offer = bad_offer a.offer in
    let tries = bad_tries a.tries in
    let two : c.if-bad_offer.value ≡ (offer || tries) =
    elim c.if-bad_offer.branch [
      | then-bad_offer w ↦ passed offer tries _ (sym c.bad_offer.ensures ∙ w.if-bad_offer.true) (w.value-is ∙ c.bad_offer.ensures)
      | else-bad_offer w ↦ asked offer tries _ (sym c.bad_offer.ensures ∙ w.if-bad_offer.false) (w.value-is ∙ w.bad_tries.ensures)
    ] in
    c.if-bad_tries.true ∙ some offer tries (bad_position a.position a.offer) (sym two ∙ c.if-bad_tries.true)

pub returns-else-bad_tries : goal.returns-else-bad_tries
unfolding breaks_rules
returns-else-bad_tries c =
    let a = c.args.self in
    let offer = bad_offer a.offer in
    let tries = bad_tries a.tries in
    let two : c.if-bad_offer.value ≡ (offer || tries) =
    elim c.if-bad_offer.branch [
      | then-bad_offer w ↦ passed offer tries _ (sym c.bad_offer.ensures ∙ w.if-bad_offer.true) (w.value-is ∙ c.bad_offer.ensures)
      | else-bad_offer w ↦ asked offer tries _ (sym c.bad_offer.ensures ∙ w.if-bad_offer.false) (w.value-is ∙ w.bad_tries.ensures)
    ] in
    c.bad_position.ensures ∙ last offer tries (bad_position a.position a.offer) (sym two ∙ c.if-bad_tries.false)
