-- What each outcome of a portion call leaves. Assumes nothing.
use mathlib.Core.Path.{◌≡◌, refl, sym, ap, ◌∙◌, subst}
use mathlib.Core.Bool.{Bool, true, false, cond}
use mathlib.Core.Logic.{⊎_elim}
use mathlib.Core.List.{List}
use Prim.Native.Nat.{ℕ, ◌+◌, ◌≤◌, ◌<◌}
use native.Mathlib.Omega.{arith}
use borrow.Author.Tests.{ltb-true}
use lib.Dec.{ltb}
use lib.ListN.{length}
use lib.Seq.{length-slice}
use Rattle.sequences.proofs.Orders.{lt_or_le}
use Rattle.sequences.proofs.Conditionals.{of_each}
use Rattle.transfer.specs.declared.state.Transfer.{Transfer}
use Rattle.ending.specs.FE.{ended_fe}
use Rattle.image.specs.Checks.{no_check, portion_size, portion_of}
use Rattle.ending.specs.Portions.{unread, check_step, will_say}
use Rattle.session.specs.declared.session.Session.{Session}
use Rattle.session.specs.declared.check.Checked.{Checked}
use Rattle.session.specs.Lawful.{unlawful}
use Rattle.session.specs.Checking.{checked}
use Rattle.session.proofs.Lawfuls.{lawful as lawful-session}
use Rattle.session.proofs.Checks.{is-portion, unended, finished-by}
use Rattle.commands.specs.declared.outcome.Outcome.{Outcome}
use Rattle.commands.specs.Outcomes.{accepted, short_room, other_area, rules_broken, no_check_runs, unfinished}
use Rattle.controller.specs.declared.record.Record.{Record}
use Rattle.commands.specs.Outcomes.{same_outcome}
use Rattle.controller.specs.Calls.{refusal_of}
use Rattle.controller.specs.Portions.{refused_portion, checked_portion, portion_call}
use Rattle.controller.specs.Leaving.{IsRefusal, IsPortionRefusal, Counted, PortionOutcomes, PortionLeaving, Refuses}
use Rattle.controller.proofs.Refusals.{lawful_record, Accepted, accepted-of, accepts, refusal_is, code-refuses, none-refuses}
use Rattle.controller.proofs.Settling.{verdict-answers, ended-reply, verdict-reply, verdict-room}
use Rattle.controller.proofs.Keeping.{portion-refused, portion-accepted, no-check}
use Rattle.commands.proofs.Outcomes.{same-true, same-false}
use Rattle.commands.proofs.Outcomes.{same-false}

true_false : {A : Type 0} → true ≡ false → A
true_false e = let z : ◌≡◌ {A = ℕ} 0 1 = cc in absurd (omega arith)

smaller : (m n : ℕ) → cond (ltb m n) m n ≤ n
smaller m n = of_each (λ (k : ℕ). k ≤ n) (ltb m n) m n (λ e. let h = ltb-true m n e in omega arith) (λ _. omega arith)

ended-none : (t : Transfer) (right : Bool) → (ended_fe t right).transfer.check ≡ no_check
unfolding ended_fe
ended-none t true = refl
ended-none t false = refl

no-refusal : (n : Outcome) → (n ≡ short_room → ⊥) → (n ≡ other_area → ⊥) → (n ≡ rules_broken → ⊥) → (n ≡ no_check_runs → ⊥)
    → IsPortionRefusal n → ⊥
no-refusal n a b c d e = ⊎_elim (λ w. ⊎_elim a (λ v. ⊎_elim b c v) w) d e

module _ (most : ℕ) (r : Record) (room area : List ℕ) where
  abbrev code : Outcome
  code = refusal_of r (length room) (length area)

  -- 9, 6, 5
  refused-leaves : same_outcome code accepted ≡ false → PortionOutcomes most r room area (record { called = refused_portion code r; room = room })
  refused-leaves e =
      let nonzero = same-false code accepted e in
      record {
        refuses = code-refuses r room area;
        eighteen = λ ok size wide. absurd
            (nonzero (accepts r (length room) (length area) (record { lawful = ok; size = size; wide = wide })));
        refused = λ _. refl;
        unfinished = λ z. absurd (known (refusal_is r (length room) (length area) nonzero) z);
        finished = λ z. absurd (nonzero z);
        past_reply = λ z. absurd (nonzero z);
        counted = λ z. absurd (nonzero z);
        same-list = refl;
        same_reader = refl;
      }
    where
      known : IsRefusal code → code ≡ unfinished → ⊥
      known w z =
          ⊎_elim (λ a. same-false short_room unfinished refl (sym a ∙ z))
          (λ v. ⊎_elim (λ b. same-false other_area unfinished refl (sym b ∙ z)) (λ c. same-false rules_broken unfinished refl (sym c ∙ z)) v) w

  -- not refused, by the session's part
  module _ (a : Accepted r (length room) (length area)) where
    other : (n : Outcome) → (n ≡ short_room → ⊥) → (n ≡ other_area → ⊥) → (n ≡ rules_broken → ⊥) → Refuses r room area n
    other n five six nine = none-refuses r room area n a (five, (six, nine))

    still-leaves : r.session.transfer.check.running ≡ false
        → PortionOutcomes most r room area (record { called = refused_portion no_check_runs r; room = room })
    still-leaves still =
        record {
          refuses = other no_check_runs (same-false _ _ refl) (same-false _ _ refl) (same-false _ _ refl);
          eighteen = λ _ _ _. (λ _. still, λ _. refl);
          refused = λ _. refl;
          unfinished = λ z. absurd (same-false _ _ refl z);
          finished = λ z. absurd (same-false _ _ refl z);
          past_reply = λ z. absurd (same-false _ _ refl z);
          counted = λ _ runs. true_false (sym runs ∙ still);
          same-list = refl;
          same_reader = refl;
        }

    abbrev s : Session
    s = r.session

    lawful : unlawful s ≡ false
    lawful = (lawful_record r a.lawful).session

    accepted-is : same_outcome code accepted ≡ true → (c : Checked) → checked s most area ≡ c → portion_call most r room area ≡ checked_portion c r room
    accepted-is e c is = portion-accepted most r room area e ∙ ap (λ (x : Checked). checked_portion x r room) is

    -- the count is the definition's
    counts : same_outcome code accepted ≡ true → s.transfer.check.running ≡ true → Counted most s.transfer area (portion_call most r room area)
    unfolding check_step portion_of
    counts e runs =
        let t = s.transfer in
        let l = lawful-session s lawful in
        let n = portion_size most (unread t) in
        let size : n ≤ unread t = smaller most (unread t) in
        let bytes = length-slice t.check.read (t.check.read + n) area
        (omega (arith, l.check-unread runs, l.announced, a.size, size)) in
        subst (Counted most t area) (sym (accepted-is e _ (is-portion s most area lawful a.size runs)))
        (record { amount = refl; bytes = omega (arith, bytes); says = refl; becomes = refl; number = refl })

    running-leaves : same_outcome code accepted ≡ true → s.transfer.check.running ≡ true
        → PortionOutcomes most r room area (portion_call most r room area)
    running-leaves e runs = ⊎_elim goes ends (lt_or_le most (unread s.transfer))
      where
        goes : most < unread s.transfer → PortionOutcomes most r room area (portion_call most r room area)
        goes h =
            subst (PortionOutcomes most r room area) (sym (accepted-is e _ (unended s most area lawful a.size runs h).is))
            (record {
              refuses = other unfinished (same-false _ _ refl) (same-false _ _ refl) (same-false _ _ refl);
              eighteen = λ _ _ _. (λ z. absurd (same-false _ _ refl z), λ z. true_false (sym runs ∙ z));
              refused = λ w. absurd
                  (no-refusal unfinished (same-false _ _ refl) (same-false _ _ refl) (same-false _ _ refl) (same-false _ _ refl) w);
              unfinished = λ _. (refl, (refl, refl));
              finished = λ z. absurd (same-false _ _ refl z);
              past_reply = λ z. absurd (same-false _ _ refl z);
              counted = λ _ _. subst (Counted most s.transfer area)
                  (accepted-is e _ (unended s most area lawful a.size runs h).is) (counts e runs);
              same-list = refl;
              same_reader = refl;
            })

        -- the verdict is outcome 0
        ends : unread s.transfer ≤ most → PortionOutcomes most r room area (portion_call most r room area)
        ends h =
            let zero = verdict-answers (will_say s.transfer area) in
            subst (PortionOutcomes most r room area) (sym (accepted-is e _ (finished-by s most area lawful a.size runs h).is))
            (record {
              refuses = other _ (λ z. same-false accepted _ refl (sym zero ∙ z)) (λ z. same-false accepted _ refl (sym zero ∙ z))
                  (λ z. same-false accepted _ refl (sym zero ∙ z));
              eighteen = λ _ _ _. (λ z. absurd (same-false accepted _ refl (sym zero ∙ z)), λ z. true_false (sym runs ∙ z));
              refused = λ w. absurd
                  (no-refusal _ (λ z. same-false accepted _ refl (sym zero ∙ z)) (λ z. same-false accepted _ refl (sym zero ∙ z))
                  (λ z. same-false accepted _ refl (sym zero ∙ z)) (λ z. same-false accepted _ refl (sym zero ∙ z)) w);
              unfinished = λ z. absurd (same-false accepted _ refl (sym zero ∙ z));
              finished = λ _. (
                ended-none s.transfer (will_say s.transfer area),
                verdict-reply s.transfer (will_say s.transfer area) room a.wide
                    ∙ ended-reply s.transfer (will_say s.transfer area),
              );
              past_reply = λ _. verdict-room s.transfer (will_say s.transfer area) room a.wide;
              counted = λ _ _. subst (Counted most s.transfer area)
                  (accepted-is e _ (finished-by s most area lawful a.size runs h).is) (counts e runs);
              same-list = refl;
              same_reader = refl;
            })

    accepted-leaves : same_outcome code accepted ≡ true → PortionOutcomes most r room area (portion_call most r room area)
    accepted-leaves e = go s.transfer.check.running refl
      where
        go : (b : Bool) → s.transfer.check.running ≡ b → PortionOutcomes most r room area (portion_call most r room area)
        go true runs = running-leaves e runs
        go false still =
            subst (PortionOutcomes most r room area) (sym (accepted-is e _ (no-check s most area lawful a.size still)))
            (still-leaves still)

pub portion-leaving : PortionLeaving
portion-leaving most r room area = go (same_outcome (refusal_of r (length room) (length area)) accepted) refl
  where
    go : (b : Bool) → same_outcome (refusal_of r (length room) (length area)) accepted ≡ b → PortionOutcomes most r room area (portion_call most r room area)
    go false e = subst (PortionOutcomes most r room area) (sym (portion-refused most r room area e)) (refused-leaves most r room area e)
    go true e = accepted-leaves most r room area (accepted-of r (length room) (length area) (same-true _ _ e)) e
