-- Every call on a lawful record hands back a lawful one. Assumes nothing.
use mathlib.Core.Path.{◌≡◌, refl, sym, ap, ◌∙◌, subst}
use mathlib.Core.Bool.{Bool, true, false}
use mathlib.Core.Logic.{⊎_elim}
use mathlib.Core.List.{List}
use Prim.Native.Nat.{ℕ, ◌≤◌}
use native.Mathlib.Omega.{arith}
use lib.ListN.{length, length-take, length-replicate}
use Rattle.frames.specs.declared.reader.Fed.{Fed}
use Rattle.fronts.specs.Frame.{max_frame}
use Rattle.sequences.specs.Padding.{zeros}
use Rattle.frames.specs.Finished.{finished}
use Rattle.frames.specs.LiveReading.{CallResult, Call, called, fed_by, held_bytes, handed_back}
use Rattle.sequences.proofs.Orders.{lt_or_le}
use Rattle.frames.proofs.Calls.{call-accepted, call-keeps}
use Rattle.boards.specs.declared.board.Board.{Board}
use Rattle.ending.specs.Portions.{unread}
use Rattle.session.specs.declared.session.Session.{Session}
use Rattle.session.specs.declared.check.Checked.{Checked}
use Rattle.boards.specs.Boards.{max_boards}
use Rattle.commands.specs.Outcomes.{accepted}
use Rattle.session.specs.Lawful.{unlawful}
use Rattle.session.specs.Checking.{checked}
use Rattle.session.proofs.Kept.{answer_keeps}
use Rattle.session.proofs.Checks.{unended, finished-by}
use Rattle.controller.specs.declared.record.Record.{Record}
use Rattle.commands.specs.Outcomes.{same_outcome}
use Rattle.controller.specs.Records.{unlawful_record, opened_record}
use Rattle.controller.specs.Calls.{refusal_of, CallLeaves, finished_call, called_by}
use Rattle.controller.specs.Portions.{PortionLeaves, checked_portion, portion_call}
use Rattle.controller.specs.Leaving.{LawfulKept}
use Rattle.controller.proofs.Refusals.{lawful_record, record_accepted, accepted-of}
use Rattle.controller.proofs.Openings.{opens}
use Rattle.controller.proofs.Steps.{calling_refused, calling_accepted}
use Rattle.controller.proofs.Keeping.{portion-refused, portion-accepted, no-check}
use Rattle.commands.proofs.Outcomes.{same-true}

finished-keeps : (c : Call) (rest : List ℕ) (r : Record) (room area : List ℕ) → unlawful_record r ≡ false
    → unlawful_record (finished_call (handed_back (called c (held_bytes r.reader) rest)) r.session room area).called.next ≡ false
unfolding finished_call
finished-keeps c rest r room area ok = go x.found refl
  where
    x : CallResult
    x = called c (held_bytes r.reader) rest

    small : length x.held ≤ max_frame
    small =
        (call-keeps c (held_bytes r.reader) rest).small
        (omega (arith, length-take r.reader.count r.reader.held, (lawful_record r ok).count))

    go : (b : Bool) → x.found ≡ b → unlawful_record (finished_call (handed_back x) r.session room area).called.next ≡ false
    go true e =
        rw e (record_accepted _
        (record { count = small; session = (answer_keeps r.session (finished x.frame) area (lawful_record r ok).session).lawful }))
    go false e = rw e (record_accepted _ (record { count = small; session = (lawful_record r ok).session }))

by-reading : (c : Call) (rest : List ℕ) (r : Record) (room area : List ℕ) → unlawful_record r ≡ false
    → unlawful_record (called_by (fed_by c rest) r room area).called.next ≡ false
by-reading c rest r room area ok = go (same_outcome (refusal_of r (length room) (length area)) accepted) refl
  where
    Good : CallLeaves → Type 0
    Good x = unlawful_record x.called.next ≡ false

    go : (b : Bool) → same_outcome (refusal_of r (length room) (length area)) accepted ≡ b
        → unlawful_record (called_by (fed_by c rest) r room area).called.next ≡ false
    go false e = subst Good (sym (calling_refused (fed_by c rest) r room area e)) ok
    go true e =
        subst Good
        (sym (calling_accepted (fed_by c rest) r room area e
        ∙ ap (λ (f : Fed). finished_call f r.session room area) (call-accepted c rest r.reader (lawful_record r ok).count)))
        (finished-keeps c rest r room area ok)

module _ (most : ℕ) (r : Record) (room area : List ℕ) (ok : unlawful_record r ≡ false) where
  abbrev s : Session
  s = r.session

  abbrev Good : PortionLeaves → Type 0
  Good x = unlawful_record x.called.next ≡ false

  lawful-session : unlawful s ≡ false
  lawful-session = (lawful_record r ok).session

  module _ (e : same_outcome (refusal_of r (length room) (length area)) accepted ≡ true) where
    size : length area ≡ s.opened
    size = (accepted-of r (length room) (length area) (same-true _ _ e)).size

    by : (c : Checked) → checked s most area ≡ c → unlawful c.session ≡ false → Good (portion_call most r room area)
    by c is good =
        subst Good (sym (portion-accepted most r room area e ∙ ap (λ (x : Checked). checked_portion x r room) is))
        (record_accepted _ (record { count = (lawful_record r ok).count; session = good }))

    checked-keeps : (b : Bool) → s.transfer.check.running ≡ b → Good (portion_call most r room area)
    checked-keeps false still = by _ (no-check s most area lawful-session size still) lawful-session
    checked-keeps true runs =
        ⊎_elim
        (λ h. let x = unended s most area lawful-session size runs h in by _ x.is x.lawful-on)
        (λ h. let x = finished-by s most area lawful-session size runs h in by _ x.is x.lawful-after)
        (lt_or_le most (unread s.transfer))

  by-portion : Good (portion_call most r room area)
  by-portion = go (same_outcome (refusal_of r (length room) (length area)) accepted) refl
    where
      go : (b : Bool) → same_outcome (refusal_of r (length room) (length area)) accepted ≡ b → Good (portion_call most r room area)
      go false e = subst Good (sym (portion-refused most r room area e)) ok
      go true e = checked-keeps e s.transfer.check.running refl

opened-lawful : (bs : List Board) (n area : ℕ) → length bs ≡ max_boards → (opened_record bs n area).outcome ≡ accepted
    → unlawful_record (opened_record bs n area).next ≡ false
opened-lawful bs n area ten z = ((opens bs n area ten).usable z (zeros area) (length-replicate {A = ℕ} area 0)).lawful

pub lawful-kept : LawfulKept
lawful-kept = record { by-opening = λ bs n area ten z. opened-lawful bs n area ten z; by-reading = by-reading; by-portion = by-portion }
