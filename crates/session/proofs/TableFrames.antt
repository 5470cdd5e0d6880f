-- Frames of the command table: which commands are left, and that every answer with a reply is to a command that has one. Assumes nothing.
use mathlib.Core.Path.{◌≡◌, refl, sym, ap}
use mathlib.Core.Bool.{Bool, true, false, cond, not}
use mathlib.Core.List.{List}
use Rattle.std.specs.Prelude.{is_some}
use Prim.Native.Nat.{ℕ}
use native.Mathlib.Omega.{arith}
use borrow.Author.Tests.{eqb-true, eqb-false, ne_eqb}
use lib.Dec.{eqb}
use lib.ListN.{length}
use Rattle.frames.specs.declared.finished.FinishedFrame.{FinishedFrame}
use Rattle.sequences.proofs.Conditionals.{of-both}
use Rattle.commands.specs.declared.table.Header.{Header}
use Rattle.commands.specs.declared.table.Header.TheVariants.{Unlisted, Wrong, Right}
use Rattle.sequences.specs.Search.{find}
use Rattle.commands.specs.Table.{table, row_at, place_in_table, header_of}
use Rattle.replies.specs.Replies.{has_reply}
use Rattle.transfer.specs.Transfers.{Effect, unwritten}
use Rattle.commands.specs.declared.outcome.Outcome.{Outcome}
use Rattle.commands.specs.Outcomes.{accepted, unlisted_command, wrong_header, other_area, rules_broken}
use Rattle.session.specs.declared.session.Session.{Session}
use Rattle.session.specs.declared.answer.Answer.{Answer}
use Rattle.session.specs.Lawful.{unlawful}
use Rattle.session.specs.Answering.{unchanged, routed, header_of_frame, judged, reaction}

flip : (m n : ℕ) → eqb m n ≡ false → eqb n m ≡ false
flip m n e = ne_eqb n m (λ z. eqb-false m n e (sym z))

-- one that is none of the others is FE
pub is-fe : (f : FinishedFrame) → header_of_frame f ≡ Right → eqb f.command 0xF9 ≡ false → eqb f.command 0xFA ≡ false
    → eqb f.command 0xFB ≡ false
    → eqb f.command 0xFC ≡ false → eqb f.command 0xFD ≡ false → f.command ≡ 0xFE
unfolding header_of place_in_table row_at table find
is-fe f h e9 ea eb ec ed = go (eqb f.command 0xFE) refl
  where
    go : (b : Bool) → eqb f.command 0xFE ≡ b → f.command ≡ 0xFE
    go true e = eqb-true _ _ e
    go false e =
        absurd (let c = f.command in let no = simp (
          flip c 0xF9 e9,
          flip c 0xFA ea,
          flip c 0xFB eb,
          flip c 0xFC ec,
          flip c 0xFD ed,
          flip c 0xFE e,
        ) at h in let z : ◌≡◌ {A = ℕ} 0 1 = cc in omega arith)

-- each but F9 has a reply
has-reply : (f : FinishedFrame) → header_of_frame f ≡ Right → eqb f.command 0xF9 ≡ false → has_reply f.command ≡ true
unfolding has_reply place_in_table row_at table find
has-reply f h e9 = go (eqb f.command 0xFA) (eqb f.command 0xFB) (eqb f.command 0xFC) (eqb f.command 0xFD) refl refl refl refl
  where
    of : (c : ℕ) → eqb f.command c ≡ true → has_reply f.command ≡ has_reply c
    of c e = ap has_reply (eqb-true f.command c e)

    go : (a b c d : Bool) → eqb f.command 0xFA ≡ a → eqb f.command 0xFB ≡ b → eqb f.command 0xFC ≡ c → eqb f.command 0xFD ≡ d
        → has_reply f.command ≡ true
    go true b c d ea eb ec ed = of 0xFA ea
    go false true c d ea eb ec ed = of 0xFB eb
    go false false true d ea eb ec ed = of 0xFC ec
    go false false false true ea eb ec ed = of 0xFD ed
    go false false false false ea eb ec ed = ap has_reply (is-fe f h e9 ea eb ec ed)

-- whether there is a reply is the answer's to say, and the command never says otherwise
module _ (s : Session) (f : FinishedFrame) (area : List ℕ) where
  abbrev Listed : Effect Answer → Type 0
  Listed x = is_some x.gives.reply ≡ true → has_reply f.command ≡ true

  silent : (n : Outcome) → Listed (unwritten (unchanged n s) area)
  silent n e = let z : ◌≡◌ {A = ℕ} 0 1 = cc in absurd (omega arith)

  refused : (x : Effect Answer) → Listed x
      → Listed (cond (unlawful s) (unwritten (unchanged rules_broken s) area)
      (cond (not (eqb (length area) s.opened)) (unwritten (unchanged other_area s) area) x))
  refused x p = of-both Listed (unlawful s) _ _ (silent rules_broken) (of-both Listed (not (eqb (length area) s.opened)) _ _ (silent other_area) p)

  pub replied-command : Listed (reaction s f area)
  unfolding reaction judged routed
  replied-command = go (header_of_frame f) (eqb f.command 0xF9) refl refl
    where
      go : (h : Header) (b : Bool) → header_of_frame f ≡ h → eqb f.command 0xF9 ≡ b → Listed (reaction s f area)
      go Unlisted b eh e9 = rw eh (refused (unwritten (unchanged unlisted_command s) area) (silent unlisted_command))
      go Wrong b eh e9 = rw eh (refused (unwritten (unchanged wrong_header s) area) (silent wrong_header))
      go Right true eh e9 = rw (eh, e9) (refused (unwritten (unchanged accepted s) area) (silent accepted))
      go Right false eh e9 = λ _. has-reply f eh e9
