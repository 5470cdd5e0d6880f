-- When the last packet's length stays, and when it is 0. Assumes nothing.
use mathlib.Core.Path.{◌≡◌, refl, ap}
use mathlib.Core.Bool.{true, false, not, ◌||◌}
use mathlib.Core.List.{List}
use Prim.Native.Nat.{ℕ}
use native.Mathlib.Omega.{arith}
use borrow.Author.Tests.{eq-eqb, ne_eqb}
use lib.Dec.{eqb}
use lib.ListN.{length}
use Rattle.sequences.proofs.Conditionals.{of-both}
use Rattle.commands.specs.States.{granted}
use Rattle.requests.specs.declared.request.RequestFA.{RequestFA}
use Rattle.requests.specs.declared.request.RequestFB.{RequestFB}
use Rattle.requests.specs.declared.request.RequestFC.{RequestFC}
use Rattle.boards.specs.declared.board.Board.{Board}
use Rattle.transfer.specs.declared.state.Transfer.{Transfer}
use Rattle.transfer.specs.declared.state.Step.{Step}
use Rattle.transfer.specs.Phases.{idle, told_or_receiving, receiving_or_done}
use Rattle.transfer.specs.Transfers.{other_channel}
use Rattle.agreement.specs.FA.{refused_fa, answer_fa}
use Rattle.agreement.specs.FB.{identity_of, same_identity, state_fb, after_fb, grant_fb, answer_fb}
use Rattle.agreement.specs.FC.{answer_fc}
use Rattle.ending.specs.FE.{answer_fe, ended_fe}
use Rattle.ending.proofs.Results.{end_failed}
use Rattle.packets.proofs.Repetitions.{never-repeated, first-never-repeated}
use Rattle.session.specs.LastLength.{LastLengths}

module _ (t : Transfer) where
  fc-none : (r : RequestFC) → (answer_fc t r).answered ≡ true → (answer_fc t r).transfer.progress.last ≡ 0
  unfolding answer_fc
  fc-none r =
      of-both (λ (s : Step). s.answered ≡ true → s.transfer.progress.last ≡ 0)
      (not (told_or_receiving t.leg.phase) || other_channel t r.channel) _ _
      (λ e. let z : ◌≡◌ {A = ℕ} 0 1 = cc in absurd (omega arith)) (λ e. refl)

  fb-none : (b : Board) (r : RequestFB) (area : List ℕ) → (answer_fb t b r area).answered ≡ true → state_fb b r (length area) ≡ 0
      → same_identity (identity_of r) t.image ≡ false → (answer_fb t b r area).transfer.progress.last ≡ 0
  unfolding answer_fb grant_fb after_fb
  fb-none b r area answered granted other =
      of-both (λ (s : Step). s.answered ≡ true → s.transfer.progress.last ≡ 0) (idle t.leg.phase || other_channel t r.channel) _ _
      (λ e. let z : ◌≡◌ {A = ℕ} 0 1 = cc in absurd (omega arith)) (λ e. simp (eq-eqb (state_fb b r (length area)) 0 granted, other)) answered

  fe-kept : (channel : ℕ) → (answer_fe t channel).transfer.progress.last ≡ t.progress.last
  unfolding answer_fe
  fe-kept channel =
      of-both (λ (s : Step). s.transfer.progress.last ≡ t.progress.last)
      (not (receiving_or_done t.leg.phase) || other_channel t channel) _ _ refl
      (of-both (λ (s : Step). s.transfer.progress.last ≡ t.progress.last)
      (not (eqb t.progress.stored t.image.announced)) _ _ refl refl)

  right_kept : (ended_fe t true).transfer.progress.last ≡ t.progress.last
  unfolding ended_fe
  right_kept = refl

  fa-kept : (b : Board) (r : RequestFA) → (answer_fa t b r).transfer.progress.last ≡ t.progress.last
  unfolding answer_fa
  fa-kept b r = of-both (λ (s : Step). s.transfer.progress.last ≡ t.progress.last) (refused_fa b r) _ _ refl refl

  fb-kept : (b : Board) (r : RequestFB) (area : List ℕ) → same_identity (identity_of r) t.image ≡ true
      → (answer_fb t b r area).transfer.progress.last ≡ t.progress.last
  unfolding answer_fb grant_fb after_fb
  fb-kept b r area e =
      let Kept : Step → Type 0 = λ s. s.transfer.progress.last ≡ t.progress.last in
      of-both Kept (idle t.leg.phase || other_channel t r.channel) _ _ refl
      (of-both Kept (eqb (state_fb b r (length area)) 0) _ _ (simp e) refl)

  fb-refused : (b : Board) (r : RequestFB) (area : List ℕ) → (state_fb b r (length area) ≡ granted → ⊥)
      → (answer_fb t b r area).transfer.progress.last ≡ t.progress.last
  unfolding answer_fb
  fb-refused b r area refused =
      of-both (λ (s : Step). s.transfer.progress.last ≡ t.progress.last) (idle t.leg.phase || other_channel t r.channel) _ _ refl
      (simp (ne_eqb (state_fb b r (length area)) granted refused))

pub last-length : LastLengths
last-length t =
    record {
      fc-none = fc-none t;
      fb-none = fb-none t;
      fe-none = ap (λ (s : Step). s.transfer.progress.last) (end_failed t);
      fe-kept = fe-kept t;
      on-kept = λ c. refl;
      right_kept = right_kept t;
      fa-kept = fa-kept t;
      fb-kept = fb-kept t;
      fb-refused = fb-refused t;
      never = never-repeated t;
      first-never = first-never-repeated t;
    }
