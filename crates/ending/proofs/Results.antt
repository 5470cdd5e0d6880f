-- What FE and the end of its check answer, each by itself. Assumes nothing.
use mathlib.Core.Path.{◌≡◌, refl}
use mathlib.Core.Bool.{Bool, true, false, not, ◌||◌}
use Prim.Native.Nat.{ℕ}
use native.Mathlib.Omega.{arith}
use lib.Dec.{eqb}
use Rattle.sequences.proofs.Conditionals.{of-both}
use Rattle.replies.specs.Replies.{reply_state}
use Rattle.transfer.specs.declared.state.Transfer.{Transfer}
use Rattle.transfer.specs.Phases.{receiving_or_done}
use Rattle.transfer.specs.Transfers.{other_channel}
use Rattle.ending.specs.FE.{reaches_crc, answer_fe, ended_fe}
use Rattle.ending.specs.Results.{EndFailed, OtherState, NeverState02}

pub end_failed : EndFailed
unfolding ended_fe reply_state
end_failed t = refl

never_at_once : (t : Transfer) (channel : ℕ) → OtherState (answer_fe t channel)
unfolding answer_fe reply_state
never_at_once t channel =
    of-both OtherState (not (receiving_or_done t.leg.phase) || other_channel t channel) _ _ (λ e. omega arith)
    (of-both OtherState (not (eqb t.progress.stored t.image.announced)) _ _ (λ e. omega arith) tt)

never_at_end : (t : Transfer) (right : Bool) → OtherState (ended_fe t right)
unfolding ended_fe reply_state
never_at_end t true = λ e. omega arith
never_at_end t false = λ e. omega arith

pub never_state_02 : NeverState02
never_state_02 = record { at_once = never_at_once; at_end = never_at_end }

-- an FE that does not get as far as the CRC leaves the transfer
pub unreached_unmoved : (t : Transfer) (channel : ℕ) → reaches_crc t channel ≡ false → (answer_fe t channel).transfer ≡ t
unfolding answer_fe
unreached_unmoved t channel e = go (receiving_or_done t.leg.phase) (other_channel t channel) _ refl refl refl
  where
    go : (a b c : Bool) → receiving_or_done t.leg.phase ≡ a → other_channel t channel ≡ b
        → eqb t.progress.stored t.image.announced ≡ c → (answer_fe t channel).transfer ≡ t
    go false b c ea eb ec = simp ea
    go true true c ea eb ec = simp (ea, eb)
    go true false false ea eb ec = simp (ea, eb, ec)
    go true false true ea eb ec =
        let z : reaches_crc t channel ≡ true = simp (ea, eb, ec) in
        let y : ◌≡◌ {A = ℕ} 0 1 = cc in
        absurd (omega arith)
