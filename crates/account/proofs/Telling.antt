-- From the line of a frame to what is told of a call. Assumes nothing.
use Rattle.std.proofs.Common.{◌≡◌, ℕ, List, subst, ap₂}
use Rattle.text.specs.declared.output.Output.{Output}
use Rattle.account.specs.declared.account.Account.{Account}
use Rattle.account.specs.Texts.{FrameText}
use Rattle.account.specs.Accounts.{sum, drops_passed, FrameTold, FrameAdded}

pub drops-passed : (a : Account) (n place dropped : ℕ) → place ≡ sum a.place n → dropped ≡ sum a.dropped n
    → ◌≡◌ {A = Account} (record { place = place; dropped = dropped }) (drops_passed a n)
drops-passed a n place dropped e f = ap₂ (λ (p d : ℕ). record { place = p; dropped = d }) e f

-- the frame stands where the drops end, and its outcome is told by its number
pub frame_added :
    {a m r : Account} {command outcome said L : ℕ} {reply text : List ℕ} {o after : Output} → m ≡ a → said ≡ outcome
    → FrameText m.place command said reply text → FrameTold m text L o r after → FrameAdded a command outcome reply L o r after
frame_added {a} {m} {r} {command} {outcome} {said} {L} {reply} {text} {o} {after} e is says told =
    record {
      text = text;
      says = subst (λ (n : ℕ). FrameText a.place command n reply text) is (subst (λ (x : Account). FrameText x.place command said reply text) e says);
      told = subst (λ (x : Account). FrameTold x text L o r after) e told;
    }
