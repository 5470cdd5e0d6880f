-- `capture::stage::after_read` meets its contract. Assumes nothing.
use Rattle.std.proofs.Common.{refl, inl, inr, arith, le-ltb, lt-ltb}
use Rattle.capture.proofs.stage.after_read.Goals as goal

pub returns-then-end-gt0 : goal.returns-then-end-gt0
returns-then-end-gt0 c =
    record { value = simp (lt-ltb _ _ c.if-end-gt0.true); after_read = record { some = λ _. refl; none = λ e. absurd (omega (arith, c.if-end-gt0.true)) } }

pub returns-then-is_failed : goal.returns-then-is_failed
returns-then-is_failed c =
    record { value = simp (le-ltb _ _ c.if-end-gt0.false, c.if-is_failed.true); after_read = record { some = λ h. absurd (omega (arith, c.if-end-gt0.false)); none = λ _. inr refl } }

pub returns : goal.returns
returns c =
    record { value = simp (le-ltb _ _ c.if-end-gt0.false, c.if-is_failed.false); after_read = record { some = λ h. absurd (omega (arith, c.if-end-gt0.false)); none = λ _. inl refl } }
