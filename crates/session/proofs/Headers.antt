-- What holds of all three ways that a header can be judged. Assumes nothing.
use Rattle.commands.specs.declared.table.Header.{Header}
use Rattle.commands.specs.declared.table.Header.TheVariants.{Unlisted, Wrong, Right}
use Rattle.session.specs.Answering.{by_header}

pub by-header : {A : Type 0} (P : A → Type 0) (h : Header) (a b c : A) → P a → P b → P c → P (by_header h a b c)
by-header P Unlisted a b c p q r = p
by-header P Wrong a b c p q r = q
by-header P Right a b c p q r = r
