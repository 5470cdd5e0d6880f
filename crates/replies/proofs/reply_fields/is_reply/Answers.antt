-- `replies::reply_fields::is_reply` meets its contract. Assumes nothing.
use mathlib.Core.Path.{◌≡◌, refl, sym, ap, ap₂, ◌∙◌}
use mathlib.Core.Bool.{Bool, true, false, ◌&&◌}
use Prim.Native.Nat.{ℕ}
use lib.Dec.{eqb}
use lib.ListN.{length}
use Rattle.frames.specs.Buffer.{alone_at, version_at, command_at, data_at}
use Rattle.commands.specs.declared.table.Row.{Row}
use Rattle.replies.specs.ReplyFields.{is_reply}
use Rattle.replies.proofs.reply_fields.is_reply.Goals as goal
use Rattle.replies.proofs.reply_fields.is_reply.Goals.{then-alone, else-alone, then-command, else-command}

-- a test is asked where those before it passed, and else passed over
asked : (a b v : Bool) → a ≡ true → v ≡ b → v ≡ (a && b)
asked true b v t e = e
asked false b v t e = cc

passed : (a b v : Bool) → a ≡ false → v ≡ a → v ≡ (a && b)
passed true b v t e = cc
passed false b v t e = e

last : (a b c d : Bool) → ((a && b) && c) ≡ true → d ≡ (a && (b && (c && d)))
last true true true d e = refl
last true true false d e = cc
last true false c d e = cc
last false b c d e = cc

none : (a b c d : Bool) → ((a && b) && c) ≡ false → false ≡ (a && (b && (c && d)))
none true true true d e = cc
none true true false d e = refl
none true false c d e = refl
none false b c d e = refl

pub returns-then-version-row : goal.returns-then-version-row
unfolding is_reply
returns-then-version-row c =
    let a = c.args in
    let s = a.s.now in
    let row = c.row_of-row.result in
    let alone = alone_at s in
    let own = eqb (command_at s) a.command in
    let version = eqb (version_at s) row.reply_version in
    let first : c.if-alone.value ≡ (alone && own) =
    elim c.if-alone.branch [
      | then-alone w ↦
          let t = sym c.alone.ensures ∙ w.if-alone.true in
          let is = w.value-is ∙ ap (λ (x : ℕ). eqb x a.command) w.command.ensures in
          asked alone own _ t is
      | else-alone w ↦ passed alone own _ (sym c.alone.ensures ∙ w.if-alone.false) (w.value-is ∙ c.alone.ensures)
    ] in
    let second : c.if-command.value ≡ ((alone && own) && version) =
    elim c.if-command.branch [
      | then-command w ↦
          let t = sym first ∙ w.if-command.true in
          let is = w.value-is ∙ ap (λ (x : ℕ). eqb x row.reply_version) w.version.ensures in
          asked (alone && own) version _ t is
      | else-command w ↦ passed (alone && own) version _ (sym first ∙ w.if-command.false) (w.value-is ∙ first)
    ] in
    last alone own version (eqb (length c.data.result.now) row.reply_length) (sym second ∙ c.if-version-row.true)
    ∙ ap₂ (λ (n : ℕ) (r : Row). alone && (own && (eqb (version_at s) r.reply_version && eqb n r.reply_length)))
    (ap length c.data.ensures.result_value) c.row_of-row.ensures.is

pub returns-else-version-row : goal.returns-else-version-row
unfolding is_reply
returns-else-version-row c =
    let a = c.args in
    let s = a.s.now in
    let row = c.row_of-row.result in
    let alone = alone_at s in
    let own = eqb (command_at s) a.command in
    let version = eqb (version_at s) row.reply_version in
    let first : c.if-alone.value ≡ (alone && own) =
    elim c.if-alone.branch [
      | then-alone w ↦
          let t = sym c.alone.ensures ∙ w.if-alone.true in
          let is = w.value-is ∙ ap (λ (x : ℕ). eqb x a.command) w.command.ensures in
          asked alone own _ t is
      | else-alone w ↦ passed alone own _ (sym c.alone.ensures ∙ w.if-alone.false) (w.value-is ∙ c.alone.ensures)
    ] in
    let second : c.if-command.value ≡ ((alone && own) && version) =
    elim c.if-command.branch [
      | then-command w ↦
          let t = sym first ∙ w.if-command.true in
          let is = w.value-is ∙ ap (λ (x : ℕ). eqb x row.reply_version) w.version.ensures in
          asked (alone && own) version _ t is
      | else-command w ↦ passed (alone && own) version _ (sym first ∙ w.if-command.false) (w.value-is ∙ first)
    ] in
    c.if-version-row.false
    ∙ none alone own version (eqb (length (data_at s)) row.reply_length) (sym second ∙ c.if-version-row.false)
    ∙ ap (λ (r : Row). alone && (own && (eqb (version_at s) r.reply_version && eqb (length (data_at s)) r.reply_length)))
    c.row_of-row.ensures.is
