-- `desk::desk::Desk::call_sender` meets its contract. Assumes nothing.
use mathlib.Core.Path.{◌≡◌, refl, ap, ap₂, ◌∙◌}
use mathlib.Core.List.{List}
use Prim.Native.Nat.{ℕ}
use native.Mathlib.Omega.{arith}
use borrow.Author.Tests.{ne_eqb}
use Rattle.text.proofs.Texts.{texts_as}
use Rattle.desk.proofs.Tellings.{told_as}
use lib.ListN.{length}
use Rattle.sender.specs.declared.decision.Decided.{Decided}
use Rattle.sender.specs.Replies.{after_reply}
use Rattle.sender.specs.Silences.{after_silence}
use Rattle.desk.specs.Desks.{with_sender}
use Rattle.desk.specs.Effects.{reply_name, silence_name, sender_open_desk, sender_open_texts, request_texts, request_room, decision_texts}
use Rattle.desk.specs.Obeying.{sent}
use Rattle.desk.proofs.Doings.{told-only, done-told}
use Rattle.desk.proofs.desk.Desk.call_sender.Goals as goal

pub returns-in-36 : goal.returns-in-36
unfolding sent
returns-in-36 c =
    let a = c.args in
    let e = c.front-lent.ensures in
    λ area. simp (c.in-36.is)
    (done-told (told_as (ap (λ (s : List ℕ). sender_open_desk a.self a.phrase.first a.bytes.now (length s)) e) (ap (λ (s : List ℕ). sender_open_texts a.self a.number a.phrase.first a.bytes.now (length s)) e) c.open_sender.ensures))

pub returns-in-37 : goal.returns-in-37
unfolding sent
returns-in-37 c =
    let a = c.args in
    let e = c.front-lent.ensures in
    λ area. simp (c.in-37.is)
    (record { tells = told-only (texts_as (ap (λ (s : List ℕ). request_texts a.self a.number s a.room.now) e) c.request.ensures.tells); leaves-room = c.request.ensures.room_after ∙ ap (λ (s : List ℕ). request_room a.self s a.room.now) e; leaves-area = refl; leaves-image = refl })

pub returns-in-38 : goal.returns-in-38
unfolding sent
returns-in-38 c =
    let a = c.args in
    let e = ap₂ (after_reply a.self.sender) c.front-lent.ensures c.front-reply.ensures in
    λ area. simp (c.in-38.is)
    (done-told (told_as (ap (λ (x : Decided). with_sender a.self x.next) e) (ap (decision_texts a.self a.number reply_name) e) c.reply.ensures))

pub returns-in-39 : goal.returns-in-39
unfolding sent
returns-in-39 c =
    let a = c.args in
    let e = ap (λ (s : List ℕ). after_silence a.self.sender (length s)) c.front-lent.ensures in
    λ area. simp (c.in-39.is)
    (done-told (told_as (ap (λ (x : Decided). with_sender a.self x.next) e) (ap (decision_texts a.self a.number silence_name) e) c.silence.ensures))

pub returns-in_default : goal.returns-in_default
unfolding sent
returns-in_default c =
    let command = c.args.phrase.command in
    let no_open : command ≡ 36 → ⊥ = λ e. omega arith in
    let no_request : command ≡ 37 → ⊥ = λ e. omega arith in
    let no_reply : command ≡ 38 → ⊥ = λ e. omega arith in
    let no_silence : command ≡ 39 → ⊥ = λ e. omega arith in
    λ area. simp (ne_eqb _ _ no_open, ne_eqb _ _ no_request, ne_eqb _ _ no_reply, ne_eqb _ _ no_silence) (done-told (told-only c.show_sender.ensures))
