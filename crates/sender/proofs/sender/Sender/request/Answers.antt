-- `sender::sender::Sender::request` meets its contract. Assumes nothing.
use mathlib.Core.Path.{sym, ap, ◌∙◌}
use Prim.Native.Nat.{ℕ}
use Rattle.frames.proofs.FinishedFrames.{written_as}
use Rattle.commands.specs.Outcomes.{accepted}
use Rattle.sender.specs.Requests.{request_of}
use Rattle.sender.proofs.Requests.{request-refused, request-short, request-over, request-written}
use Rattle.sender.proofs.sender.Sender.request.Goals as goal

pub returns-in-Some : goal.returns-in-Some
returns-in-Some c =
    let a = c.args in
    let e = request-refused a.self a.image.now a.room.now _ c.in-Some.ensures in
    (c.without_request.ensures ∙ sym e.0, sym e.1)

pub returns-then-room-lt-MAX_FRAME : goal.returns-then-room-lt-MAX_FRAME
returns-then-room-lt-MAX_FRAME c =
    let a = c.args in
    let ok = c.in_default.ensures in
    let e = request-short a.self a.image.now a.room.now ok c.if-room-lt-MAX_FRAME.true in
    (c.without_request-then-room-lt-MAX_FRAME.ensures ∙ sym e.0, sym e.1)

pub returns-then-is_final : goal.returns-then-is_final
returns-then-is_final c =
    let final = sym c.is_final.ensures ∙ c.if-is_final.true in
    let ok = c.in_default.ensures in
    let a = c.args in
    let e = request-over a.self a.image.now a.room.now ok c.if-room-lt-MAX_FRAME.false final in
    (c.without_request-then-is_final.ensures ∙ sym e.0, sym e.1)

pub returns : goal.returns
returns c =
    let w = c.write.ensures in
    let frame = c.frame-frame in
    let still = sym c.is_final.ensures ∙ c.if-is_final.false in
    let ok = c.in_default.ensures in
    let a = c.args in
    let e = request-written a.self a.image.now a.room.now ok c.if-room-lt-MAX_FRAME.false still in
    let f = request_of a.self a.image.now in
    let written = written_as f frame.ensures w in (
      ap (λ (n : ℕ). record { outcome = accepted; length = n }) written.gives ∙ sym e.0,
      written.leaves ∙ sym e.1,
    )
