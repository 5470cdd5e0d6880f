-- Demand 2's "exactly when", through calls: the end request, and whatever calls come until its verdict. Assumes nothing.
use mathlib.Core.Path.{◌≡◌, refl, sym, ap, ap₂, ◌∙◌, subst}
use mathlib.Core.Bool.{Bool, true, false, cond}
use mathlib.Core.Logic.{◌↔◌, ⊎_elim}
use mathlib.Core.List.{List, [], ◌∷◌}
use Rattle.std.specs.Prelude.{Some, IsSomeAnd}
use Prim.Native.Nat.{ℕ, ◌≤◌, ◌<◌}
use native.Mathlib.Omega.{arith}
use borrow.Author.Tests.{eqb-true, eq-eqb}
use lib.Dec.{ltb, eqb}
use lib.ListN.{length, get_or, take, length-take}
use Rattle.frames.specs.declared.reader.Fed.{Fed}
use Rattle.fronts.specs.Frame.{max_frame, Frame, unsummed, encode}
use Rattle.sequences.specs.Padding.{padded}
use Rattle.frames.specs.LiveReading.{Call, called, fed_by, held_bytes}
use Rattle.frames.proofs.Calls.{call-accepted, call-keeps}
use Rattle.commands.specs.declared.table.Header.{Header}
use Rattle.commands.specs.Limits.{max_reply}
use Rattle.replies.specs.Replies.{reply_state, reply_frame}
use Rattle.replies.proofs.ReplyFrames.{reply-frames}
use Rattle.image.specs.declared.check.Verdict.TheVariants.{Right, Wrong}
use Rattle.transfer.specs.declared.state.Transfer.{Transfer}
use Rattle.image.specs.Checks.{started_check}
use Rattle.transfer.specs.Transfers.{with_check, replied}
use Rattle.ending.specs.FE.{reaches_crc}
use Rattle.ending.specs.Portions.{unread, will_say, right_crc}
use Rattle.ending.proofs.Ends.{started-says}
use Rattle.session.specs.declared.session.Session.{Session}
use Rattle.session.specs.declared.answer.Answer.{Answer}
use Rattle.commands.specs.Outcomes.{accepted, unlisted_command, wrong_header, unlisted_channel, check_runs}
use Rattle.session.specs.Lawful.{unlawful}
use Rattle.session.specs.Answering.{stepped, place_for, answered, area_after, by_header}
use Rattle.session.specs.OneGo.{in_one_go}
use Rattle.session.specs.EndRequest.{IsEndRequest, Complete}
use Rattle.session.specs.Transfers.{with_transfer}
use Rattle.session.proofs.EndRequests.{fe-header, fe-area, unlisted_incomplete, starts-at-crc, complete_reaches, early-answers}
use Rattle.session.proofs.EndRequests.{started-complete}
use Rattle.session.proofs.Checks.{StartedBy, started-by, started-lawful, started-due, due_of}
use Rattle.controller.specs.declared.record.Record.{Record}
use Rattle.controller.specs.Records.{unlawful_record, is_checking}
use Rattle.controller.specs.Calls.{min_room, refusal_of, CallLeaves, reply_size_of, reply_room_of, reply_in, answered_call}
use Rattle.controller.specs.Calls.{finished_call, called_by}
use Rattle.controller.specs.Leaving.{checking_on, state_frame, verdict_state}
use Rattle.controller.specs.CheckCourse.{Later, lends_enough, bytes_asked, LendSameImage, Course, course_from, course}
use Rattle.controller.specs.EndRequest.{success_frame, Starts, NotYet, AsInOneGo, EndRequestCalls, EndRequestMeetsCheck}
use Rattle.controller.proofs.Refusals.{lawful_record, record_accepted, accepted-of}
use Rattle.controller.proofs.Steps.{reply_in_lem, calling_accepted}
use Rattle.controller.proofs.Settling.{ended-reply, ended-one}
use Rattle.controller.proofs.RunningChecks.{while_checking, frame-meets-check}
use Rattle.controller.proofs.Courses.{AllSame, Done, stands_at, any_memory}
use Rattle.commands.proofs.Outcomes.{is-same}
use Rattle.commands.proofs.Outcomes.{same-false}

true_false : {A : Type 0} → true ≡ false → A
true_false e = let z : ◌≡◌ {A = ℕ} 0 1 = cc in absurd (omega arith)

-- ---- the frame FE, channel, state

-- frames of other states are other bytes
state-shows : (k channel m n : ℕ) → state_frame k m ∷ [] ≡ state_frame channel n ∷ [] → m ≡ n
unfolding encode unsummed reply_state
state-shows k channel m n e = ap (λ (b : List (List ℕ)). get_or (first b) 7 0) e
  where
    first : List (List ℕ) → List ℕ
    first [] = []
    first (l ∷ ls) = l

-- the reply of a state, in the room
state_in : (channel state : ℕ) (room : List ℕ) → min_room ≤ length room → let d = padded max_reply (reply_state channel state) in
    reply_in (reply_size_of (Some d) 0xFE room) (reply_room_of (Some d) 0xFE room) ≡ state_frame channel state ∷ []
state_in channel state room wide =
    let d = padded max_reply (reply_state channel state) in
    reply_in_lem (Some d) 0xFE room (λ _. reply-frames.fe-replied) wide
    ∙ ap (λ (f : Frame). encode f ∷ []) (reply-frames.fe channel state)

module _ (call : Call) (untaken : List ℕ) (r : Record) (channel : ℕ) (room area : List ℕ)
    (ok : refusal_of r (length room) (length area) ≡ accepted)
    (still : is_checking r ≡ false) (found : (fed_by call untaken r.reader).found ≡ true)
    (is : IsEndRequest (fed_by call untaken r.reader).frame channel) where
  abbrev f : Fed
  f = fed_by call untaken r.reader

  abbrev s : Session
  s = r.session

  abbrev t : Transfer
  t = r.session.transfer

  abbrev a : Answer
  a = answered r.session f.frame area

  abbrev x : CallLeaves
  x = called_by (fed_by call untaken) r room area

  abbrev answer_is : Answer → CallLeaves
  answer_is y =
      record {
        called = answered_call f y room;
        room = reply_room_of y.reply f.frame.command room;
        area = area_after r.session f.frame area;
      }

  call-is : x ≡ answer_is a
  unfolding finished_call
  call-is = calling_accepted (fed_by call untaken) r room area (is-same _ _ ok) ∙ rw found

  lawful-r : unlawful_record r ≡ false
  lawful-r = (accepted-of r (length room) (length area) ok).lawful

  lawful : unlawful r.session ≡ false
  lawful = (lawful_record r lawful-r).session

  size : length area ≡ r.session.opened
  size = (accepted-of r (length room) (length area) ok).size

  wide : min_room ≤ length room
  wide = (accepted-of r (length room) (length area) ok).wide

  runs-is : is_checking x.called.next ≡ a.session.transfer.check.running
  runs-is = ap (λ (y : CallLeaves). is_checking y.called.next) call-is

  -- a check starts exactly when the end request gets as far as the CRC
  starts_is : is_checking x.called.next ≡ reaches_crc t channel
  starts_is = runs-is ∙ starts-at-crc s f.frame channel area lawful size is still

  same_area : x.area ≡ area
  same_area = ap (λ (y : CallLeaves). y.area) call-is ∙ fe-area s f.frame channel area lawful size is

  -- ---- answered at once

  abbrev reply : CallLeaves → List (List ℕ)
  reply y = reply_in y.called.reply_length y.room

  -- the call's reply, by the answer
  replied-is : (n : ℕ) → a ≡ stepped s (replied t (reply_state channel n)) → reply x ≡ state_frame channel n ∷ []
  replied-is n e =
      ap reply (call-is ∙ ap answer_is e)
      ∙ ap (λ (c : ℕ). reply_in (reply_size_of (Some (padded max_reply (reply_state channel n))) c room)
      (reply_room_of (Some (padded max_reply (reply_state channel n))) c room)) is.command
      ∙ state_in channel n room wide

  at_once : reaches_crc t channel ≡ false → (is_checking x.called.next ≡ false) ×
      ((reply x ≡ success_frame channel ∷ [] → ⊥) × (Complete t channel area → ⊥))
  at_once early =
      let none = starts_is ∙ early in
      let not-running = sym runs-is ∙ none in (
        none,
        (
          λ y. ⊎_elim
              (λ e. let z = ap length (sym (ap reply (call-is ∙ ap answer_is e)) ∙ y) in omega arith)
              (λ w. ⊎_elim
              (λ e. let z = state-shows channel channel 3 0 (sym (replied-is 3 e) ∙ y) in omega arith)
              (λ e. let z = state-shows channel channel 1 0 (sym (replied-is 1 e) ∙ y) in omega arith)
              w)
              (early-answers s f.frame channel area lawful size is still not-running),
          λ c. true_false (sym (complete_reaches s f.frame channel area lawful size is still c) ∙ early),
        ),
      )

  -- ---- by portions

  module _ (reaches : reaches_crc t channel ≡ true) where
    runs : is_checking x.called.next ≡ true
    runs = starts_is ∙ reaches

    started : StartedBy s f.frame area
    started = started-by s f.frame area still (sym runs-is ∙ runs)

    session-is : x.called.next.session ≡ with_transfer s (with_check t started_check)
    session-is = ap (λ (y : CallLeaves). y.called.next.session) call-is ∙ ap (λ (y : Answer). y.session) started.is

    reader_small : x.called.next.reader.count ≤ max_frame
    reader_small =
        let l = (lawful_record r lawful-r).count in
        let c = called call (held_bytes r.reader) untaken in
        let held = (call-keeps call (held_bytes r.reader) untaken).small
        (omega (arith, length-take r.reader.count r.reader.held)) in
        let e : x.called.next.reader.count ≡ length c.held =
        ap (λ (y : CallLeaves). y.called.next.reader.count) call-is
        ∙ ap (λ (y : Fed). y.next.count) (call-accepted call untaken r.reader l) in
        omega arith

    lawful-next : unlawful_record x.called.next ≡ false
    lawful-next =
        record_accepted _ (record {
          count = reader_small;
          session =
              subst (λ (u : Session). unlawful u ≡ false) (sym session-is) (started-lawful s f.frame area lawful still started);
        })

    all-unread : unread x.called.next.session.transfer ≡ t.image.announced
    all-unread =
        ap (λ (u : Session). unread u.transfer) session-is
        ∙ (let z : unread (with_check t started_check) ≡ t.image.announced = omega arith in z)

    starts : Starts r x
    starts =
        let e = call-is ∙ ap answer_is started.is in
        record {
          outcome = ap (λ (y : CallLeaves). y.called.outcome) e;
          no-reply = ap (λ (y : CallLeaves). y.called.reply_length) e;
          lawful = lawful-next;
          runs = runs;
          all-unread = all-unread;
        }

    opened-is : x.called.next.session.opened ≡ length area
    opened-is = ap (λ (u : Session). u.opened) session-is ∙ sym size

    announced-is : x.called.next.session.transfer.image.announced ≡ t.image.announced
    announced-is = ap (λ (u : Session). u.transfer.image.announced) session-is

    -- "its verdict is that of the check in one go"
    says_is : will_say x.called.next.session.transfer area ≡ right_crc t area
    says_is = ap (λ (u : Session). will_say u.transfer area) session-is ∙ started-says t area

    one-go : in_one_go s f.frame area ≡ stepped x.called.next.session (due_of x.called.next.session area)
    one-go =
        started-due s f.frame area lawful size (sym runs-is ∙ runs) started
        ∙ ap (λ (u : Session). stepped u (due_of u area)) (sym (ap (λ (y : CallLeaves). y.called.next.session) call-is))

    module _ (cs : List Later) where
      abbrev y : Course
      y = course cs (course_from x.called.next)

      lent_same : (cs : List Later) → LendSameImage t.image.announced area cs → AllSame x.called.next lawful-next runs area Unit cs
      lent_same [] i = tt
      lent_same (c ∷ cs) i = (
        λ _ e. subst (λ (n : ℕ). take n c.memory ≡ take n area) (sym announced-is)
            (i.0 (ap (λ (n : ℕ). lends_enough n c) (sym opened-is) ∙ e)),
        lent_same cs i.1,
      )

      asked_is : bytes_asked x.called.next.session.opened cs ≡ bytes_asked (length area) cs
      asked_is = ap (λ (n : ℕ). bytes_asked n cs) opened-is

      before : bytes_asked (length area) cs < t.image.announced → NotYet r y
      before h =
          let g = (stands_at x.called.next lawful-next runs [] ⊥ cs (any_memory x.called.next lawful-next runs cs)).before
          (omega (arith, h, asked_is, all-unread)) in
          let e : y.at.session ≡ checking_on s g.check =
          g.session ∙ ap (λ (u : Session). with_transfer u (with_check u.transfer g.check)) session-is in
          record {
            unfinished = g.unfinished;
            no-reply = g.no-reply;
            same-session = e ∙ ap (checking_on s) (sym (ap (λ (u : Session). u.transfer.check) e));
          }

      module _ (same : LendSameImage t.image.announced area cs) (h : t.image.announced ≤ bytes_asked (length area) cs) where
        done : Done x.called.next lawful-next runs area Unit y
        done =
            (stands_at x.called.next lawful-next runs area Unit cs (lent_same cs same)).finally (omega (arith, h, asked_is, all-unread))

        reply-is : IsSomeAnd (in_one_go s f.frame area).reply (λ d. y.replies ≡ encode (reply_frame 0xFE d) ∷ [])
        reply-is =
            subst (λ (w : Answer). IsSomeAnd w.reply (λ d. y.replies ≡ encode (reply_frame 0xFE d) ∷ [])) (sym one-go)
            (ended-one x.called.next.session.transfer (will_say x.called.next.session.transfer area) y.replies (done.reply tt))

        state-is : y.replies ≡ state_frame t.leg.channel (verdict_state (cond (right_crc t area) Right Wrong)) ∷ []
        state-is =
            done.reply tt
            ∙ ended-reply x.called.next.session.transfer (will_say x.called.next.session.transfer area)
            ∙ ap₂ (λ (k : ℕ) (b : Bool). state_frame k (verdict_state (cond b Right Wrong)) ∷ [])
            (ap (λ (u : Session). u.transfer.leg.channel) session-is) says_is

        success : (y.replies ≡ success_frame channel ∷ []) ↔ Complete t channel area
        success = go (right_crc t area) refl
          where
            at : (b : Bool) → right_crc t area ≡ b → y.replies ≡ state_frame t.leg.channel (verdict_state (cond b Right Wrong)) ∷ []
            at b e = state-is ∙ ap (λ (b : Bool). state_frame t.leg.channel (verdict_state (cond b Right Wrong)) ∷ []) e

            go : (b : Bool) → right_crc t area ≡ b → (y.replies ≡ success_frame channel ∷ []) ↔ Complete t channel area
            go true e =
                let c = started-complete s f.frame channel area lawful size is still (sym runs-is ∙ runs) (eqb-true _ _ e) in
                (λ _. c, λ _. at true e ∙ ap (λ (k : ℕ). state_frame k 0 ∷ []) (sym c.here))
            go false e = (
              λ w. absurd (let n = state-shows t.leg.channel channel 3 0 (sym (at false e) ∙ w) in omega arith),
              λ c. true_false (sym (eq-eqb _ _ c.right) ∙ e),
            )

        finally : AsInOneGo r f.frame channel area y
        finally =
            record {
              verdict = done.verdict tt ∙ ap (λ (b : Bool). cond b Right Wrong) says_is;
              all_read = done.read ∙ all-unread;
              reply = reply-is;
              session = done.session tt ∙ ap (λ (w : Answer). w.session) (sym one-go);
              success = success;
            }

pub end_request_calls : EndRequestCalls
end_request_calls call untaken r channel room area ok still found is =
    record {
      same_area = same_area call untaken r channel room area ok still found is;
      at_once = at_once call untaken r channel room area ok still found is;
      starts = starts call untaken r channel room area ok still found is;
      before = before call untaken r channel room area ok still found is;
      finally = finally call untaken r channel room area ok still found is;
    }

pub end_request_meets_check : EndRequestMeetsCheck
end_request_meets_check call untaken r channel room area ok runs found is =
    let f = fed_by call untaken r.reader in
    let a = accepted-of r (length room) (length area) ok in
    let listed = ltb (place_for r.session f.frame) r.session.count in
    let not-f9 : eqb f.frame.command 0xF9 ≡ false = ap (λ (n : ℕ). eqb n 0xF9) is.command in
    let outcome =
    frame-meets-check call untaken r room area ok runs found
    ∙ ap (λ (h : Header). by_header h unlisted_command wrong_header
    (cond (eqb f.frame.command 0xF9) accepted (cond listed check_runs unlisted_channel))) (fe-header f.frame channel is)
    ∙ ap (λ (b : Bool). cond b accepted (cond listed check_runs unlisted_channel)) not-f9 in
    ((while_checking call untaken r room area runs).no-reply, (outcome, λ four c. go listed refl (sym outcome ∙ four) c))
  where
    go : (b : Bool) → ltb (place_for r.session (fed_by call untaken r.reader).frame) r.session.count ≡ b
        → cond b check_runs unlisted_channel ≡ unlisted_channel → Complete r.session.transfer channel area → ⊥
    go true e four c = same-false check_runs unlisted_channel refl four
    go false e four c =
        let a = accepted-of r (length room) (length area) ok in
        unlisted_incomplete r.session (fed_by call untaken r.reader).frame channel area (lawful_record r a.lawful).session
        a.size is e c
