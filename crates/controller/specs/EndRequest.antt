-- Demand 2 through calls on the record. Document 02, K5: it "speaks of an end request that does not meet 12, once its check is finished,
-- nobody else changing the record or image bytes meanwhile; its verdict is that of the check in one go." Premises on the input alone.
-- Assumes nothing.
use Rattle.std.specs.Prelude.{◌≡◌, true, false, cond, ◌↔◌, IsSomeAnd, List, [], ◌∷◌, ℕ, ◌≤◌, ◌<◌, ltb, length}
use Rattle.frames.specs.declared.finished.FinishedFrame.{FinishedFrame}
use Rattle.fronts.specs.Frame.{encode}
use Rattle.frames.specs.LiveReading.{Call, fed_by}
use Rattle.replies.specs.Replies.{reply_frame}
use Rattle.image.specs.declared.check.Verdict.TheVariants.{Unfinished, Right, Wrong}
use Rattle.ending.specs.FE.{reaches_crc}
use Rattle.ending.specs.Portions.{unread, right_crc}
use Rattle.commands.specs.Outcomes.{accepted, unlisted_channel, check_runs}
use Rattle.session.specs.Answering.{place_for}
use Rattle.session.specs.OneGo.{in_one_go}
use Rattle.session.specs.Transfers.{transfer_on, own_transfer}
use Rattle.session.specs.EndRequest.{IsEndRequest, Complete}
use Rattle.controller.specs.declared.record.Record.{Record}
use Rattle.controller.specs.Records.{unlawful_record, is_checking}
use Rattle.controller.specs.Calls.{refusal_of, CallLeaves, called_by, reply_in}
use Rattle.controller.specs.Leaving.{checking_on, state_frame}
use Rattle.controller.specs.CheckCourse.{Later, bytes_asked, LendSameImage, Course, course_from, course}

-- the reply "success": the frame FE, that channel, 00
abbrev pub success_frame : ℕ → List ℕ
success_frame channel = state_frame channel 0

-- "starts a check (outcome 0, no reply)": the record is lawful, and nothing of the image is read
pub record Starts (r : Record) (y : CallLeaves) : Type 0 where
  pub outcome : y.called.outcome ≡ accepted
  pub no-reply : y.called.reply_length ≡ 0
  pub lawful : unlawful_record y.called.next ≡ false
  pub runs : is_checking y.called.next ≡ true
  pub all-unread : unread (own_transfer y.called.next.session) ≡ (own_transfer r.session).image.announced

-- the check has not come to its end: no reply yet, and nothing but the check's own fields has changed in the session
pub record NotYet (r : Record) (x : Course) : Type 0 where
  pub unfinished : x.verdict ≡ Unfinished
  pub no-reply : x.replies ≡ []
  pub same-session : x.at.session ≡ checking_on r.session (own_transfer x.at.session).check

-- it has: "its verdict is that of the check in one go", and so are the one reply up to it and the session; the reply is success exactly when
-- demand 2 says so
pub record AsInOneGo (r : Record) (f : FinishedFrame) (channel : ℕ) (area : List ℕ) (x : Course) : Type 0 where
  pub verdict : x.verdict ≡ cond (right_crc (own_transfer r.session) area) Right Wrong
  pub all_read : x.read ≡ (own_transfer r.session).image.announced
  pub reply : IsSomeAnd (in_one_go r.session f area).reply (λ d. x.replies ≡ encode (reply_frame 0xFE d) ∷ [])
  pub session : x.at.session ≡ (in_one_go r.session f area).session
  pub success : (x.replies ≡ success_frame channel ∷ []) ↔ Complete (transfer_on r.session channel) channel area

-- of the call y that ended at the end request f, on the record r
pub record EndAnswered (r : Record) (f : FinishedFrame) (channel : ℕ) (area : List ℕ) (y : CallLeaves) : Type 0 where
  -- it writes nothing into the area
  pub same_area : y.area ≡ area
  -- one that does not get as far as the CRC starts no check and has its reply now, if any: not success, and not everything holds that
  -- demand 2 asks for
  pub at_once : reaches_crc (transfer_on r.session channel) channel ≡ false
      → (is_checking y.called.next ≡ false)
      × ((reply_in y.called.reply_length y.room ≡ success_frame channel ∷ [] → ⊥)
      × (Complete (transfer_on r.session channel) channel area → ⊥))
  -- one that does starts a check and has no reply yet
  pub starts : reaches_crc (transfer_on r.session channel) channel ≡ true → Starts r y
  -- then every list of calls, refused ones included, by how many bytes they ask for: at first whatever memory they lend,
  pub before : reaches_crc (transfer_on r.session channel) channel ≡ true → (cs : List Later)
      → bytes_asked (length area) cs < (own_transfer r.session).image.announced → NotYet r (course cs (course_from y.called.next))
  -- and in the end if it has the image's bytes
  pub finally : reaches_crc (transfer_on r.session channel) channel ≡ true → (cs : List Later)
      → LendSameImage (own_transfer r.session).image.announced area cs
      → (own_transfer r.session).image.announced ≤ bytes_asked (length area) cs
      → AsInOneGo r f channel area (course cs (course_from y.called.next))

-- a feeding or quiet call that is not refused and ends at an end request, while no check runs
abbrev pub EndRequestCalls : Type 0
EndRequestCalls =
    (call : Call) (untaken : List ℕ) (r : Record) (channel : ℕ) (room area : List ℕ)
    → refusal_of r (length room) (length area) ≡ accepted → is_checking r ≡ false
    → let f = fed_by call untaken r.reader in
    f.found ≡ true → IsEndRequest f.frame channel → EndAnswered r f.frame channel area (called_by (fed_by call untaken) r room area)

-- One that comes while a check runs has no reply. It meets 12; or 4, and then not everything holds that demand 2 asks for.
abbrev pub EndRequestMeetsCheck : Type 0
EndRequestMeetsCheck =
    (call : Call) (untaken : List ℕ) (r : Record) (channel : ℕ) (room area : List ℕ)
    → refusal_of r (length room) (length area) ≡ accepted → is_checking r ≡ true
    → let f = fed_by call untaken r.reader in
    let c = (called_by (fed_by call untaken) r room area).called in
    f.found ≡ true → IsEndRequest f.frame channel
    → (c.reply_length ≡ 0)
    × ((c.outcome ≡ cond (ltb (place_for r.session f.frame) r.session.count) check_runs unlisted_channel)
    × (c.outcome ≡ unlisted_channel → Complete (transfer_on r.session channel) channel area → ⊥))
