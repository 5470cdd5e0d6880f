-- Demand 2 as bytes on the line, from demand 2 through calls. Assumes nothing.
use mathlib.Core.Path.{◌≡◌, refl, sym, ap, ap₂, ◌∙◌, subst}
use mathlib.Core.Bool.{Bool, true, false, cond, not, ◌&&◌}
use mathlib.Core.Logic.{◌↔◌}
use mathlib.Core.List.{List, [], ◌∷◌, ◌++◌, append_assoc, append-nil}
use Prim.Native.Nat.{ℕ, ◌+◌, ◌%◌, ◌≤◌}
use native.Mathlib.Omega.{arith}
use borrow.Author.Tests.{eq-eqb, le-ltb}
use lib.Dec.{eqb, ltb}
use lib.ListN.{length, take}
use lib.Seq.{take-length}
use Rattle.fronts.specs.Frame.{total, Frame, unsummed, encode}
use Rattle.frames.specs.declared.reader.Fed.{Fed}
use Rattle.frames.specs.Finished.{finished}
use Rattle.frames.specs.LiveReading.{feeding, fed, fed_alone}
use Rattle.frames.proofs.FedAlone.{fed-alone}
use Rattle.replies.specs.Replies.{reply_state}
use Rattle.ending.specs.FE.{reaches_crc}
use Rattle.session.specs.declared.check.Checked.{Checked}
use Rattle.session.specs.Transfers.{transfer_on, own_transfer}
use Rattle.session.specs.EndRequest.{IsEndRequest, Complete}
use Rattle.commands.specs.Outcomes.{accepted}
use Rattle.controller.specs.declared.record.Record.{Record}
use Rattle.commands.specs.Outcomes.{same_outcome}
use Rattle.controller.specs.Records.{is_checking}
use Rattle.controller.specs.Calls.{min_room, refusal_of, CallLeaves, fed_call, reply_in}
use Rattle.controller.specs.Portions.{PortionLeaves, checked_portion, portion_call, portion}
use Rattle.controller.specs.CheckCourse.{Later, bytes_asked, LendSameImage, Course, course_after, is_given, course, course_from}
use Rattle.controller.specs.EndRequest.{success_frame, EndAnswered}
use Rattle.controller.specs.EndRequestBytes.{end_request_bytes, success_bytes, portion_replies, replies_to, EndRequestOnTheLine}
use Rattle.controller.proofs.Refusals.{lawful_record, accepted-of}
use Rattle.controller.proofs.Keeping.{portion-refused, portion-accepted, no-check}
use Rattle.controller.proofs.EndRequestCall.{end_request_calls}
use Rattle.image.specs.declared.check.Check.{Check}
use Rattle.image.specs.declared.check.Verdict.{Verdict}
use Rattle.image.specs.declared.check.Verdict.TheVariants.{Unfinished, Right, Wrong}
use Rattle.session.specs.Checking.{outcome_of}
use Rattle.controller.proofs.PortionLeavings.{portion-leaving}
use Rattle.commands.proofs.Outcomes.{same-true}

-- ---- the bytes are the frames'

abbrev end_request : ℕ → Frame
end_request channel = record { version = 0x00; command = 0xFE; payload = channel ∷ [] }

module _ (channel : ℕ) where
  request-bytes : encode (end_request channel) ≡ end_request_bytes channel
  unfolding encode unsummed
  request-bytes =
      let sum : 0x55 + (0xAA + (0 + (0xFE + (0 + (1 + (channel + 0)))))) ≡ 0x1FE + channel = omega arith in
      ap (λ (n : ℕ). 0x55 ∷ 0xAA ∷ 0x00 ∷ 0xFE ∷ 0x00 ∷ 0x01 ∷ channel ∷ n % 256 ∷ []) sum

  success-bytes : success_frame channel ≡ success_bytes channel
  unfolding encode unsummed reply_state
  success-bytes =
      let sum : 0x55 + (0xAA + (0 + (0xFE + (0 + (2 + (channel + (0 + 0))))))) ≡ 0x1FF + channel = omega arith in
      ap (λ (n : ℕ). 0x55 ∷ 0xAA ∷ 0x00 ∷ 0xFE ∷ 0x00 ∷ 0x02 ∷ channel ∷ 0x00 ∷ n % 256 ∷ []) sum

  is_end_request : IsEndRequest (finished (end_request channel)) channel
  unfolding finished
  is_end_request = record { command = refl; version = refl; size = refl; for = refl }

-- ---- portions while no check runs

-- no reply, and the record stays
unchecked : (n : ℕ) (r : Record) (room area : List ℕ) → is_checking r ≡ false
    → ((portion_call n r room area).called.reply_length ≡ 0) × ((portion_call n r room area).called.next ≡ r)
unchecked n r room area still = go (same_outcome (refusal_of r (length room) (length area)) accepted) refl
  where
    P : PortionLeaves → Type 0
    P x = (x.called.reply_length ≡ 0) × (x.called.next ≡ r)

    go : (b : Bool) → same_outcome (refusal_of r (length room) (length area)) accepted ≡ b → P (portion_call n r room area)
    go false e = subst P (sym (portion-refused n r room area e)) (refl, refl)
    go true e =
        let a = accepted-of r (length room) (length area) (same-true _ _ e) in
        let none = no-check r.session n area (lawful_record r a.lawful).session a.size still in
        subst P (sym (portion-accepted n r room area e ∙ ap (λ (c : Checked). checked_portion c r room) none)) (refl, refl)

no-replies : (room area ns : List ℕ) (r : Record) → is_checking r ≡ false → portion_replies ns r room area ≡ []
no-replies room area [] r still = refl
no-replies room area (n ∷ ns) r still =
    let u = unchecked n r room area still in
    let y = portion_call n r room area in
    ap₂ ◌++◌ (ap (λ (k : ℕ). reply_in k y.room) u.0) (no-replies room area ns y.called.next (ap is_checking u.1 ∙ still))

-- ---- portions as the calls of a check's course, which ends at the verdict

abbrev later : List ℕ → List ℕ → ℕ → Later
later room area n = record { kind = portion n; untaken = []; room = room; memory = area }

portions : List ℕ → List ℕ → List ℕ → List Later
portions room area [] = []
portions room area (n ∷ ns) = later room area n ∷ portions room area ns

-- once a verdict is given no check runs
given-ends : (n : ℕ) (r : Record) (room area : List ℕ) → is_given (portion_call n r room area).called.verdict ≡ true
    → is_checking (portion_call n r room area).called.next ≡ false
given-ends n r room area given = go (is_checking r) (same_outcome (refusal_of r (length room) (length area)) accepted) refl refl
  where
    x : PortionLeaves
    x = portion_call n r room area

    no : {A : Type 0} → x.called.verdict ≡ Unfinished → A
    no e = let z = sym (ap is_given e) ∙ given in let y : ◌≡◌ {A = ℕ} 0 1 = cc in absurd (omega arith)

    go : (a b : Bool) → is_checking r ≡ a → same_outcome (refusal_of r (length room) (length area)) accepted ≡ b → is_checking x.called.next ≡ false
    go a false ea eb = no (ap (λ (l : PortionLeaves). l.called.verdict) (portion-refused n r room area eb))
    go false true ea eb = ap is_checking (unchecked n r room area ea).1 ∙ ea
    go true true ea eb =
        let o = portion-leaving n r room area in
        let c = o.counted (same-true _ _ eb) ea in
        let done = o.finished (c.number ∙ given_0 x.called.verdict given) in
        ap (λ (k : Check). k.running) done.0
      where
        given_0 : (v : Verdict) → is_given v ≡ true → outcome_of v ≡ accepted
        given_0 Unfinished e = let y : ◌≡◌ {A = ℕ} 0 1 = cc in absurd (omega arith)
        given_0 Right e = refl
        given_0 Wrong e = refl

course-replies : (room area ns : List ℕ) (x : Course) → x.verdict ≡ Unfinished
    → (course (portions room area ns) x).replies ≡ x.replies ++ portion_replies ns x.at room area
unfolding portions
course-replies room area [] x e = sym (append-nil x.replies)
course-replies room area (n ∷ ns) x e =
    let y = portion_call n x.at room area in
    let next = course_after (portion n) (later room area n) x in
    ap (λ (v : Verdict). (cond (is_given v) x (course (portions room area ns) next)).replies) e
    ∙ go y.called.verdict refl (λ u. course-replies room area ns next u)
    ∙ append_assoc x.replies (reply_in y.called.reply_length y.room) (portion_replies ns y.called.next room area)
  where
    y : PortionLeaves
    y = portion_call n x.at room area

    next : Course
    next = course_after (portion n) (later room area n) x

    -- the course stops at a verdict, and then no portion replies
    stopped : is_given y.called.verdict ≡ true
        → (course (portions room area ns) next).replies ≡ next.replies ++ portion_replies ns y.called.next room area
    stopped given =
        at-verdict ns
        ∙ sym (ap (λ (l : List (List ℕ)). next.replies ++ l)
        (no-replies room area ns y.called.next (given-ends n x.at room area given))
        ∙ append-nil next.replies)
      where
        at-verdict : (ms : List ℕ) → (course (portions room area ms) next).replies ≡ next.replies
        at-verdict [] = refl
        at-verdict (m ∷ ms) =
            ap (λ (b : Bool). (cond b next (course (portions room area ms) (course_after (portion m) (later room area m) next))).replies)
            given

    go : (v : Verdict) → y.called.verdict ≡ v
        → (y.called.verdict ≡ Unfinished
        → (course (portions room area ns) next).replies ≡ next.replies ++ portion_replies ns y.called.next room area)
        → (course (portions room area ns) next).replies ≡ next.replies ++ portion_replies ns y.called.next room area
    go Unfinished e on = on e
    go Right e on = stopped (ap is_given e)
    go Wrong e on = stopped (ap is_given e)

-- ---- portions that lend the area

module _ (room area : List ℕ) (wide : min_room ≤ length room) where
  asked_is : (ns : List ℕ) → bytes_asked (length area) (portions room area ns) ≡ total ns
  unfolding portions
  asked_is [] = refl
  asked_is (n ∷ ns) =
      let enough : (eqb (length area) (length area) && not (ltb (length room) min_room)) ≡ true =
      ap₂ (λ (a b : Bool). a && not b) (eq-eqb (length area) (length area) refl) (le-ltb (length room) min_room wide) in
      ap₂ (λ (b : Bool) (k : ℕ). cond b n 0 + k) enough (asked_is ns)

  same-image : (k : ℕ) (ns : List ℕ) → LendSameImage k area (portions room area ns)
  unfolding portions
  same-image k [] = tt
  same-image k (n ∷ ns) = (λ _. refl, same-image k ns)

-- ---- the claim

module _ (r : Record) (channel : ℕ) (room area ns : List ℕ) (ok : refusal_of r (length room) (length area) ≡ accepted)
    (none : r.reader.count ≡ 0)
    (still : is_checking r ≡ false) (asked : (own_transfer r.session).image.announced ≤ total ns) where
  abbrev bytes : List ℕ
  bytes = end_request_bytes channel

  read : fed r.reader (take (length bytes) bytes) ≡ fed_alone (end_request channel)
  read =
      ap (fed r.reader) (take-length bytes ∙ sym (request-bytes channel))
      ∙ fed-alone (end_request channel) (omega arith) r.reader none

  -- what demand 2 says of the call
  answered : EndAnswered r (finished (end_request channel)) channel area (fed_call bytes r room area)
  answered =
      let call = feeding (length bytes) in
      let is = subst (λ (x : Fed). IsEndRequest x.frame channel) (sym read) (is_end_request channel) in
      let a = end_request_calls call bytes r channel room area ok still (ap (λ (x : Fed). x.found) read) is in
      subst (λ (b : List ℕ). EndAnswered r (finished (end_request channel)) channel area (fed_call b r room area)) (take-length bytes)
      (subst (λ (x : Fed). EndAnswered r x.frame channel area (fed_call (take (length bytes) bytes) r room area)) read a)

  abbrev y : CallLeaves
  y = fed_call bytes r room area

  -- the replies up to the verdict are all replies
  all-replies : (course (portions room area ns) (course_from y.called.next)).replies ≡ portion_replies ns y.called.next room area
  all-replies = course-replies room area ns (course_from y.called.next) refl

  wide : min_room ≤ length room
  wide = (accepted-of r (length room) (length area) ok).wide

  -- the reply was given at once, and is not success
  given_at_once : reaches_crc (transfer_on r.session channel) channel ≡ false
      → (replies_to channel ns r room area ≡ success_bytes channel ∷ []) ↔ Complete (transfer_on r.session channel) channel area
  given_at_once e =
      let a = answered.at_once e in
      let silent = no-replies room area ns y.called.next a.0 in
      let all : replies_to channel ns r room area ≡ reply_in y.called.reply_length y.room =
      ap (λ (l : List (List ℕ)). reply_in y.called.reply_length y.room ++ l) silent ∙ append-nil _ in (
        λ w. absurd (a.1.0 (sym all ∙ w ∙ ap (λ (b : List ℕ). b ∷ []) (sym (success-bytes channel)))),
        λ c. absurd (a.1.1 c),
      )

  -- or it is the verdict's
  given-later : reaches_crc (transfer_on r.session channel) channel ≡ true
      → (replies_to channel ns r room area ≡ success_bytes channel ∷ []) ↔ Complete (transfer_on r.session channel) channel area
  given-later e =
      let end = answered.finally e (portions room area ns) (same-image room area wide _ ns) (omega (arith, asked_is room area wide ns)) in
      let all : replies_to channel ns r room area ≡ (course (portions room area ns) (course_from y.called.next)).replies =
      ap (λ (n : ℕ). reply_in n y.room ++ portion_replies ns y.called.next room area) (answered.starts e).no-reply
      ∙ sym all-replies in
      let success = ap (λ (b : List ℕ). b ∷ []) (success-bytes channel) in
      (λ w. end.success.0 (sym all ∙ w ∙ sym success), λ c. all ∙ end.success.1 c ∙ success)

pub end_request_on_the_line : EndRequestOnTheLine
end_request_on_the_line r channel room area ns ok none still asked =
    go (reaches_crc (transfer_on r.session channel) channel) refl
  where
    go : (b : Bool) → reaches_crc (transfer_on r.session channel) channel ≡ b
        → (replies_to channel ns r room area ≡ success_bytes channel ∷ []) ↔ Complete (transfer_on r.session channel) channel area
    go true e = given-later r channel room area ns ok none still asked e
    go false e = given_at_once r channel room area ns ok none still asked e
