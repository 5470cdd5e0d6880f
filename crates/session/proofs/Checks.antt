-- A running end check at the session: which frame starts one, what comes of it in portions, and that the session stays lawful.
-- Assumes nothing.
use mathlib.Core.Path.{◌≡◌, refl, sym, ap, ◌∙◌, subst}
use mathlib.Core.Bool.{Bool, true, false, cond, not, ◌||◌}
use mathlib.Core.List.{List}
use Rattle.std.specs.Prelude.{None}
use Prim.Native.Nat.{ℕ, ◌<◌, ◌≤◌}
use native.Mathlib.Omega.{arith}
use borrow.Author.Tests.{eq-eqb}
use lib.Dec.{ltb, eqb}
use lib.ListN.{length, get_or}
use Rattle.frames.specs.declared.finished.FinishedFrame.{FinishedFrame}
use Rattle.sequences.proofs.Conditionals.{of-both, of_each}
use Rattle.commands.specs.declared.table.Header.{Header}
use Rattle.commands.specs.declared.table.Header.TheVariants.{Unlisted, Wrong, Right}
use Rattle.requests.specs.Requests.{channel_of, request_fa, request_fb, request_fc, request_fd, packet_of}
use Rattle.boards.specs.declared.board.Board.{Board}
use Rattle.image.specs.declared.check.Verdict.TheVariants.{Unfinished}
use Rattle.image.specs.declared.check.Check.{Check}
use Rattle.transfer.specs.declared.state.Transfer.{Transfer}
use Rattle.transfer.specs.declared.state.Step.{Step}
use Rattle.transfer.specs.Phases.{idle, told_or_receiving, receiving_or_done}
use Rattle.agreement.specs.FB.{identity_of, same_identity}
use Rattle.image.specs.Checks.{started_check, read_on, saying}
use Rattle.transfer.specs.Transfers.{Effect, unwritten, with_check, other_channel, noted}
use Rattle.agreement.specs.FA.{refused_fa, answer_fa}
use Rattle.agreement.specs.FB.{state_fb, after_fb, grant_fb, answer_fb}
use Rattle.agreement.specs.FC.{answer_fc}
use Rattle.packets.specs.FD.{takes, effect_fd, answer_fd}
use Rattle.ending.specs.FE.{answer_fe, ended_fe}
use Rattle.ending.specs.Portions.{unread, check_step, will_say, right_crc}
use Rattle.transfer.proofs.PhaseLaws.{image_busy, ending-image}
use Rattle.ending.proofs.Ends.{started-says, goes_on, ends}
use Rattle.commands.specs.declared.outcome.Outcome.{Outcome}
use Rattle.commands.specs.Outcomes.{accepted, unlisted_command, wrong_header, unlisted_channel, other_area, rules_broken, wrong_phase, check_runs}
use Rattle.session.specs.declared.session.Session.{Session}
use Rattle.session.specs.declared.answer.Answer.{Answer}
use Rattle.boards.specs.Boards.{past_board}
use Rattle.session.specs.Lawful.{unlawful, Lawful}
use Rattle.session.specs.Answering.{unchanged, stepped, within, place_for, effect_of, routed, by_header, header_of_frame, judged}
use Rattle.session.specs.Answering.{reaction, answered, area_after}
use Rattle.session.specs.Checking.{checked_by, checked}
use Rattle.session.specs.OneGo.{in_one_go}
use Rattle.session.proofs.Lawfuls.{lawful, lawful-accepted}
use Rattle.session.proofs.Headers.{by-header}
use Rattle.session.proofs.OneGoes.{called_in_one_go}
use Rattle.session.specs.Transfers.{with_transfer}
use Rattle.session.proofs.Kept.{fe-kept}
use Rattle.session.proofs.TableFrames.{is-fe}
use Rattle.commands.proofs.Outcomes.{same-false}

false_true : {A : Type 0} → false ≡ true → A
false_true e = let z : ◌≡◌ {A = ℕ} 0 1 = cc in absurd (omega arith)

-- ---- only FE starts a check

-- a transfer whose check does not run
module _ (t : Transfer) (still : t.check.running ≡ false) where
  abbrev Kept : Step → Type 0
  Kept x = x.transfer.check ≡ t.check

  fa-check : (b : Board) (r : _) → Kept (answer_fa t b r)
  unfolding answer_fa
  fa-check b r = of-both Kept (refused_fa b r) _ _ refl refl

  fb-check : (b : Board) (r : _) (area : List ℕ) → Kept (answer_fb t b r area)
  unfolding answer_fb grant_fb after_fb
  fb-check b r area =
      of-both Kept (idle t.leg.phase || other_channel t r.channel) _ _ refl
      (of-both Kept (eqb (state_fb b r (length area)) 0) _ _
      (of-both (λ (u : Transfer). u.check ≡ t.check) (same_identity (identity_of r) t.image) _ _ refl refl) refl)

  fc-check : (r : _) → Kept (answer_fc t r)
  unfolding answer_fc
  fc-check r = of-both Kept (not (told_or_receiving t.leg.phase) || other_channel t r.channel) _ _ refl refl

  fd-check : (r : _) (p area : List ℕ) → Kept (answer_fd t r p area)
  unfolding effect_fd
  fd-check r p area = of-both (λ (x : Effect Step). Kept x.gives) (takes t r p area) _ _ refl refl

  fe-starts : (channel : ℕ) → (answer_fe t channel).transfer.check.running ≡ true → answer_fe t channel ≡ noted (with_check t started_check)
  unfolding answer_fe
  fe-starts channel =
      let Starts : Step → Type 0 = λ x. x.transfer.check.running ≡ true → x ≡ noted (with_check t started_check) in
      of-both Starts (not (receiving_or_done t.leg.phase) || other_channel t channel) _ _ (λ e. false_true (sym still ∙ e))
      (of-both Starts (not (eqb t.progress.stored t.image.announced)) _ _ (λ e. false_true (sym still ∙ e)) (λ e. refl))

  -- what is known of a frame that starts a check
  record Starting (f : FinishedFrame) (x : Step) : Type 0 where
    is : x ≡ noted (with_check t started_check)
    answers : answer_fe t (channel_of f.bytes) ≡ noted (with_check t started_check)
    not-fa : eqb f.command 0xFA ≡ false
    not-fb : eqb f.command 0xFB ≡ false
    not-fc : eqb f.command 0xFC ≡ false
    not-fd : eqb f.command 0xFD ≡ false

  step-starts : (f : FinishedFrame) (b : Board) (area : List ℕ) → (effect_of t f b area).gives.transfer.check.running ≡ true
      → Starting f (effect_of t f b area).gives × ((effect_of t f b area).area ≡ area)
  unfolding effect_of
  step-starts f b area e =
      go (eqb f.command 0xFA) (eqb f.command 0xFB) (eqb f.command 0xFC) (eqb f.command 0xFD) refl refl refl refl
    where
      no : {A : Type 0} (x : Step) → (effect_of t f b area).gives ≡ x → Kept x → A
      no x is kept =
          false_true (sym still ∙ sym (ap (λ (c : Check). c.running) kept) ∙ sym (ap (λ (y : Step). y.transfer.check.running) is) ∙ e)

      go : (p q u v : Bool) → eqb f.command 0xFA ≡ p → eqb f.command 0xFB ≡ q → eqb f.command 0xFC ≡ u → eqb f.command 0xFD ≡ v
          → Starting f (effect_of t f b area).gives × ((effect_of t f b area).area ≡ area)
      go true q u v ep eq eu ev = no (answer_fa t b (request_fa f.bytes)) (rw ep) (fa-check b (request_fa f.bytes))
      go false true u v ep eq eu ev = no (answer_fb t b (request_fb f.bytes) area) (rw (ep, eq)) (fb-check b (request_fb f.bytes) area)
      go false false true v ep eq eu ev = no (answer_fc t (request_fc f.bytes)) (rw (ep, eq, eu)) (fc-check (request_fc f.bytes))
      go false false false true ep eq eu ev =
          no (answer_fd t (request_fd f.bytes) (packet_of f.length f.bytes) area) (rw (ep, eq, eu, ev))
          (fd-check (request_fd f.bytes) (packet_of f.length f.bytes) area)
      go false false false false ep eq eu ev =
          let x : effect_of t f b area ≡ unwritten (answer_fe t (channel_of f.bytes)) area = rw (ep, eq, eu, ev) in
          let g = ap (λ (y : Effect Step). y.gives) x in
          let starts = fe-starts (channel_of f.bytes) (sym (ap (λ (y : Step). y.transfer.check.running) g) ∙ e) in (
            record { is = g ∙ starts; answers = starts; not-fa = ep; not-fb = eq; not-fc = eu; not-fd = ev },
            ap (λ (y : Effect Step). y.area) x,
          )

-- a frame after which a check runs, though none did before
pub record StartedBy (s : Session) (f : FinishedFrame) (area : List ℕ) : Type 0 where
  pub command : f.command ≡ 0xFE
  pub is : answered s f area ≡ stepped s (noted (with_check s.transfer started_check))
  pub answers : answer_fe s.transfer (channel_of f.bytes) ≡ noted (with_check s.transfer started_check)
  pub same_area : area_after s f area ≡ area

pub started-by : (s : Session) (f : FinishedFrame) (area : List ℕ) → s.transfer.check.running ≡ false
    → (answered s f area).session.transfer.check.running ≡ true
    → StartedBy s f area
unfolding reaction judged routed
started-by s f area still e =
    go (unlawful s) (not (eqb (length area) s.opened)) (header_of_frame f) (eqb f.command 0xF9)
    (ltb (place_for s f) s.count) refl refl refl refl refl
  where
    no : (n : Outcome) → reaction s f area ≡ unwritten (unchanged n s) area → StartedBy s f area
    no n is = false_true (sym still ∙ sym (ap (λ (x : Effect Answer). x.gives.session.transfer.check.running) is) ∙ e)

    go : (a b : Bool) (h : Header) (c d : Bool) → unlawful s ≡ a → not (eqb (length area) s.opened) ≡ b → header_of_frame f ≡ h
        → eqb f.command 0xF9 ≡ c
        → ltb (place_for s f) s.count ≡ d → StartedBy s f area
    go true b h c d ea eb eh ec ed = no rules_broken (rw ea)
    go false true h c d ea eb eh ec ed = no other_area (rw (ea, eb))
    go false false Unlisted c d ea eb eh ec ed = no unlisted_command (rw (ea, eb, eh))
    go false false Wrong c d ea eb eh ec ed = no wrong_header (rw (ea, eb, eh))
    go false false Right true d ea eb eh ec ed = no accepted (rw (ea, eb, eh, ec))
    go false false Right false false ea eb eh ec ed = no unlisted_channel (rw (ea, eb, eh, ec, ed))
    go false false Right false true ea eb eh ec ed =
        let board = get_or s.boards (place_for s f) past_board in
        let step = effect_of s.transfer f board area in
        let x : reaction s f area ≡ within s step = rw (ea, eb, eh, ec, ed, still) in
        let g = ap (λ (z : Effect Answer). z.gives) x in
        let both = step-starts s.transfer still f board area (sym (ap (λ (a : Answer). a.session.transfer.check.running) g) ∙ e) in
        let y = both.0 in
        record {
          command = is-fe f eh ec y.not-fa y.not-fb y.not-fc y.not-fd;
          is = g ∙ ap (stepped s) y.is;
          answers = y.answers;
          same_area = ap (λ (z : Effect Answer). z.area) x ∙ both.1;
        }

pub started-lawful : (s : Session) (f : FinishedFrame) (area : List ℕ) → unlawful s ≡ false → s.transfer.check.running ≡ false
    → StartedBy s f area
    → unlawful (with_transfer s (with_check s.transfer started_check)) ≡ false
started-lawful s f area ok still y =
    lawful-accepted _ (subst (λ (x : Step). Lawful (with_transfer s x.transfer)) y.answers
    (fe-kept s (lawful s ok) still (channel_of f.bytes)))

-- while a check runs, no frame changes anything or has a reply
pub record RunningSame (s : Session) (area : List ℕ) (x : Effect Answer) : Type 0 where
  pub same-session : x.gives.session ≡ s
  pub no-reply : x.gives.reply ≡ None
  pub same_area : x.area ≡ area

pub running-same : (s : Session) (f : FinishedFrame) (area : List ℕ) → s.transfer.check.running ≡ true
    → RunningSame s area (reaction s f area)
unfolding reaction judged routed
running-same s f area runs =
    let P = RunningSame s area in
    let same : (n : Outcome) → P (unwritten (unchanged n s) area) = λ n. record { same-session = refl; no-reply = refl; same_area = refl } in
    of-both P (unlawful s) _ _ (same rules_broken)
    (of-both P (not (eqb (length area) s.opened)) _ _ (same other_area)
    (by-header P (header_of_frame f) _ _ _ (same unlisted_command) (same wrong_header)
    (of-both P (eqb f.command 0xF9) _ _ (same accepted)
    (of-both P (ltb (place_for s f) s.count) _ _
    (of_each P s.transfer.check.running _ _ (λ _. same check_runs) (λ e. false_true (sym e ∙ runs)))
    (same unlisted_channel)))))

-- it gets 2 or 3, is noted, or gets 12 or 4
module _ (s : Session) (f : FinishedFrame) (area : List ℕ) where
  abbrev pub met : Outcome
  met =
      by_header (header_of_frame f) unlisted_command wrong_header
      (cond (eqb f.command 0xF9) accepted (cond (ltb (place_for s f) s.count) check_runs unlisted_channel))

  pub running-answers : unlawful s ≡ false → length area ≡ s.opened → s.transfer.check.running ≡ true
      → reaction s f area ≡ unwritten (unchanged met s) area
  unfolding reaction judged routed
  running-answers ok size runs = go (header_of_frame f) (eqb f.command 0xF9) (ltb (place_for s f) s.count) refl refl refl
    where
      go : (h : Header) (a b : Bool) → header_of_frame f ≡ h → eqb f.command 0xF9 ≡ a → ltb (place_for s f) s.count ≡ b
          → reaction s f area ≡ unwritten (unchanged met s) area
      go Unlisted a b eh ea eb = rw (ok, eq-eqb (length area) s.opened size, eh)
      go Wrong a b eh ea eb = rw (ok, eq-eqb (length area) s.opened size, eh)
      go Right true b eh ea eb = rw (ok, eq-eqb (length area) s.opened size, eh, ea)
      go Right false true eh ea eb = rw (ok, eq-eqb (length area) s.opened size, eh, ea, eb, runs)
      go Right false false eh ea eb = rw (ok, eq-eqb (length area) s.opened size, eh, ea, eb)

-- while none runs, no frame gets 12
pub still-answers : (s : Session) (f : FinishedFrame) (area : List ℕ) → s.transfer.check.running ≡ false
    → (answered s f area).outcome ≡ check_runs → ⊥
unfolding reaction judged routed
still-answers s f area still =
    let P : Effect Answer → Type 0 = λ x. x.gives.outcome ≡ check_runs → ⊥ in
    let step = (effect_of s.transfer f (get_or s.boards (place_for s f) past_board) area).gives in
    of-both P (unlawful s) _ _ (same-false _ _ refl)
    (of-both P (not (eqb (length area) s.opened)) _ _ (same-false _ _ refl)
    (by-header P (header_of_frame f) _ _ _ (same-false _ _ refl) (same-false _ _ refl)
    (of-both P (eqb f.command 0xF9) _ _ (same-false _ _ refl)
    (of-both P (ltb (place_for s f) s.count) _ _
    (of_each P s.transfer.check.running _ _ (λ e. false_true (sym still ∙ e))
    (λ _. of-both (λ (n : Outcome). n ≡ check_runs → ⊥) step.answered accepted wrong_phase (same-false _ _ refl) (same-false _ _ refl)))
    (same-false _ _ refl)))))

-- ---- what a running check comes to

-- what is still due: FE's changes and reply, by what the check will say
abbrev pub due_of : Session → List ℕ → Step
due_of s area = ended_fe s.transfer (will_say s.transfer area)

-- as the check in one go has it
pub started-due : (s : Session) (f : FinishedFrame) (area : List ℕ) → unlawful s ≡ false → length area ≡ s.opened
    → (answered s f area).session.transfer.check.running ≡ true → StartedBy s f area
    → in_one_go s f area ≡ stepped (answered s f area).session (due_of (answered s f area).session area)
started-due s f area ok size e y =
    let a = answered s f area in
    let says = ap (λ (x : Answer). will_say x.session.transfer area) y.is ∙ started-says s.transfer area
    ∙ sym (ap (λ (x : Answer). right_crc x.session.transfer area) y.is) in
    called_in_one_go s f area ok size
    ∙ ap (λ (b : Bool). cond b (stepped a.session (ended_fe a.session.transfer (right_crc a.session.transfer area))) a) e
    ∙ ap (λ (b : Bool). stepped a.session (ended_fe a.session.transfer b)) (sym says)

module _ (s : Session) (most : ℕ) (area : List ℕ) (ok : unlawful s ≡ false) (size : length area ≡ s.opened)
    (runs : s.transfer.check.running ≡ true) where
  abbrev t : Transfer
  t = s.transfer

  fits : t.image.announced ≤ length area
  fits = omega (arith, (lawful s ok).announced)

  inside : t.check.read < t.image.announced
  inside = (lawful s ok).check-unread runs

  pub is-portion : checked s most area ≡ checked_by s (check_step t most area)
  unfolding checked
  is-portion = rw (ok, eq-eqb (length area) s.opened size, runs)

  -- unfinished: nothing but the check's own fields changes, and the same is due
  pub record Unended : Type 0 where
    pub is : checked s most area ≡ checked_by s
        (record { count = most; verdict = Unfinished; step = noted (with_check t (read_on t.check most area)) })
    pub lawful-on : unlawful (with_transfer s (with_check t (read_on t.check most area))) ≡ false
    pub same-says : will_say (with_check t (read_on t.check most area)) area ≡ will_say t area
    pub same-due : due_of (with_transfer s (with_check t (read_on t.check most area))) area ≡ due_of s area

  -- the end of a check does not depend on how far it has come
  due-on : (c : Check) → will_say (with_check t c) area ≡ will_say t area → due_of (with_transfer s (with_check t c)) area ≡ due_of s area
  unfolding ended_fe
  due-on c e = ap (ended_fe t) e

  pub unended : most < unread t → Unended
  unended h =
      let g = goes_on t most area fits inside h in
      let l = lawful s ok in
      record {
        is = is-portion ∙ ap (checked_by s) g.0;
        lawful-on = lawful-accepted _
            (record {
              list = l.list;
              some-area = l.some-area;
              small-area = l.small-area;
              stored = l.stored;
              announced = l.announced;
              number = l.number;
              most-last = l.most-last;
              last_stored = l.last_stored;
              check-unread = λ _. omega arith;
              check-stored = λ _. l.check-stored runs;
              check_phase = λ _. l.check_phase runs;
              listed = l.listed;
              least_size = l.least_size;
              most-size = l.most-size;
              some-image = l.some-image;
            });
        same-says = g.1;
        same-due = due-on (read_on t.check most area) g.1;
      }

  -- finished: what was due
  pub record Finished : Type 0 where
    pub is : checked s most area ≡ checked_by s (record { count = unread t; verdict = saying (will_say t area); step = due_of s area })
    pub lawful-after : unlawful (with_transfer s (due_of s area).transfer) ≡ false

  ended-lawful : (right : Bool) → unlawful (with_transfer s (ended_fe t right).transfer) ≡ false
  unfolding ended_fe
  ended-lawful true =
      let l = lawful s ok in
      let image = ending-image t.leg.phase (l.check_phase runs) in
      let busy = image_busy t.leg.phase image in
      lawful-accepted _
      (record {
        list = l.list;
        some-area = l.some-area;
        small-area = l.small-area;
        stored = l.stored;
        announced = l.announced;
        number = l.number;
        most-last = l.most-last;
        last_stored = l.last_stored;
        check-unread = λ f. false_true f;
        check-stored = λ f. false_true f;
        check_phase = λ f. false_true f;
        listed = λ _. l.listed busy;
        least_size = λ _. l.least_size busy;
        most-size = λ _. l.most-size busy;
        some-image = λ _. l.some-image image;
      })
  ended-lawful false =
      let l = lawful s ok in
      lawful-accepted _
      (record {
        list = l.list;
        some-area = l.some-area;
        small-area = l.small-area;
        stored = omega arith;
        announced = omega arith;
        number = l.number;
        most-last = omega arith;
        last_stored = omega arith;
        check-unread = λ f. false_true f;
        check-stored = λ f. false_true f;
        check_phase = λ f. false_true f;
        listed = λ f. false_true (sym f);
        least_size = λ f. false_true (sym f);
        most-size = λ f. false_true (sym f);
        some-image = λ f. false_true f;
      })

  pub finished-by : unread t ≤ most → Finished
  finished-by h =
      record { is = is-portion ∙ ap (checked_by s) (ends t most area fits inside h); lawful-after = ended-lawful (will_say t area) }
