-- A lawful session answers into a lawful one of the same list and opened length, and the area keeps its length. Assumes nothing.
use mathlib.Core.Path.{◌≡◌, refl, sym, ap, ◌∙◌, subst}
use mathlib.Core.Bool.{true, false, not, ◌||◌, and-eq-true_iff}
use mathlib.Core.List.{List}
use Prim.Native.Nat.{ℕ, ◌<◌, ◌≤◌}
use native.Mathlib.Omega.{arith}
use borrow.Author.Tests.{ltb-true, ltb-false, eqb-true, eqb-false, not-false}
use lib.Dec.{ltb, eqb}
use lib.ListN.{length, get_or}
use Rattle.frames.specs.declared.finished.FinishedFrame.{FinishedFrame}
use Rattle.requests.specs.declared.request.RequestFA.{RequestFA}
use Rattle.requests.specs.declared.request.RequestFB.{RequestFB}
use Rattle.requests.specs.declared.request.RequestFC.{RequestFC}
use Rattle.requests.specs.declared.request.RequestFD.{RequestFD}
use Rattle.requests.specs.Requests.{channel_of, request_fa, request_fb, request_fc, request_fd, packet_of}
use Rattle.commands.specs.Limits.{min_packet, max_packet, max_next}
use Rattle.transfer.specs.declared.phase.Phase.TheVariants.{Idle, Told}
use Rattle.boards.specs.declared.board.Board.{Board}
use Rattle.transfer.specs.declared.state.Transfer.{Transfer}
use Rattle.transfer.specs.declared.state.Step.{Step}
use Rattle.transfer.specs.Phases.{idle, has_image, told_or_receiving, receiving, receiving_or_done}
use Rattle.sequences.specs.Comparing.{same}
use Rattle.agreement.specs.Versions.{newer}
use Rattle.agreement.specs.FB.{identity_of, same_identity}
use Rattle.transfer.specs.Transfers.{Effect, unwritten, with_phase, replaced, other_channel}
use Rattle.agreement.specs.FA.{refused_fa, agreed_size, asked, answer_fa}
use Rattle.agreement.specs.FB.{state_fb, after_fb, grant_fb, answer_fb}
use Rattle.agreement.specs.FC.{start_of, started_at, answer_fc}
use Rattle.packets.specs.FD.{takes, after_packet, effect_fd, answer_fd}
use Rattle.ending.specs.FE.{answer_fe}
use Rattle.sequences.proofs.Conditionals.{no-refusal, neither, of-both, of_each}
use Rattle.transfer.proofs.PhaseLaws.{image_busy, receiving_busy, started-image, ending-image}
use Rattle.sequences.proofs.Places.{written-size}
use Rattle.image.proofs.Storing.{storing-within, storing-last, storing-last-stored}
use Rattle.packets.proofs.Packets.{taken}
use Rattle.commands.specs.declared.outcome.Outcome.{Outcome}
use Rattle.commands.specs.Outcomes.{accepted, unlisted_command, wrong_header, unlisted_channel, other_area, rules_broken, check_runs}
use Rattle.session.specs.declared.session.Session.{Session}
use Rattle.session.specs.declared.answer.Answer.{Answer}
use Rattle.boards.specs.Boards.{past_board, place_of}
use Rattle.session.specs.Transfers.{with_transfer}
use Rattle.session.specs.Lawful.{unlawful, Lawful}
use Rattle.session.specs.Answering.{unchanged, place_for, effect_of, routed, header_of_frame, judged, reaction, answered, area_after}
use Rattle.session.proofs.Headers.{by-header}
use Rattle.session.proofs.Lawfuls.{lawful, lawful-accepted}
use Rattle.session.specs.Kept.{StaysOpened, AnswersKeep}

false_true : {A : Type 0} → false ≡ true → A
false_true e = let z : ◌≡◌ {A = ℕ} 0 1 = cc in absurd (omega arith)

positive : (n : ℕ) → (n ≡ 0 → ⊥) → 0 < n
positive n h = omega arith

-- a session whose check does not run
module _ (s : Session) (k : Lawful s) (still : s.transfer.check.running ≡ false) where
  abbrev t : Transfer
  t = s.transfer

  abbrev Kept : Step → Type 0
  Kept x = Lawful (with_transfer s x.transfer)

  -- a transfer without a check, its lengths and number in order: what is left is what a phase asks for
  record Asked (u : Transfer) : Type 0 where
    listed : idle u.leg.phase ≡ false → place_of s.boards s.count u.leg.channel < s.count
    least : idle u.leg.phase ≡ false → min_packet ≤ u.leg.agreed
    most : idle u.leg.phase ≡ false → u.leg.agreed ≤ max_packet
    image : has_image u.leg.phase ≡ true → 0 < u.image.announced

  in_order : (u : Transfer) → u.progress.stored ≤ u.image.announced → u.image.announced ≤ s.opened → u.leg.next ≤ max_next
      → u.progress.last ≤ max_packet → u.progress.last ≤ u.progress.stored → u.check.running ≡ false → Asked u
      → Lawful (with_transfer s u)
  in_order u stored announced number most-last last_stored none a =
      record {
        list = k.list;
        some-area = k.some-area;
        small-area = k.small-area;
        stored = stored;
        announced = announced;
        number = number;
        most-last = most-last;
        last_stored = last_stored;
        check-unread = λ f. false_true (sym none ∙ f);
        check-stored = λ f. false_true (sym none ∙ f);
        check_phase = λ f. false_true (sym none ∙ f);
        listed = a.listed;
        least_size = a.least;
        most-size = a.most;
        some-image = a.image;
      }

  -- idle: nothing else is asked
  idle-asked : (u : Transfer) → u.leg.phase ≡ Idle → Asked u
  idle-asked u e =
      let busy : idle u.leg.phase ≡ false → ⊥ = λ f. false_true (sym f ∙ ap idle e) in
      let bare : has_image u.leg.phase ≡ true → ⊥ = λ f. false_true (sym (ap has_image e) ∙ f) in
      record { listed = λ f. absurd (busy f); least = λ f. absurd (busy f); most = λ f. absurd (busy f); image = λ f. absurd (bare f) }

  -- the same session's channel and agreed size, in whatever phase
  busy_asked : (u : Transfer) → idle t.leg.phase ≡ false → u.leg.channel ≡ t.leg.channel → u.leg.agreed ≡ t.leg.agreed
      → (has_image u.leg.phase ≡ true → 0 < u.image.announced) → Asked u
  busy_asked u i ch size image =
      record {
        listed = λ f. subst (λ (c : ℕ). place_of s.boards s.count c < s.count) (sym ch) (k.listed i);
        least = λ f. subst (λ (n : ℕ). min_packet ≤ n) (sym size) (k.least_size i);
        most = λ f. subst (λ (n : ℕ). n ≤ max_packet) (sym size) (k.most-size i);
        image = image;
      }

  agreed-fits : (n : ℕ) → min_packet ≤ n → (min_packet ≤ agreed_size n) × (agreed_size n ≤ max_packet)
  agreed-fits n h =
      of_each (λ (m : ℕ). (min_packet ≤ m) × (m ≤ max_packet)) (ltb n max_packet) n max_packet
      (λ e. let g = ltb-true n max_packet e in (h, omega arith)) (λ e. (omega arith, omega arith))

  fa-kept : (b : Board) (r : RequestFA) → place_of s.boards s.count r.channel < s.count → Kept (answer_fa t b r)
  unfolding answer_fa
  fa-kept b r here =
      of_each Kept (refused_fa b r) _ _ (λ e. k)
      (λ e.
      let size = agreed-fits r.len1 (ltb-false _ _ (neither (not b.permit) _ e).1) in
      in_order (asked t r) k.stored k.announced k.number k.most-last k.last_stored still
      (record { listed = λ f. here; least = λ f. size.0; most = λ f. size.1; image = λ f. false_true f }))

  -- a state 00 of FB
  granted-length : (b : Board) (r : RequestFB) (n : ℕ) → state_fb b r n ≡ 0 → (0 < r.length) × (r.length ≤ n)
  unfolding state_fb
  granted-length b r n e =
      let e1 = (no-refusal (not (same r.pid b.pid)) 1 _ (omega arith) e).1 in
      let e2 = (no-refusal (not (newer r.version b.soft)) 2 _ (omega arith) e1).1 in
      let e3 = (no-refusal (eqb r.length 0 || ltb n r.length) 3 0 (omega arith) e2).0 in
      let e4 = neither (eqb r.length 0) _ e3 in
      (positive r.length (eqb-false _ _ e4.0), ltb-false _ _ e4.1)

  -- the same identity announces the same length
  same-announced : (r : RequestFB) → same_identity (identity_of r) t.image ≡ true → r.length ≡ t.image.announced
  unfolding same_identity
  same-announced r e =
      let e1 = ((and-eq-true_iff (eqb r.channel t.image.channel) _).0 e).1 in
      eqb-true _ _ ((and-eq-true_iff (eqb r.length t.image.announced) _).0 e1).0

  fb-kept : (b : Board) (r : RequestFB) (area : List ℕ) → length area ≡ s.opened → Kept (answer_fb t b r area)
  unfolding answer_fb grant_fb after_fb
  fb-kept b r area size =
      of_each Kept (idle t.leg.phase || other_channel t r.channel) _ _ (λ e. k)
      (λ e.
      let i = (neither (idle t.leg.phase) _ e).0 in
      of_each Kept (eqb (state_fb b r (length area)) 0) _ _
      (λ z.
      let g = granted-length b r (length area) (eqb-true _ _ z) in
      of_each (λ (u : Transfer). Lawful (with_transfer s u)) (same_identity (identity_of r) t.image) _ _
      (λ w.
      let n = same-announced r w in
      let u = with_phase t Told in
      in_order u k.stored k.announced k.number k.most-last k.last_stored still (busy_asked u i refl refl (λ f. omega arith)))
      (λ w.
      let u = replaced t Told (identity_of r) in
      in_order u (omega arith) (omega arith) k.number (omega arith) (omega arith) still (busy_asked u i refl refl (λ f. g.0))))
      (λ z.
      let u = with_phase t Idle in
      in_order u k.stored k.announced k.number k.most-last k.last_stored still (idle-asked u refl)))

  fc-kept : (r : RequestFC) → Kept (answer_fc t r)
  unfolding answer_fc
  fc-kept r =
      of_each Kept (not (told_or_receiving t.leg.phase) || other_channel t r.channel) _ _ (λ e. k)
      (λ e.
      let h = started-image t.leg.phase (not-false _ (neither (not (told_or_receiving t.leg.phase)) _ e).0) in
      let start = of-both (λ (n : ℕ). n ≤ t.image.announced) (eqb r.offset t.progress.stored) t.progress.stored 0
      k.stored (omega arith) in
      let u = started_at t (start_of t r) in
      in_order u start k.announced (omega arith) (omega arith) (omega arith) still
      (busy_asked u (image_busy t.leg.phase h) refl refl (λ f. k.some-image h)))

  -- after number 65,535 no packet is next; a packet's length is at most the agreed size
  fd-kept : (r : RequestFD) (p area : List ℕ) → Kept (answer_fd t r p area)
  unfolding effect_fd
  fd-kept r p area =
      of_each (λ (x : Effect Step). Kept x.gives) (takes t r p area) _ _
      (λ e.
      let taken_as = taken t r p area e in
      let number = taken_as.within in
      let stored = storing-within t.progress p area t.image.announced taken_as.fits k.stored in
      let size = taken_as.agreed in
      let most = k.most-size
      (receiving_busy t.leg.phase (not-false _ (neither (not (receiving t.leg.phase)) _ taken_as.here).0)) in
      in_order (after_packet t p area) stored k.announced (omega arith)
      (storing-last t.progress p area max_packet (omega arith) k.most-last)
      (storing-last-stored t.progress p area k.last_stored) still
      (record { listed = k.listed; least = k.least_size; most = k.most-size; image = k.some-image }))
      (λ e. k)

  -- the check starts with all stored, none read, in receiving or done
  pub fe-kept : (channel : ℕ) → Kept (answer_fe t channel)
  unfolding answer_fe
  fe-kept channel =
      of_each Kept (not (receiving_or_done t.leg.phase) || other_channel t channel) _ _ (λ e. k)
      (λ e.
      let ending = not-false _ (neither (not (receiving_or_done t.leg.phase)) _ e).0 in
      of_each Kept (not (eqb t.progress.stored t.image.announced)) _ _ (λ z. k)
      (λ z.
      record {
        list = k.list;
        some-area = k.some-area;
        small-area = k.small-area;
        stored = k.stored;
        announced = k.announced;
        number = k.number;
        most-last = k.most-last;
        last_stored = k.last_stored;
        check-unread = λ f. k.some-image (ending-image t.leg.phase ending);
        check-stored = λ f. eqb-true _ _ (not-false _ z);
        check_phase = λ f. ending;
        listed = k.listed;
        least_size = k.least_size;
        most-size = k.most-size;
        some-image = k.some-image;
      }))

  step_kept : (f : FinishedFrame) (b : Board) (area : List ℕ) → length area ≡ s.opened → place_for s f < s.count
      → Kept (effect_of t f b area).gives
  unfolding effect_of request_fa
  step_kept f b area size here =
      let P : Effect Step → Type 0 = λ x. Kept x.gives in
      of-both P (eqb f.command 0xFA) _ _ (fa-kept b (request_fa f.bytes) here)
      (of-both P (eqb f.command 0xFB) _ _ (fb-kept b (request_fb f.bytes) area size)
      (of-both P (eqb f.command 0xFC) _ _ (fc-kept (request_fc f.bytes))
      (of-both P (eqb f.command 0xFD) _ _ (fd-kept (request_fd f.bytes) (packet_of f.length f.bytes) area)
      (fe-kept (channel_of f.bytes)))))

pub answer_keeps : (s : Session) (f : FinishedFrame) (area : List ℕ) → unlawful s ≡ false → StaysOpened s (answered s f area)
unfolding reaction judged routed
answer_keeps s f area e =
    let P : Effect Answer → Type 0 = λ x. StaysOpened s x.gives in
    let same : (n : Outcome) → P (unwritten (unchanged n s) area) =
    λ n. record { lawful = e; same-list = refl; same_count = refl; same-opened = refl } in
    of_each P (unlawful s) _ _ (λ _. same rules_broken)
    (λ _. of_each P (not (eqb (length area) s.opened)) _ _ (λ _. same other_area)
    (λ z.
    let size = eqb-true (length area) s.opened (not-false _ z) in
    by-header P (header_of_frame f) _ _ _ (same unlisted_command) (same wrong_header)
    (of-both P (eqb f.command 0xF9) _ _ (same accepted)
    (of_each P (ltb (place_for s f) s.count) _ _
    (λ here. of_each P s.transfer.check.running _ _ (λ _. same check_runs)
    (λ still.
    let next = step_kept s (lawful s e) still f (get_or s.boards (place_for s f) past_board) area size (ltb-true _ _ here) in
    record { lawful = lawful-accepted _ next; same-list = refl; same_count = refl; same-opened = refl }))
    (λ _. same unlisted_channel)))))

-- the area keeps its length
pub area-size : (s : Session) (f : FinishedFrame) (area : List ℕ) → length (area_after s f area) ≡ length area
unfolding reaction judged routed effect_of effect_fd
area-size s f area =
    let P : Effect Answer → Type 0 = λ x. length x.area ≡ length area in
    let Q : Effect Step → Type 0 = λ x. length x.area ≡ length area in
    let r = request_fd f.bytes in
    let p = packet_of f.length f.bytes in
    of-both P (unlawful s) _ _ refl
    (of-both P (not (eqb (length area) s.opened)) _ _ refl
    (by-header P (header_of_frame f) _ _ _ refl refl
    (of-both P (eqb f.command 0xF9) _ _ refl
    (of-both P (ltb (place_for s f) s.count) _ _
    (of-both P s.transfer.check.running _ _ refl
    (of-both Q (eqb f.command 0xFA) _ _ refl
    (of-both Q (eqb f.command 0xFB) _ _ refl
    (of-both Q (eqb f.command 0xFC) _ _ refl
    (of-both Q (eqb f.command 0xFD) _ _
    (of-both Q (takes s.transfer r p area) _ _ (written-size area p s.transfer.progress.stored) refl)
    refl)))))
    refl))))

pub answers_keep : AnswersKeep
answers_keep = record { session = answer_keeps; area-size = area-size }
