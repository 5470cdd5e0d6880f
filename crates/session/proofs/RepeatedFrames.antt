-- A frame FD that comes again after its packet was taken. Assumes nothing.
use mathlib.Core.Path.{◌≡◌, refl, sym, ap, ap₂, ◌∙◌, subst}
use mathlib.Core.Bool.{Bool, true, false, not}
use mathlib.Core.List.{List, [], ◌∷◌}
use Rattle.std.specs.Prelude.{Option, Some}
use Rattle.std.specs.Option.{unwrap_or}
use Prim.Native.Nat.{ℕ, ◌+◌, ◌<◌}
use native.Mathlib.Omega.{arith}
use borrow.Author.Tests.{eqb-true, eqb-false, eq-eqb, lt-ltb, not-false}
use lib.Dec.{ltb, eqb}
use lib.ListN.{length, get_or}
use Rattle.frames.specs.declared.finished.FinishedFrame.{FinishedFrame}
use Rattle.sequences.specs.Padding.{padded}
use Rattle.requests.specs.declared.request.RequestFD.{RequestFD}
use Rattle.commands.specs.declared.table.Header.TheVariants.{Right}
use Rattle.requests.specs.Requests.{channel_of, request_fa, request_fd}
use Rattle.commands.specs.Limits.{max_reply}
use Rattle.replies.specs.Replies.{reply_state}
use Rattle.boards.specs.declared.board.Board.{Board}
use Rattle.transfer.specs.declared.state.Transfer.{Transfer}
use Rattle.transfer.specs.declared.state.Step.{Step}
use Rattle.transfer.specs.Phases.{receiving}
use Rattle.transfer.specs.Transfers.{Effect, unwritten, replied}
use Rattle.packets.specs.FD.{state_fd, takes, after_packet, area_with, effect_fd}
use Rattle.sequences.proofs.Conditionals.{neither, of-both, of_each}
use Rattle.transfer.proofs.PhaseLaws.{receiving_busy}
use Rattle.packets.proofs.Packets.{taken}
use Rattle.packets.proofs.Results.{effect-taken, effect-not-taken, packet-refused}
use Rattle.packets.proofs.Repetitions.{not_taken, again-answered, packet-left, repeated-packet}
use Rattle.session.specs.declared.session.Session.{Session}
use Rattle.session.specs.declared.answer.Answer.{Answer}
use Rattle.boards.specs.Boards.{past_board, place_of}
use Rattle.session.specs.Lawful.{unlawful}
use Rattle.session.specs.Answering.{unchanged, stepped, within, place_for, effect_of, routed, header_of_frame, judged, reaction, answered}
use Rattle.session.specs.RepeatedFrame.{fields_of, packet_in, SessionAndArea, answer_at, then_frame, then_frames, TakenHere}
use Rattle.session.specs.RepeatedFrame.{LeaveAlone, AnswersWith, RepeatedFrame, board_for, FramesLeavingAlone}
use Rattle.session.proofs.Headers.{by-header}
use Rattle.session.proofs.Lawfuls.{lawful, lawful-inside}
use Rattle.session.specs.Transfers.{with_transfer}
use Rattle.session.proofs.Kept.{answer_keeps, area-size}
use Rattle.agreement.specs.FA.{refused_fa, answer_fa}
use Rattle.ending.specs.FE.{reaches_crc}
use Rattle.ending.proofs.Results.{unreached_unmoved}
use Rattle.commands.specs.declared.outcome.Outcome.{Outcome}
use Rattle.commands.specs.Outcomes.{accepted, unlisted_command, wrong_header, unlisted_channel, other_area, rules_broken, check_runs}
use Rattle.session.proofs.Unanswered.{nothing_changed}
use Rattle.packets.specs.Repeats.{Packet, TransferAndArea, state_to, then_packet}
use Rattle.commands.proofs.Outcomes.{same-false}

-- ---- a frame FD reaches the transfer

module _ (t : Transfer) (f : FinishedFrame) (is : f.command ≡ 0xFD) where
  fd-effect : (b : Board) (area : List ℕ) → effect_of t f b area ≡ effect_fd t (fields_of f) (packet_in f) area
  unfolding effect_of
  fd-effect b area = rw is refl

-- ---- frames that leave session and area as they are

module _ (x : SessionAndArea) (f : FinishedFrame) where
  abbrev at : Session
  at = x.session

  abbrev board : Board
  board = board_for x f

  -- the session and the area are as they were
  abbrev Left : Effect Answer → Type 0
  Left e = (e.gives.session ≡ at) × (e.area ≡ x.area)

  same : (n : Outcome) → Left (unwritten (unchanged n at) x.area)
  same n = (refl, refl)

  left_alone : Left (reaction at f x.area) → then_frame x f ≡ x
  left_alone l = ap₂ (λ (u : Session) (m : List ℕ). record { session = u; area = m }) l.0 l.1

  -- where the transfer's answer does, so does the session's: whatever is asked before the transfer leaves both
  by-transfer : ((f.command ≡ 0xF9 → ⊥) → Left (within at (effect_of at.transfer f board x.area))) → then_frame x f ≡ x
  unfolding reaction judged routed
  by-transfer step =
      left_alone
      (of-both Left (unlawful at) _ _ (same rules_broken)
      (of-both Left (not (eqb (length x.area) at.opened)) _ _ (same other_area)
      (by-header Left (header_of_frame f) _ _ _ (same unlisted_command) (same wrong_header)
      (of_each Left (eqb f.command 0xF9) _ _ (λ _. same accepted)
      (λ no. of-both Left (ltb (place_for at f) at.count) _ _
      (of-both Left at.transfer.check.running _ _ (same check_runs) (step (eqb-false f.command 0xF9 no)))
      (same unlisted_channel))))))

  pub fd-untaken : f.command ≡ 0xFD → takes at.transfer (fields_of f) (packet_in f) x.area ≡ false → then_frame x f ≡ x
  fd-untaken is e =
      let effect = fd-effect at.transfer f is board x.area ∙ effect-not-taken at.transfer (fields_of f) (packet_in f) x.area e in
      by-transfer (λ _. (ap (λ (u : Effect Step). with_transfer at u.gives.transfer) effect, ap (λ (u : Effect Step). u.area) effect))

  pub fd-passed-by : f.command ≡ 0xFD → ((fields_of f).number ≡ at.transfer.leg.next → ⊥) → then_frame x f ≡ x
  fd-passed-by is other =
      fd-untaken is
      (not_taken (record { transfer = at.transfer; area = x.area }) (record { request = fields_of f; bytes = packet_in f }) other)

  fa-refused : f.command ≡ 0xFA → refused_fa board (request_fa f.bytes) ≡ true → then_frame x f ≡ x
  unfolding effect_of answer_fa
  fa-refused is e = by-transfer (λ _. (rw is (rw e refl), rw is refl))

  fe_unreached : f.command ≡ 0xFE → reaches_crc at.transfer (channel_of f.bytes) ≡ false → then_frame x f ≡ x
  unfolding effect_of
  fe_unreached is e =
      by-transfer (λ _. (rw is (ap (with_transfer at) (unreached_unmoved at.transfer (channel_of f.bytes) e)), rw is refl))

  unanswered-left : ((answer_at x f).outcome ≡ accepted → ⊥) → then_frame x f ≡ x
  unanswered-left other = let n = nothing_changed at f x.area other in left_alone (n.session, n.same_area)

pub frames-leaving-alone : FramesLeavingAlone
frames-leaving-alone x f =
    let t = x.session.transfer in
    record {
      outcome = unanswered-left x f;
      f9 = λ is. by-transfer x f (λ no. absurd (no is));
      fa = fa-refused x f;
      fd = fd-passed-by x f;
      fd-refused = λ is no. fd-untaken x f is (packet-refused t (fields_of f) (packet_in f) x.area no);
      fe = fe_unreached x f;
    }

all-left-alone : (x : SessionAndArea) (fs : List FinishedFrame) → LeaveAlone x fs → then_frames x fs ≡ x
all-left-alone x [] none = refl
all-left-alone x (f ∷ fs) none = ap (λ (y : SessionAndArea). then_frames y fs) none.0 ∙ all-left-alone x fs none.1

-- ---- the answers to packets

-- a reply with state 00 is the transfer's
state-of : (channel n : ℕ) → Some (padded max_reply (reply_state channel n)) ≡ Some (padded max_reply (reply_state channel 0)) → n ≡ 0
unfolding reply_state
state-of channel n e = ap (λ (d : Option (List ℕ)). get_or (unwrap_or d []) 1 0) e

replies-state : (t : Transfer) (r : RequestFD) (p area : List ℕ)
    → (effect_fd t r p area).gives.reply ≡ Some (padded max_reply (reply_state r.channel (state_fd t r p area)))
unfolding effect_fd
replies-state t r p area =
    of-both (λ (x : Effect Step). x.gives.reply ≡ Some (padded max_reply (reply_state r.channel (state_fd t r p area))))
    (takes t r p area) _ _ refl refl

with_00 : (s : Session) (g : FinishedFrame) (area : List ℕ) → g.command ≡ 0xFD → AnswersWith (answered s g area) (fields_of g) 0
    → state_fd s.transfer (fields_of g) (packet_in g) area ≡ 0
unfolding reaction judged routed
with_00 s g area is =
    let P : Effect Answer → Type 0 = λ e. AnswersWith e.gives (fields_of g) 0
    → state_fd s.transfer (fields_of g) (packet_in g) area ≡ 0 in
    let b = get_or s.boards (place_for s g) past_board in
    of-both P (unlawful s) _ _ (λ w. absurd (same-false _ _ refl w.0))
    (of-both P (not (eqb (length area) s.opened)) _ _ (λ w. absurd (same-false _ _ refl w.0))
    (by-header P (header_of_frame g) _ _ _ (λ w. absurd (same-false _ _ refl w.0)) (λ w. absurd (same-false _ _ refl w.0))
    (of_each P (eqb g.command 0xF9) _ _ (λ e. let z = eqb-true g.command 0xF9 e in absurd (omega arith))
    (λ _. of-both P (ltb (place_for s g) s.count) _ _
    (of-both P s.transfer.check.running _ _ (λ w. absurd (same-false _ _ refl w.0))
    (λ w. state-of (fields_of g).channel _
    (sym (replies-state s.transfer (fields_of g) (packet_in g) area)
    ∙ ap (λ (u : Effect Step). u.gives.reply) (sym (fd-effect s.transfer g is b area)) ∙ w.1)))
    (λ w. absurd (same-false _ _ refl w.0))))))

-- ---- the frame itself

-- a listed frame FD past 9, 6, 2 and 3
module _ (s : Session) (f : FinishedFrame) (area : List ℕ) (ok : unlawful s ≡ false) (size : length area ≡ s.opened)
    (listed : place_for s f < s.count)
    (still : s.transfer.check.running ≡ false) where
  fd-reaction : f.command ≡ 0xFD → header_of_frame f ≡ Right
      → reaction s f area ≡ within s (effect_fd s.transfer (fields_of f) (packet_in f) area)
  unfolding reaction judged routed effect_of
  fd-reaction is header = rw (ok, eq-eqb (length area) s.opened size, header, lt-ltb _ _ listed, still) (rw is refl)

module _ (x : SessionAndArea) (f : FinishedFrame) (ok : unlawful x.session ≡ false) (size : length x.area ≡ x.session.opened)
    (h : TakenHere x f) where
  abbrev s : Session
  s = x.session

  abbrev r : RequestFD
  r = fields_of f

  abbrev p : List ℕ
  p = packet_in f

  -- the session and the area that it leaves
  abbrev next : Session
  next = with_transfer s (after_packet s.transfer p x.area)

  abbrev written : List ℕ
  written = area_with s.transfer p x.area

  -- the channel of a packet that is taken is listed: it is the session's
  listed_here : place_for s f < s.count
  unfolding request_fd
  listed_here =
      let n = neither (not (receiving s.transfer.leg.phase)) _ (taken s.transfer r p x.area h.taken).here in
      let own = (lawful s ok).listed (receiving_busy s.transfer.leg.phase (not-false _ n.0)) in
      let place : place_for s f ≡ place_of s.boards s.count s.transfer.leg.channel =
      ap (place_of s.boards s.count) (eqb-true _ _ (not-false _ n.1)) in
      omega arith

  -- nor does a check run, which would have everything stored
  none_runs : s.transfer.check.running ≡ false
  none_runs = go s.transfer.check.running refl
    where
      go : (b : Bool) → s.transfer.check.running ≡ b → b ≡ false
      go true e =
          let full = (lawful s ok).check-stored e in
          let came = taken s.transfer r p x.area h.taken in
          let empty : length p ≡ 0 = omega (arith, full, came.fits) in
          absurd (came.some empty)
      go false e = refl

  left : then_frame x f ≡ record { session = next; area = written }
  left =
      ap (λ (e : Effect Answer). record { session = e.gives.session; area = e.area })
      (fd-reaction s f x.area ok size listed_here none_runs h.command h.header
      ∙ ap (within s) (effect-taken s.transfer r p x.area h.taken))

  next-lawful : unlawful next ≡ false
  next-lawful = subst (λ (y : SessionAndArea). unlawful y.session ≡ false) left (answer_keeps s f x.area ok).lawful

  written-fits : length written ≡ s.opened
  written-fits = subst (λ (y : SessionAndArea). length y.area ≡ s.opened) left (area-size s f x.area ∙ size)

  again : answered next f written ≡ stepped next (replied next.transfer (reply_state r.channel 0))
  again =
      ap (λ (e : Effect Answer). e.gives)
      (fd-reaction next f written next-lawful written-fits listed_here none_runs h.command h.header)
      ∙ ap (stepped next) (again-answered s.transfer r p x.area (lawful-inside s (length x.area) ok size) h.taken)

pub repeated-frame : RepeatedFrame
repeated-frame x f fs ok size h none =
    let y = then_frame x f in
    let t = x.session.transfer in
    let is = left x f ok size h in
    let came = taken t (fields_of f) (packet_in f) x.area h.taken in
    let next-is : y.session.transfer.leg.next ≡ (fields_of f).number + 1 =
    ap (λ (z : SessionAndArea). z.session.transfer.leg.next) is ∙ ap (λ (n : ℕ). n + 1) (sym came.number) in
    let still = all-left-alone y fs none in
    let same : answer_at (then_frames y fs) f ≡ stepped (next x f ok size h)
    (replied (next x f ok size h).transfer (reply_state (fields_of f).channel 0)) =
    ap (λ (z : SessionAndArea). answer_at z f) (still ∙ is) ∙ again x f ok size h in
    record {
      unmoved = still;
      answered_00 = (ap (λ (a : Answer). a.outcome) same, ap (λ (a : Answer). a.reply) same);
      unchanged = ap (λ (z : SessionAndArea). then_frame z f) still ∙ fd-passed-by y f h.command (λ n. omega arith);
      itself_alone = λ g fd other w.
          let z = with_00 y.session g y.area fd (subst (λ (l : SessionAndArea). AnswersWith (answer_at l g) (fields_of g) 0) still w) in
          let at : TransferAndArea = record { transfer = t; area = x.area } in
          let k : Packet = record { request = fields_of f; bytes = packet_in f } in
          let q : Packet = record { request = fields_of g; bytes = packet_in g } in
          let stands : record { transfer = y.session.transfer; area = y.area } ≡ then_packet at k =
          ap (λ (l : SessionAndArea). record { transfer = l.session.transfer; area = l.area }) is ∙ sym (packet-left at k h.taken) in
          let same = ((repeated-packet at k (lawful-inside x.session (length x.area) ok size) h.taken).itself_alone q other).0
          (ap (λ (l : TransferAndArea). state_to l q) (sym stands) ∙ z) in
          (ap (λ (l : Packet). l.request) same, ap (λ (l : Packet). l.bytes) same);
    }
