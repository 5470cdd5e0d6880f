-- With any outcome but 0 there is no reply and nothing changes: session and area are as they were. Assumes nothing.
use mathlib.Core.Path.{◌≡◌, refl, ap}
use mathlib.Core.Bool.{Bool, true, false, cond, not, ◌||◌}
use mathlib.Core.List.{List}
use Rattle.std.specs.Prelude.{Option}
use Prim.Native.Nat.{ℕ}
use native.Mathlib.Omega.{arith}
use borrow.Author.Tests.{eq-eqb}
use lib.Dec.{ltb, eqb}
use lib.ListN.{length, get_or}
use Rattle.frames.specs.declared.finished.FinishedFrame.{FinishedFrame}
use Rattle.requests.specs.Requests.{channel_of, request_fa, request_fb, request_fc, request_fd, packet_of}
use Rattle.boards.specs.declared.board.Board.{Board}
use Rattle.transfer.specs.declared.state.Transfer.{Transfer}
use Rattle.transfer.specs.declared.state.Step.{Step}
use Rattle.transfer.specs.Phases.{idle, told_or_receiving, receiving_or_done}
use Rattle.transfer.specs.Transfers.{Effect, unwritten, unanswered, other_channel}
use Rattle.agreement.specs.FA.{refused_fa, answer_fa}
use Rattle.agreement.specs.FB.{state_fb, grant_fb, answer_fb}
use Rattle.agreement.specs.FC.{answer_fc}
use Rattle.packets.specs.FD.{takes, effect_fd, answer_fd}
use Rattle.ending.specs.FE.{answer_fe}
use Rattle.sequences.proofs.Conditionals.{of-both, of_each}
use Rattle.session.specs.declared.session.Session.{Session}
use Rattle.session.specs.declared.answer.Answer.{Answer}
use Rattle.commands.specs.declared.outcome.Outcome.{Outcome}
use Rattle.commands.specs.Outcomes.{accepted, unlisted_command, wrong_header, unlisted_channel, short_room, other_area, rules_broken, wrong_phase, check_runs}
use Rattle.boards.specs.Boards.{past_board}
use Rattle.session.specs.Lawful.{unlawful}
use Rattle.session.specs.Answering.{unchanged, within, place_for, effect_of, routed, header_of_frame, judged, reaction, answered}
use Rattle.session.proofs.Headers.{by-header}
use Rattle.session.specs.Unanswered.{NothingChanged, Unanswered}
use Rattle.commands.proofs.Outcomes.{same-false}

-- a step without an answer leaves the transfer and has no reply
abbrev Still : Transfer → Step → Type 0
Still t x = x.answered ≡ false → x ≡ unanswered t

answers : {t : Transfer} (u : Transfer) (d : Option (List ℕ)) → Still t (record { answered = true; transfer = u; reply = d })
answers u d e = let z : ◌≡◌ {A = ℕ} 0 1 = cc in absurd (omega arith)

module _ (t : Transfer) where
  fa-still : (b : Board) (r : _) → Still t (answer_fa t b r)
  unfolding answer_fa
  fa-still b r = of-both (Still t) (refused_fa b r) _ _ (answers _ _) (answers _ _)

  fb-still : (b : Board) (r : _) (area : List ℕ) → Still t (answer_fb t b r area)
  unfolding answer_fb grant_fb
  fb-still b r area =
      of-both (Still t) (idle t.leg.phase || other_channel t r.channel) _ _ (λ _. refl)
      (of-both (Still t) (eqb (state_fb b r (length area)) 0) _ _ (answers _ _) (answers _ _))

  fc-still : (r : _) → Still t (answer_fc t r)
  unfolding answer_fc
  fc-still r = of-both (Still t) (not (told_or_receiving t.leg.phase) || other_channel t r.channel) _ _ (λ _. refl) (answers _ _)

  fd-still : (r : _) (p area : List ℕ) → Still t (answer_fd t r p area)
  unfolding effect_fd
  fd-still r p area = of-both (λ (x : Effect Step). Still t x.gives) (takes t r p area) _ _ (answers _ _) (answers _ _)

  fe-still : (channel : ℕ) → Still t (answer_fe t channel)
  unfolding answer_fe
  fe-still channel =
      of-both (Still t) (not (receiving_or_done t.leg.phase) || other_channel t channel) _ _ (answers _ _)
      (of-both (Still t) (not (eqb t.progress.stored t.image.announced)) _ _ (answers _ _) (answers _ _))

  -- FD is always answered
  fd-answered : (r : _) (p area : List ℕ) → (answer_fd t r p area).answered ≡ true
  unfolding effect_fd
  fd-answered r p area = of-both (λ (x : Effect Step). x.gives.answered ≡ true) (takes t r p area) _ _ refl refl

  -- and only FD writes
  abbrev StillAll : List ℕ → Effect Step → Type 0
  StillAll area x = x.gives.answered ≡ false → (x.gives ≡ unanswered t) × (x.area ≡ area)

  step-still : (f : FinishedFrame) (b : Board) (area : List ℕ) → StillAll area (effect_of t f b area)
  unfolding effect_of
  step-still f b area =
      let P = StillAll area in
      of-both P (eqb f.command 0xFA) _ _ (λ e. (fa-still b (request_fa f.bytes) e, refl))
      (of-both P (eqb f.command 0xFB) _ _ (λ e. (fb-still b (request_fb f.bytes) area e, refl))
      (of-both P (eqb f.command 0xFC) _ _ (λ e. (fc-still (request_fc f.bytes) e, refl))
      (of-both P (eqb f.command 0xFD) _ _
      (λ e. let y = fd-answered (request_fd f.bytes) (packet_of f.length f.bytes) area in
      absurd (let z : ◌≡◌ {A = ℕ} 0 1 = cc in omega arith))
      (λ e. (fe-still (channel_of f.bytes) e, refl)))))

abbrev Quiet : Session → List ℕ → Effect Answer → Type 0
Quiet s area x = (x.gives.outcome ≡ accepted → ⊥) → NothingChanged s area x.gives x.area

unchanged-quiet : (s : Session) (area : List ℕ) (n : Outcome) → Quiet s area (unwritten (unchanged n s) area)
unchanged-quiet s area n z = record { session = refl; no-reply = refl; same_area = refl }

stepped-quiet : (s : Session) (f : FinishedFrame) (b : Board) (area : List ℕ) → Quiet s area (within s (effect_of s.transfer f b area))
stepped-quiet s f b area z = go (effect_of s.transfer f b area).gives.answered refl
  where
    go : (x : Bool) → (effect_of s.transfer f b area).gives.answered ≡ x
        → NothingChanged s area (within s (effect_of s.transfer f b area)).gives (within s (effect_of s.transfer f b area)).area
    go true e = absurd (z (ap (λ (x : Bool). cond x accepted wrong_phase) e))
    go false e =
        let still = step-still s.transfer f b area e in
        record {
          session = ap (λ (x : Step). record { boards = s.boards; count = s.count; opened = s.opened; transfer = x.transfer })
              still.0;
          no-reply = ap (λ (x : Step). x.reply) still.0;
          same_area = still.1;
        }

pub nothing_changed : Unanswered
unfolding reaction judged routed
nothing_changed s f area =
    let P = Quiet s area in
    let same = unchanged-quiet s area in
    of-both P (unlawful s) _ _ (same rules_broken)
    (of-both P (not (eqb (length area) s.opened)) _ _ (same other_area)
    (by-header P (header_of_frame f) _ _ _ (same unlisted_command) (same wrong_header)
    (of-both P (eqb f.command 0xF9) _ _ (same accepted)
    (of-both P (ltb (place_for s f) s.count) _ _
    (of-both P s.transfer.check.running _ _ (same check_runs) (stepped-quiet s f (get_or s.boards (place_for s f) past_board) area))
    (same unlisted_channel)))))

-- ---- a lawful session with its own area refuses nothing as a call does

-- not 5, 6 or 9
abbrev pub NoRefusal : Outcome → Type 0
NoRefusal n = (n ≡ short_room → ⊥) × ((n ≡ other_area → ⊥) × (n ≡ rules_broken → ⊥))

pub answer_accepts : (s : Session) (f : FinishedFrame) (area : List ℕ) → unlawful s ≡ false → length area ≡ s.opened
    → NoRefusal (answered s f area).outcome
unfolding reaction judged routed
answer_accepts s f area e size =
    let P : Effect Answer → Type 0 = λ x. NoRefusal x.gives.outcome in
    let no : (b : Bool) → b ≡ false → b ≡ true → ⊥ = λ b f t. let z : ◌≡◌ {A = ℕ} 0 1 = cc in omega arith in
    of_each P (unlawful s) _ _ (λ x. absurd (no (unlawful s) e x))
    (λ _. of_each P (not (eqb (length area) s.opened)) _ _
    (λ x. absurd (no (not (eqb (length area) s.opened)) (ap not (eq-eqb (length area) s.opened size)) x))
    (λ _. by-header P (header_of_frame f) _ _ _ (same-false _ _ refl, (same-false _ _ refl, same-false _ _ refl))
    (same-false _ _ refl, (same-false _ _ refl, same-false _ _ refl))
    (of-both P (eqb f.command 0xF9) _ _ (same-false _ _ refl, (same-false _ _ refl, same-false _ _ refl))
    (of-both P (ltb (place_for s f) s.count) _ _
    (of-both P s.transfer.check.running _ _ (same-false _ _ refl, (same-false _ _ refl, same-false _ _ refl))
    (of-both NoRefusal (effect_of s.transfer f (get_or s.boards (place_for s f) past_board) area).gives.answered accepted wrong_phase
    (same-false _ _ refl, (same-false _ _ refl, same-false _ _ refl)) (same-false _ _ refl, (same-false _ _ refl, same-false _ _ refl))))
    (same-false _ _ refl, (same-false _ _ refl, same-false _ _ refl))))))
