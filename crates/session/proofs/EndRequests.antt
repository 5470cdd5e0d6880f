-- Demand 2's "exactly when", at the session, with the check made in one go. Assumes nothing.
use mathlib.Core.Path.{◌≡◌, refl, sym, ap, ap₂, ◌∙◌}
use mathlib.Core.Bool.{Bool, true, false, cond, not, ◌||◌}
use mathlib.Core.Logic.{◌⊎◌, inl, inr}
use mathlib.Core.List.{List, []}
use Rattle.std.specs.Prelude.{Option, Some}
use Rattle.std.specs.Option.{unwrap_or}
use Prim.Native.Nat.{ℕ}
use native.Mathlib.Omega.{arith}
use borrow.Author.Tests.{eqb-true, eq-eqb, lt-ltb, not-false}
use lib.Dec.{ltb, eqb}
use lib.ListN.{length, get_or, take}
use Rattle.crc.specs.Crc.{checksum, crc32}
use Rattle.frames.specs.declared.finished.FinishedFrame.{FinishedFrame}
use Rattle.sequences.specs.Padding.{padded}
use Rattle.sequences.proofs.Conditionals.{neither, of-both}
use Rattle.commands.specs.declared.table.Header.TheVariants.{Right}
use Rattle.sequences.specs.Search.{find}
use Rattle.commands.specs.Table.{table, row_at, place_in_table, header_of}
use Rattle.commands.specs.Limits.{max_reply}
use Rattle.replies.specs.Replies.{reply_state}
use Rattle.requests.specs.Requests.{channel_of}
use Rattle.boards.specs.declared.board.Board.{Board}
use Rattle.transfer.specs.declared.state.Transfer.{Transfer}
use Rattle.transfer.specs.declared.state.Step.{Step}
use Rattle.transfer.specs.Phases.{receiving_or_done}
use Rattle.image.specs.Checks.{started_check}
use Rattle.transfer.specs.Transfers.{Effect, unwritten, with_check, other_channel, replied, noted}
use Rattle.ending.specs.FE.{reaches_crc, answer_fe, ended_fe}
use Rattle.ending.specs.Portions.{right_crc}
use Rattle.transfer.proofs.PhaseLaws.{image_busy, ending-image}
use Rattle.commands.specs.Outcomes.{accepted, unlisted_channel, wrong_phase}
use Rattle.session.specs.declared.session.Session.{Session}
use Rattle.session.specs.declared.answer.Answer.{Answer}
use Rattle.boards.specs.Boards.{past_board, place_of}
use Rattle.session.specs.Lawful.{unlawful}
use Rattle.session.specs.Answering.{unchanged, stepped, within, place_for, effect_of, routed, header_of_frame, judged, reaction}
use Rattle.session.specs.Answering.{answered, area_after}
use Rattle.session.specs.OneGo.{in_one_go}
use Rattle.session.specs.EndRequest.{IsEndRequest, Complete, SuccessIn, EndRequest}
use Rattle.session.proofs.Headers.{by-header}
use Rattle.session.proofs.Lawfuls.{lawful}
use Rattle.session.proofs.OneGoes.{called_in_one_go}
use Rattle.commands.proofs.Outcomes.{same-false}

-- ---- the transfer's part

-- an end request does not get as far as the CRC: by phase or channel, or by the stored length
abbrev early : Transfer → ℕ → Bool
early t channel = not (receiving_or_done t.leg.phase) || other_channel t channel

abbrev short : Transfer → Bool
short t = not (eqb t.progress.stored t.image.announced)

-- FE with its check in one go
unfoldable go_fe : Transfer → ℕ → List ℕ → Step
go_fe t channel area =
    cond (early t channel) (replied t (reply_state channel 3))
    (cond (short t) (replied t (reply_state channel 1)) (ended_fe t (right_crc t area)))

-- another state is another reply
not-success : (m k n : ℕ) → Some (padded max_reply (reply_state m n)) ≡ Some (padded max_reply (reply_state k 0)) → n ≡ 0
unfolding reply_state
not-success m k n e = ap (λ (d : Option (List ℕ)). get_or (unwrap_or d []) 1 0) e

module _ (t : Transfer) (channel : ℕ) (area : List ℕ) where
  complete_late : Complete t channel area → early t channel ≡ false
  complete_late c = ap₂ ◌||◌ (ap not c.open_or_accepted) (ap not (eq-eqb channel t.leg.channel c.here))

  complete-full : Complete t channel area → short t ≡ false
  complete-full c = ap not (eq-eqb t.progress.stored t.image.announced c.all-stored)

  complete-success : Complete t channel area → (go_fe t channel area).reply ≡ Some (padded max_reply (reply_state channel 0))
  unfolding go_fe ended_fe
  complete-success c =
      simp (complete_late c, complete-full c, eq-eqb _ t.image.crc c.right)
      (ap (λ (k : ℕ). Some (padded max_reply (reply_state k 0))) (sym c.here))

  success-complete : (go_fe t channel area).reply ≡ Some (padded max_reply (reply_state channel 0)) → Complete t channel area
  unfolding go_fe ended_fe
  success-complete e = go (early t channel) (short t) (right_crc t area) refl refl refl
    where
      go : (a b c : Bool) → early t channel ≡ a → short t ≡ b → right_crc t area ≡ c → Complete t channel area
      go true b c ea eb ec = absurd (let z = not-success channel channel 3 (simp ea at e) in omega arith)
      go false true c ea eb ec = absurd (let z = not-success channel channel 1 (simp (ea, eb) at e) in omega arith)
      go false false false ea eb ec = absurd (let z = not-success t.leg.channel channel 3 (simp (ea, eb, ec) at e) in omega arith)
      go false false true ea eb ec =
          let n = neither (not (receiving_or_done t.leg.phase)) _ ea in
          record {
            open_or_accepted = not-false _ n.0;
            here = eqb-true channel t.leg.channel (not-false _ n.1);
            all-stored = eqb-true t.progress.stored t.image.announced (not-false _ eb);
            right = eqb-true _ t.image.crc ec;
          }

  go-answered : (go_fe t channel area).answered ≡ true
  unfolding go_fe ended_fe
  go-answered = go (early t channel) (short t) (right_crc t area) refl refl refl
    where
      go : (a b c : Bool) → early t channel ≡ a → short t ≡ b → right_crc t area ≡ c
          → (go_fe t channel area).answered ≡ true
      go true b c ea eb ec = simp ea
      go false true c ea eb ec = simp (ea, eb)
      go false false false ea eb ec = simp (ea, eb, ec)
      go false false true ea eb ec = simp (ea, eb, ec)

-- ---- the session's

pub fe-header : (f : FinishedFrame) (channel : ℕ) → IsEndRequest f channel → header_of_frame f ≡ Right
unfolding header_of place_in_table row_at table find
fe-header f channel r = simp (r.command, r.version, r.size)

module _ (s : Session) (f : FinishedFrame) (channel : ℕ) (area : List ℕ) (e : unlawful s ≡ false) (size : length area ≡ s.opened)
    (r : IsEndRequest f channel) where
  abbrev t : Transfer
  t = s.transfer

  abbrev listed : Bool
  listed = ltb (place_for s f) s.count

  -- the session's channel is listed
  own-listed : receiving_or_done t.leg.phase ≡ true → channel ≡ t.leg.channel → listed ≡ true
  own-listed ending here =
      let own = (lawful s e).listed (image_busy t.leg.phase (ending-image t.leg.phase ending)) in
      let place : place_for s f ≡ place_of s.boards s.count t.leg.channel = ap (place_of s.boards s.count) (r.for ∙ here) in
      lt-ltb (place_for s f) s.count (omega arith)

  -- so is that of a transfer that is complete
  complete-listed : Complete t channel area → listed ≡ true
  complete-listed c = own-listed c.open_or_accepted c.here

  fe-effect : (b : Board) → effect_of t f b area ≡ unwritten (answer_fe t (channel_of f.bytes)) area
  unfolding effect_of
  fe-effect b = rw r.command refl

  -- an end request writes nothing into the area
  pub fe-area : area_after s f area ≡ area
  unfolding reaction judged routed
  fe-area =
      let P : Effect Answer → Type 0 = λ x. x.area ≡ area in
      of-both P (unlawful s) _ _ refl
      (of-both P (not (eqb (length area) s.opened)) _ _ refl
      (by-header P (header_of_frame f) _ _ _ refl refl
      (of-both P (eqb f.command 0xF9) _ _ refl
      (of-both P (ltb (place_for s f) s.count) _ _
      (of-both P t.check.running _ _ refl
      (ap (λ (x : Effect Step). x.area) (fe-effect (get_or s.boards (place_for s f) past_board)))) refl))))

  -- one for an unlisted channel is not complete
  pub unlisted_incomplete : listed ≡ false → Complete t channel area → ⊥
  unlisted_incomplete unlisted c = let z = sym (complete-listed c) ∙ unlisted in let y : ◌≡◌ {A = ℕ} 0 1 = cc in omega arith

  -- while none runs
  module _ (still : t.check.running ≡ false) where
    -- past 9, 6, 2, 3 and 12
    fe-reaction : reaction s f area ≡ cond listed (within s (unwritten (answer_fe t channel) area)) (unwritten (unchanged unlisted_channel s) area)
    unfolding reaction judged routed effect_of
    fe-reaction =
        let header = fe-header f channel r in
        rw (e, eq-eqb (length area) s.opened size, header, still) (simp (r.command, r.for))

    fe-routed : answered s f area ≡ cond listed (stepped s (answer_fe t channel)) (unchanged unlisted_channel s)
    fe-routed = ap (λ (x : Effect Answer). x.gives) fe-reaction ∙ out listed
      where
        out : (b : Bool) → (cond b (within s (unwritten (answer_fe t channel) area)) (unwritten (unchanged unlisted_channel s) area)).gives ≡ cond b
            (stepped s (answer_fe t channel)) (unchanged unlisted_channel s)
        out true = refl
        out false = refl

    -- with the check in one go
    in-one-go : in_one_go s f area ≡ cond listed (stepped s (go_fe t channel area)) (unchanged unlisted_channel s)
    unfolding answer_fe go_fe ended_fe
    in-one-go = go listed (early t channel) (short t) refl refl refl
      where
        go : (l a b : Bool) → listed ≡ l → early t channel ≡ a → short t ≡ b
            → in_one_go s f area ≡ cond listed (stepped s (go_fe t channel area)) (unchanged unlisted_channel s)
        go false a b el ea eb = called_in_one_go s f area e size ∙ rw fe-routed (simp (el, still))
        go true true b el ea eb = called_in_one_go s f area e size ∙ rw fe-routed (simp (el, ea, still))
        go true false true el ea eb = called_in_one_go s f area e size ∙ rw fe-routed (simp (el, ea, eb, still))
        go true false false el ea eb = called_in_one_go s f area e size ∙ rw fe-routed (simp (el, ea, eb))

    chosen : (l : Bool) → listed ≡ l → in_one_go s f area ≡ cond l (stepped s (go_fe t channel area)) (unchanged unlisted_channel s)
    chosen l el = in-one-go ∙ ap (λ (x : Bool). cond x (stepped s (go_fe t channel area)) (unchanged unlisted_channel s)) el

    forwards : SuccessIn channel (in_one_go s f area) → Complete t channel area
    forwards p = go listed refl
      where
        go : (b : Bool) → listed ≡ b → Complete t channel area
        go true eb = success-complete t channel area (sym (ap (λ (x : Answer). x.reply) (chosen true eb)) ∙ p.reply)
        go false eb = absurd (same-false unlisted_channel accepted refl (sym (ap (λ (x : Answer). x.outcome) (chosen false eb)) ∙ p.answered))

    backwards : Complete t channel area → SuccessIn channel (in_one_go s f area)
    backwards c =
        let a = chosen true (complete-listed c) in
        record {
          answered = ap (λ (x : Answer). x.outcome) a ∙ ap (λ (b : Bool). cond b accepted wrong_phase) (go-answered t channel area);
          reply = ap (λ (x : Answer). x.reply) a ∙ complete-success t channel area c;
        }

    -- where FE starts none, listed or not
    none-starts : (answer_fe t channel).transfer.check.running ≡ false → (answered s f area).session.transfer.check.running ≡ false
    none-starts none =
        ap (λ (x : Answer). x.session.transfer.check.running) fe-routed
        ∙ of-both (λ (x : Answer). x.session.transfer.check.running ≡ false) listed (stepped s (answer_fe t channel))
        (unchanged unlisted_channel s) none still

    -- it starts a check exactly when it gets as far as the CRC
    pub starts-at-crc : (answered s f area).session.transfer.check.running ≡ reaches_crc t channel
    unfolding answer_fe
    starts-at-crc =
        go listed (receiving_or_done t.leg.phase) (other_channel t channel)
        (eqb t.progress.stored t.image.announced) refl refl refl refl
      where
        go : (l a b c : Bool) → listed ≡ l → receiving_or_done t.leg.phase ≡ a → other_channel t channel ≡ b
            → eqb t.progress.stored t.image.announced ≡ c
            → (answered s f area).session.transfer.check.running ≡ reaches_crc t channel
        go l false b c el ea eb ec = none-starts (simp (ea, still)) ∙ simp ea
        go l true true c el ea eb ec = none-starts (simp (ea, eb, still)) ∙ simp (ea, eb)
        go l true false false el ea eb ec = none-starts (simp (ea, eb, ec, still)) ∙ simp (ea, eb, ec)
        go true true false true el ea eb ec = ap (λ (x : Answer). x.session.transfer.check.running) fe-routed ∙ simp (el, ea, eb, ec)
        go false true false true el ea eb ec =
            absurd (let z = sym (own-listed ea (eqb-true channel t.leg.channel (not-false _ eb))) ∙ el in let y : ◌≡◌ {A = ℕ} 0 1 =
            cc in omega arith)

    -- a complete transfer's end request does
    pub complete_reaches : Complete t channel area → reaches_crc t channel ≡ true
    complete_reaches c =
        simp (
          c.open_or_accepted,
          eq-eqb channel t.leg.channel c.here,
          eq-eqb t.progress.stored t.image.announced c.all-stored,
        )

    -- one that starts none is answered 03 or 01, or not at all
    pub early-answers : (answered s f area).session.transfer.check.running ≡ false
        → (answered s f area ≡ unchanged unlisted_channel s) ⊎
        ((answered s f area ≡ stepped s (replied t (reply_state channel 3))) ⊎
        (answered s f area ≡ stepped s (replied t (reply_state channel 1))))
    unfolding answer_fe
    early-answers none = go listed (early t channel) (short t) refl refl refl
      where
        go : (l a b : Bool) → listed ≡ l → early t channel ≡ a → short t ≡ b
            → (answered s f area ≡ unchanged unlisted_channel s) ⊎
            ((answered s f area ≡ stepped s (replied t (reply_state channel 3))) ⊎
            (answered s f area ≡ stepped s (replied t (reply_state channel 1))))
        go false a b el ea eb = inl (fe-routed ∙ simp el)
        go true true b el ea eb = inr (inl (fe-routed ∙ simp (el, ea)))
        go true false true el ea eb = inr (inr (fe-routed ∙ simp (el, ea, eb)))
        go true false false el ea eb =
            let is : answered s f area ≡ stepped s (noted (with_check t started_check)) = fe-routed ∙ simp (el, ea, eb) in
            let no = sym (ap (λ (x : Answer). x.session.transfer.check.running) is) ∙ none in
            absurd (let z : ◌≡◌ {A = ℕ} 0 1 = cc in omega arith)

    -- one that starts a check lacks nothing but the right CRC-32
    pub started-complete : (answered s f area).session.transfer.check.running ≡ true
        → checksum crc32 (take t.image.announced area) ≡ t.image.crc → Complete t channel area
    unfolding answer_fe
    started-complete runs right = go listed (early t channel) (short t) refl refl refl
      where
        no : {A : Type 0} (a : Answer) → answered s f area ≡ a → a.session.transfer.check.running ≡ false → A
        no a is none = let y = sym runs ∙ ap (λ (x : Answer). x.session.transfer.check.running) is ∙ none in
            absurd (let z : ◌≡◌ {A = ℕ} 0 1 = cc in omega arith)

        go : (l a b : Bool) → listed ≡ l → early t channel ≡ a → short t ≡ b → Complete t channel area
        go false a b el ea eb = no (unchanged unlisted_channel s) (fe-routed ∙ simp el) still
        go true true b el ea eb = no (stepped s (replied t (reply_state channel 3))) (fe-routed ∙ simp (el, ea)) still
        go true false true el ea eb = no (stepped s (replied t (reply_state channel 1))) (fe-routed ∙ simp (el, ea, eb)) still
        go true false false el ea eb =
            let n = neither (not (receiving_or_done t.leg.phase)) _ ea in
            record {
              open_or_accepted = not-false _ n.0;
              here = eqb-true channel t.leg.channel (not-false _ n.1);
              all-stored = eqb-true t.progress.stored t.image.announced (not-false _ eb);
              right = right;
            }

pub end_request_lem : EndRequest
end_request_lem s f channel area e size still r = (forwards s f channel area e size r still, backwards s f channel area e size r still)
