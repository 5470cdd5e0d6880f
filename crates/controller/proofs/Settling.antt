-- While an end check runs, its FE is answered in the plain run and not yet in the run: what is due of it. Assumes nothing.
use mathlib.Core.Path.{◌≡◌, refl, sym, ap, ap₂, ◌∙◌, subst}
use mathlib.Core.Bool.{Bool, true, false, cond}
use mathlib.Core.List.{List, [], ◌∷◌, ◌++◌, append-nil}
use Rattle.std.specs.Prelude.{Option, Some, IsSomeAnd}
use Prim.Native.Nat.{ℕ, ◌≤◌}
use lib.ListN.{length, drop}
use Rattle.fronts.specs.Frame.{Frame, encode}
use Rattle.frames.specs.Finished.{finished}
use Rattle.frames.specs.LiveReading.{CallResult}
use Rattle.frames.proofs.FinishedFrames.{finished-command}
use Rattle.frames.proofs.Remains.{state_after, replies_of}
use Rattle.sequences.specs.Padding.{padded}
use Rattle.commands.specs.Limits.{max_reply}
use Rattle.replies.specs.Replies.{reply_state, reply_frame, reply_size}
use Rattle.replies.proofs.ReplyFrames.{reply-frames}
use Rattle.replies.proofs.Replies.{reply-room}
use Rattle.transfer.specs.declared.state.Transfer.{Transfer}
use Rattle.image.specs.declared.check.Verdict.TheVariants.{Right, Wrong}
use Rattle.ending.specs.FE.{ended_fe}
use Rattle.session.specs.declared.answer.Answer.{Answer}
use Rattle.commands.specs.Outcomes.{accepted}
use Rattle.session.specs.Checking.{outcome_of}
use Rattle.session.specs.Transfers.{with_transfer}
use Rattle.session.proofs.Checks.{started-by, due_of, started-due}
use Rattle.controller.specs.Calls.{min_room, reply_size_of, reply_room_of, reply_in}
use Rattle.controller.specs.Leaving.{state_frame, verdict_state}
use Rattle.controller.specs.Demand3.{State, answer_to, step_to, frames_of, reply_to, Place, checking}
use Rattle.controller.proofs.Steps.{state_of, given, given_state, given_reply, reply_in_lem, landed}
use Rattle.session.specs.Lawful.{unlawful}
use Rattle.session.specs.Answering.{stepped}
use Rattle.session.proofs.OneGoes.{as_judged, called_in_one_go}
use Rattle.transfer.specs.Transfers.{Effect}
use Rattle.ending.specs.Portions.{right_crc}

-- the state once what is due is done, and FE's reply
abbrev pub settled_state : State → State
settled_state s =
    cond s.session.transfer.check.running
    (record { session = with_transfer s.session (due_of s.session s.area).transfer; area = s.area }) s

abbrev pub due_reply : State → List (List ℕ)
due_reply s = cond s.session.transfer.check.running (frames_of 0xFE (due_of s.session s.area).reply) []

-- a verdict is outcome 0
pub verdict-answers : (right : Bool) → outcome_of (cond right Right Wrong) ≡ accepted
verdict-answers true = refl
verdict-answers false = refl

-- the end of a check always replies, with the session's channel and 00 or 03, and leaves none running
pub ended-data : (t : Transfer) (right : Bool)
    → (ended_fe t right).reply ≡ Some (padded max_reply (reply_state t.leg.channel (verdict_state (cond right Right Wrong))))
unfolding ended_fe
ended-data t true = refl
ended-data t false = refl

pub ended-still : (t : Transfer) (right : Bool) → (ended_fe t right).transfer.check.running ≡ false
unfolding ended_fe
ended-still t true = refl
ended-still t false = refl

-- its reply as a frame
pub ended-reply : (t : Transfer) (right : Bool) → frames_of 0xFE (ended_fe t right).reply ≡ state_frame t.leg.channel
    (verdict_state (cond right Right Wrong)) ∷ []
ended-reply t right =
    ap (frames_of 0xFE) (ended-data t right)
    ∙ ap (λ (f : Frame). encode f ∷ []) (reply-frames.fe t.leg.channel (verdict_state (cond right Right Wrong)))

-- it is one, whatever list of replies it is
pub ended-one : (t : Transfer) (right : Bool) (l : List (List ℕ)) → l ≡ frames_of 0xFE (ended_fe t right).reply
    → IsSomeAnd (ended_fe t right).reply (λ d. l ≡ encode (reply_frame 0xFE d) ∷ [])
unfolding ended_fe
ended-one t true l e = e
ended-one t false l e = e

-- in the room
pub verdict-reply : (t : Transfer) (right : Bool) (room : List ℕ) → min_room ≤ length room → let d = ended_fe t right in
    reply_in (reply_size_of d.reply 0xFE room) (reply_room_of d.reply 0xFE room) ≡ frames_of 0xFE d.reply
verdict-reply t right room wide = reply_in_lem (ended_fe t right).reply 0xFE room (λ _. reply-frames.fe-replied) wide

-- and the room past it stays
pub verdict-room : (t : Transfer) (right : Bool) (room : List ℕ) → min_room ≤ length room → let d = ended_fe t right in
    reply_room_of d.reply 0xFE room ≡ state_frame t.leg.channel (verdict_state (cond right Right Wrong)) ++ drop
    (reply_size_of d.reply 0xFE room) room
verdict-room t right room wide =
    let state = verdict_state (cond right Right Wrong) in
    let d = padded max_reply (reply_state t.leg.channel state) in
    subst (λ (x : Option (List ℕ)). reply_room_of x 0xFE room ≡ state_frame t.leg.channel state ++ drop
    (reply_size_of x 0xFE room) room) (sym (ended-data t right))
    (reply-room 0xFE d room reply-frames.fe-replied wide
    ∙ ap (λ (f : Frame). encode f ++ drop (reply_size 0xFE d room) room) (reply-frames.fe t.leg.channel state))

-- lawful, and the area of the opened length
pub record Good (s : State) : Type 0 where
  pub lawful : unlawful s.session ≡ false
  pub size : length s.area ≡ s.session.opened

-- a frame, while no check runs
module _ (s : State) (f : Frame) (good : Good s) (still : s.session.transfer.check.running ≡ false) where
  abbrev starts : Bool
  starts = (given s f).session.transfer.check.running

  one-go-same : starts ≡ false → answer_to s f ≡ given s f
  one-go-same e =
      let a = given s f in
      called_in_one_go s.session (finished f) s.area good.lawful good.size
      ∙ ap (λ (b : Bool). cond b (stepped a.session (ended_fe a.session.transfer (right_crc a.session.transfer s.area))) a) e

  -- the area that the frame leaves
  area_same : (given_state s f).area ≡ (step_to s f).area
  area_same = ap (λ (x : Effect Answer). x.area) (as_judged s.session (finished f) s.area good.lawful good.size)

  pub settled_step : settled_state (given_state s f) ≡ step_to s f
  settled_step = go starts refl
    where
      go : (b : Bool) → starts ≡ b → settled_state (given_state s f) ≡ step_to s f
      go false e =
          ap (λ (x : Bool). cond x
          (record {
            session = with_transfer (given s f).session (due_of (given s f).session (given_state s f).area).transfer;
            area = (given_state s f).area;
          }) (given_state s f)) e
          ∙ ap₂ (λ (a : Answer) (m : List ℕ). record { session = a.session; area = m }) (sym (one-go-same e)) area_same
      go true e =
          let y = started-by s.session (finished f) s.area still e in
          ap (λ (x : Bool). cond x
          (record {
            session = with_transfer (given s f).session (due_of (given s f).session (given_state s f).area).transfer;
            area = (given_state s f).area;
          }) (given_state s f)) e
          ∙ ap (λ (m : List ℕ). record {
            session = with_transfer (given s f).session (due_of (given s f).session m).transfer;
            area = (given_state s f).area;
          }) y.same_area
          ∙ ap₂ (λ (a : Answer) (m : List ℕ). record { session = a.session; area = m })
          (sym (started-due s.session (finished f) s.area good.lawful good.size e y)) area_same

  settled_reply : given_reply s f ++ due_reply (given_state s f) ≡ reply_to s f
  settled_reply = go starts refl
    where
      go : (b : Bool) → starts ≡ b → given_reply s f ++ due_reply (given_state s f) ≡ reply_to s f
      go false e =
          ap (λ (x : Bool). given_reply s f ++ cond x
          (frames_of 0xFE (due_of (given s f).session (given_state s f).area).reply) []) e
          ∙ append-nil (given_reply s f)
          ∙ ap (λ (a : Answer). frames_of f.command a.reply) (sym (one-go-same e))
      go true e =
          let y = started-by s.session (finished f) s.area still e in
          let d = due_of (given s f).session s.area in
          let is-fe : f.command ≡ 0xFE = sym (finished-command f) ∙ y.command in
          ap (λ (a : Answer). frames_of f.command a.reply ++ due_reply (given_state s f)) y.is
          ∙ ap (λ (x : Bool). cond x (frames_of 0xFE (due_of (given s f).session (given_state s f).area).reply) []) e
          ∙ ap (λ (m : List ℕ). frames_of 0xFE (due_of (given s f).session m).reply) y.same_area
          ∙ sym
          (ap (λ (a : Answer). frames_of f.command a.reply) (started-due s.session (finished f) s.area good.lawful good.size e y)
          ∙ ap (λ (k : ℕ). frames_of k d.reply) is-fe)

-- a call that read c, while no check runs
module _ (c : CallResult) (quieted : Bool) (p : Place) (good : Good (state_of p)) (still : checking p ≡ false) where
  pub landed_settled : settled_state (state_of (landed c quieted p)) ≡ state_after step_to reply_to c (state_of p)
  landed_settled = go c.found refl
    where
      go : (b : Bool) → c.found ≡ b → settled_state (state_after given_state given_reply c (state_of p)) ≡ state_after step_to reply_to c
          (state_of p)
      go true e = rw e (settled_step (state_of p) c.frame good still)
      go false e =
          rw e (ap (λ (x : Bool). cond x
          (record { session = with_transfer p.at.session (due_of p.at.session p.area).transfer; area = p.area }) (state_of p))
          still)

  pub landed-reply : replies_of given_state given_reply c (state_of p) ++ due_reply
      (state_of (landed c quieted p)) ≡ replies_of step_to reply_to c (state_of p)
  landed-reply = go c.found refl
    where
      go : (b : Bool) → c.found ≡ b
          → replies_of given_state given_reply c (state_of p) ++ due_reply
          (state_after given_state given_reply c (state_of p)) ≡ replies_of step_to reply_to c (state_of p)
      go true e = rw e (settled_reply (state_of p) c.frame good still)
      go false e = rw e (ap (λ (x : Bool). cond x (frames_of 0xFE (due_of p.at.session p.area).reply) []) still)
