-- 01, "Outcome numbers": "Outcome 9 is given exactly when: held is above 526; list or opened length breaks opening's rules; stored is
-- above announced or announced above the opened length; next number is above 65,536; or, unless idle, the session's channel is not
-- listed or the agreed size is not 16 to 512; or, in told, receiving or done, announced is 0." Document 02, K2, adds: if the last
-- packet's length "is above 512 or above stored"; K5: "if a running check has read the announced length or more, or runs though stored is
-- not announced or the phase is not receiving or done". Of this the session has all but the held bytes. Assumes nothing.
use Rattle.std.specs.Prelude.{◌≡◌, ◌↔◌, Bool, true, false, cond, not, ◌||◌, List, ℕ, ◌≤◌, ◌<◌, ltb, eqb}
use Rattle.commands.specs.Limits.{min_packet, max_packet, max_area, max_next}
use Rattle.boards.specs.declared.board.Board.{Board}
use Rattle.transfer.specs.declared.state.Transfer.{Transfer}
use Rattle.transfer.specs.Phases.{idle, has_image, receiving_or_done}
use Rattle.session.specs.declared.session.Session.{Session}
use Rattle.boards.specs.Boards.{place_of, bad_list}
use Rattle.session.specs.Transfers.{own_transfer}
use Rattle.session.specs.Opening.{bad_area}

-- "stored is above announced or announced above the opened length; next number is above 65,536"
abbrev pub bad_lengths : Transfer → ℕ → Bool
bad_lengths t opened = ltb t.image.announced t.progress.stored || (ltb opened t.image.announced || ltb max_next t.leg.next)

-- the last packet's length "is above 512 or above stored"
abbrev pub bad_last : Transfer → Bool
bad_last t = ltb max_packet t.progress.last || ltb t.progress.stored t.progress.last

-- "a running check has read the announced length or more, or runs though stored is not announced or the phase is not receiving or done"
abbrev pub bad_check : Transfer → Bool
bad_check t =
    cond t.check.running
    (not (ltb t.check.read t.image.announced) ||
    (not (eqb t.progress.stored t.image.announced) || not (receiving_or_done t.leg.phase)))
    false

abbrev pub bad_size : ℕ → Bool
bad_size agreed = ltb agreed min_packet || ltb max_packet agreed

-- "unless idle, the session's channel is not listed or the agreed size is not 16 to 512; or, in told, receiving or done, announced is 0"
abbrev pub bad_session_fields : Transfer → List Board → ℕ → Bool
bad_session_fields t bs n =
    cond (idle t.leg.phase) false
    (not (ltb (place_of bs n t.leg.channel) n) ||
    (bad_size t.leg.agreed || cond (has_image t.leg.phase) (eqb t.image.announced 0) false))

unfoldable pub unlawful : Session → Bool
unlawful s =
    bad_list s.boards s.count
    || (bad_area s.opened
    || (bad_lengths (own_transfer s) s.opened
    || (bad_last (own_transfer s) || (bad_check (own_transfer s) || bad_session_fields (own_transfer s) s.boards s.count))))

-- The same as propositions, one to a rule.
pub record Lawful (s : Session) : Type 0 where
  pub list : bad_list s.boards s.count ≡ false
  pub some-area : 1 ≤ s.opened
  pub small-area : s.opened ≤ max_area
  pub stored : (own_transfer s).progress.stored ≤ (own_transfer s).image.announced
  pub announced : (own_transfer s).image.announced ≤ s.opened
  pub number : (own_transfer s).leg.next ≤ max_next
  pub most-last : (own_transfer s).progress.last ≤ max_packet
  pub last_stored : (own_transfer s).progress.last ≤ (own_transfer s).progress.stored
  pub check-unread : (own_transfer s).check.running ≡ true → (own_transfer s).check.read < (own_transfer s).image.announced
  pub check-stored : (own_transfer s).check.running ≡ true → (own_transfer s).progress.stored ≡ (own_transfer s).image.announced
  pub check_phase : (own_transfer s).check.running ≡ true → receiving_or_done (own_transfer s).leg.phase ≡ true
  pub listed : idle (own_transfer s).leg.phase ≡ false → place_of s.boards s.count (own_transfer s).leg.channel < s.count
  pub least_size : idle (own_transfer s).leg.phase ≡ false → min_packet ≤ (own_transfer s).leg.agreed
  pub most-size : idle (own_transfer s).leg.phase ≡ false → (own_transfer s).leg.agreed ≤ max_packet
  pub some-image : has_image (own_transfer s).leg.phase ≡ true → 0 < (own_transfer s).image.announced

-- The claim: they say the same.
abbrev pub LawfulMeans : Type 0
LawfulMeans = (s : Session) → (unlawful s ≡ false) ↔ Lawful s
