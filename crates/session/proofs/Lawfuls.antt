-- Outcome 9's sentence as a test and as propositions: they say the same. Assumes nothing.
use mathlib.Core.Path.{◌≡◌, refl, ap, ap₂}
use mathlib.Core.Bool.{Bool, true, false, cond, not, ◌||◌}
use mathlib.Core.List.{List}
use Prim.Native.Nat.{ℕ, ◌≤◌, ◌<◌}
use native.Mathlib.Omega.{arith}
use borrow.Author.Tests.{ltb-true, ltb-false, lt-ltb, le-ltb, eqb-true, eqb-false, eq-eqb, ne_eqb, not-false}
use lib.Dec.{ltb, eqb}
use Rattle.commands.specs.Limits.{min_packet, max_packet, max_area}
use Rattle.boards.specs.declared.board.Board.{Board}
use Rattle.transfer.specs.declared.state.Transfer.{Transfer}
use Rattle.transfer.specs.Phases.{idle, has_image, receiving_or_done}
use Rattle.sequences.proofs.Conditionals.{neither}
use Rattle.transfer.proofs.PhaseLaws.{image_busy}
use Rattle.session.specs.declared.session.Session.{Session}
use Rattle.boards.specs.Boards.{max_boards, place_of, bad_list}
use Rattle.boards.proofs.Places.{list-fits}
use Rattle.session.specs.Opening.{bad_area}
use Rattle.session.specs.Lawful.{bad_lengths, bad_last, bad_check, bad_size, bad_session_fields, unlawful, Lawful, LawfulMeans}

unless : (a b : Bool) → cond a false b ≡ false → a ≡ false → b ≡ false
unless true b e h = let z : ◌≡◌ {A = ℕ} 0 1 = cc in absurd (omega arith)
unless false b e h = e

if_then : (a b : Bool) → cond a b false ≡ false → a ≡ true → b ≡ false
if_then true b e h = e
if_then false b e h = let z : ◌≡◌ {A = ℕ} 0 1 = cc in absurd (omega arith)

-- what the fields of a session that is not idle are
record Fields (t : Transfer) (bs : List Board) (n : ℕ) : Type 0 where
  listed : place_of bs n t.leg.channel < n
  least : min_packet ≤ t.leg.agreed
  most : t.leg.agreed ≤ max_packet
  image : has_image t.leg.phase ≡ true → 0 < t.image.announced

fields : (t : Transfer) (bs : List Board) (n : ℕ) → bad_session_fields t bs n ≡ false → idle t.leg.phase ≡ false → Fields t bs n
fields t bs n e h =
    let f = unless (idle t.leg.phase) _ e h in
    let f1 = neither (not (ltb (place_of bs n t.leg.channel) n)) _ f in
    let f2 = neither (bad_size t.leg.agreed) _ f1.1 in
    let f3 = neither (ltb t.leg.agreed min_packet) _ f2.0 in
    record {
      listed = ltb-true _ _ (not-false _ f1.0);
      least = ltb-false _ _ f3.0;
      most = ltb-false _ _ f3.1;
      image = λ k. positive t.image.announced (eqb-false _ _ (if_then (has_image t.leg.phase) _ f2.1 k));
    }
  where
    positive : (m : ℕ) → (m ≡ 0 → ⊥) → 0 < m
    positive m n = omega arith

-- what a running check is
record Runs (t : Transfer) : Type 0 where
  unread : t.check.read < t.image.announced
  full : t.progress.stored ≡ t.image.announced
  ending : receiving_or_done t.leg.phase ≡ true

runs : (t : Transfer) → bad_check t ≡ false → t.check.running ≡ true → Runs t
runs t e h =
    let f1 = neither (not (ltb t.check.read t.image.announced)) _ (if_then t.check.running _ e h) in
    let f2 = neither (not (eqb t.progress.stored t.image.announced)) _ f1.1 in
    record { unread = ltb-true _ _ (not-false _ f1.0); full = eqb-true _ _ (not-false _ f2.0); ending = not-false _ f2.1 }

pub lawful : (s : Session) → unlawful s ≡ false → Lawful s
unfolding unlawful
lawful s e =
    let t = s.transfer in
    let e1 = neither (bad_list s.boards s.count) _ e in
    let e2 = neither (bad_area s.opened) _ e1.1 in
    let e3 = neither (bad_lengths t s.opened) _ e2.1 in
    let e4 = neither (bad_last t) _ e3.1 in
    let e5 = neither (bad_check t) _ e4.1 in
    let a1 = neither (ltb s.opened 1) _ e2.0 in
    let l1 = neither (ltb t.image.announced t.progress.stored) _ e3.0 in
    let l2 = neither (ltb s.opened t.image.announced) _ l1.1 in
    let l3 = neither (ltb max_packet t.progress.last) _ e4.0 in
    record {
      list = e1.0;
      some-area = ltb-false s.opened 1 a1.0;
      small-area = ltb-false max_area s.opened a1.1;
      stored = ltb-false _ _ l1.0;
      announced = ltb-false _ _ l2.0;
      number = ltb-false _ _ l2.1;
      most-last = ltb-false _ _ l3.0;
      last_stored = ltb-false _ _ l3.1;
      check-unread = λ h. (runs t e5.0 h).unread;
      check-stored = λ h. (runs t e5.0 h).full;
      check_phase = λ h. (runs t e5.0 h).ending;
      listed = λ h. (fields t s.boards s.count e5.1 h).listed;
      least_size = λ h. (fields t s.boards s.count e5.1 h).least;
      most-size = λ h. (fields t s.boards s.count e5.1 h).most;
      some-image = λ k. (fields t s.boards s.count e5.1 (image_busy t.leg.phase k)).image k;
    }

both_false : (a b : Bool) → a ≡ false → b ≡ false → (a || b) ≡ false
both_false a b p q = ap₂ ◌||◌ p q

cond_false : (a b : Bool) → (a ≡ true → b ≡ false) → cond a b false ≡ false
cond_false true b h = h refl
cond_false false b h = refl

cond-unless : (a b : Bool) → (a ≡ false → b ≡ false) → cond a false b ≡ false
cond-unless true b h = refl
cond-unless false b h = h refl

pub lawful-accepted : (s : Session) → Lawful s → unlawful s ≡ false
unfolding unlawful
lawful-accepted s l =
    let t = s.transfer in
    both_false (bad_list s.boards s.count) _ l.list
    (both_false (bad_area s.opened) _ (both_false (ltb s.opened 1) _ (le-ltb _ _ l.some-area) (le-ltb _ _ l.small-area))
    (both_false (bad_lengths t s.opened) _
    (both_false (ltb t.image.announced t.progress.stored) _ (le-ltb _ _ l.stored)
    (both_false (ltb s.opened t.image.announced) _ (le-ltb _ _ l.announced) (le-ltb _ _ l.number)))
    (both_false (bad_last t) _ (both_false (ltb max_packet t.progress.last) _ (le-ltb _ _ l.most-last) (le-ltb _ _ l.last_stored))
    (both_false (bad_check t) _
    (cond_false t.check.running _ (λ h.
    both_false (not (ltb t.check.read t.image.announced)) _ (ap not (lt-ltb _ _ (l.check-unread h)))
    (both_false (not (eqb t.progress.stored t.image.announced)) _ (ap not (eq-eqb _ _ (l.check-stored h)))
    (ap not (l.check_phase h)))))
    (cond-unless (idle t.leg.phase) _ (λ h.
    both_false (not (ltb (place_of s.boards s.count t.leg.channel) s.count)) _ (ap not (lt-ltb _ _ (l.listed h)))
    (both_false (bad_size t.leg.agreed) _
    (both_false (ltb t.leg.agreed min_packet) _ (le-ltb _ _ (l.least_size h)) (le-ltb _ _ (l.most-size h)))
    (cond_false (has_image t.leg.phase) _ (λ k. ne_eqb _ _ (nonzero t.image.announced (l.some-image k)))))))))))
  where
    nonzero : (n : ℕ) → 0 < n → n ≡ 0 → ⊥
    nonzero n h e = omega arith

-- the image lies within the area
pub lawful-inside : (s : Session) (n : ℕ) → unlawful s ≡ false → n ≡ s.opened → s.transfer.image.announced ≤ n
lawful-inside s n e size = let fits = (lawful s e).announced in omega arith

pub lawful-count : (s : Session) → unlawful s ≡ false → s.count ≤ max_boards
lawful-count s e = list-fits s.boards s.count (lawful s e).list

pub lawful-means : LawfulMeans
lawful-means s = (lawful s, lawful-accepted s)
