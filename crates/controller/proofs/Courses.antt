-- The course of a running end check: over every list of calls, and to its end. Assumes nothing.
use mathlib.Core.Path.{◌≡◌, refl, sym, ap, ap₂, ◌∙◌, subst}
use mathlib.Core.Bool.{Bool, true, false, cond}
use mathlib.Core.Logic.{⊎_elim}
use mathlib.Core.List.{List, [], ◌∷◌, ◌++◌}
use Prim.Native.Nat.{ℕ, zero, suc, ◌+◌, ◌*◌, ◌≤◌, ◌<◌}
use native.Mathlib.Omega.{arith}
use native.Mathlib.Nat.{suc-mul}
use lib.Dec.{eqb}
use lib.ListN.{length, take, drop, replicate}
use Rattle.crc.specs.Crc.{update, finish, crc32}
use Rattle.frames.specs.LiveReading.{Call, fed_by}
use Rattle.sequences.proofs.Orders.{lt_or_le}
use Rattle.image.specs.declared.check.Check.{Check}
use Rattle.image.specs.declared.check.Verdict.{Verdict}
use Rattle.image.specs.declared.check.Verdict.TheVariants.{Unfinished, Right, Wrong}
use Rattle.transfer.specs.declared.state.Transfer.{Transfer}
use Rattle.transfer.specs.declared.state.Step.{Step}
use Rattle.transfer.specs.Transfers.{with_check}
use Rattle.ending.specs.FE.{ended_fe}
use Rattle.image.specs.Checks.{read_on}
use Rattle.ending.specs.Portions.{unread, will_say}
use Rattle.session.specs.declared.session.Session.{Session}
use Rattle.session.specs.declared.check.Checked.{Checked}
use Rattle.session.specs.Lawful.{unlawful}
use Rattle.session.specs.Checking.{checked}
use Rattle.session.proofs.Lawfuls.{lawful}
use Rattle.session.specs.Transfers.{with_transfer}
use Rattle.session.proofs.Checks.{due_of, unended, finished-by}
use Rattle.commands.specs.Outcomes.{accepted}
use Rattle.controller.specs.declared.record.Record.{Record}
use Rattle.commands.specs.Outcomes.{same_outcome}
use Rattle.controller.specs.Records.{unlawful_record, is_checking}
use Rattle.controller.specs.Calls.{refusal_of, reply_in, called_by}
use Rattle.controller.specs.Portions.{PortionLeaves, checked_portion, portion_call, CallKind, line_call, portion}
use Rattle.controller.specs.Demand3.{frames_of}
use Rattle.controller.specs.CheckCourse.{Later, lends_enough, largest, bytes_asked, Course, course_from, course_after, is_given}
use Rattle.controller.specs.CheckCourse.{course, CheckEnds, EndsInPortions}
use Rattle.controller.proofs.Refusals.{lawful_record, record_accepted, Accepted, accepted-of}
use Rattle.controller.proofs.Settling.{verdict-reply, ended-still}
use Rattle.controller.proofs.Keeping.{portion-refused, portion-accepted}
use Rattle.controller.proofs.RunningChecks.{enough, reading-leaves}
use Rattle.commands.proofs.Outcomes.{same-true}

true_false : {A : Type 0} → true ≡ false → A
true_false e = let z : ◌≡◌ {A = ℕ} 0 1 = cc in absurd (omega arith)

-- ---- the course

-- what the check will say depends on the image's bytes alone
says-by-image : (t : Transfer) (area memory : List ℕ) → take t.image.announced memory ≡ take t.image.announced area
    → will_say t memory ≡ will_say t area
says-by-image t area memory e =
    ap (λ (l : List ℕ). eqb (finish crc32 (update crc32 t.check.register (drop t.check.read l))) t.image.crc) e

-- the end of a check does not depend on how far it has come
ended_alike : (t : Transfer) (c : Check) (right : Bool) → ended_fe (with_check t c) right ≡ ended_fe t right
unfolding ended_fe
ended_alike t c right = refl

verdict-given : (right : Bool) → is_given (cond right Right Wrong) ≡ true
verdict-given true = refl
verdict-given false = refl

-- once the verdict is given, later calls are none of its course
course-over : (cs : List Later) (x : Course) → is_given x.verdict ≡ true → course cs x ≡ x
course-over [] x e = refl
course-over (c ∷ cs) x e = ap (λ (b : Bool). cond b x (course cs (course_after c.kind c x))) e

-- From a lawful record whose check runs. `Same` says whether the calls lend the image's bytes: the counts do not depend on it.
module _ (r : Record) (ok : unlawful_record r ≡ false) (runs : is_checking r ≡ true) (area : List ℕ) (Same : Type 0) where
  abbrev pub s : Session
  s = r.session

  abbrev pub t : Transfer
  t = r.session.transfer

  abbrev pub left : ℕ
  left = unread r.session.transfer

  abbrev pub SameImageIn : Later → Type 0
  SameImageIn c =
      Same → lends_enough r.session.opened c ≡ true → take t.image.announced c.memory ≡ take t.image.announced area

  abbrev pub AllSame : List Later → Type 0
  AllSame [] = Unit
  AllSame (c ∷ cs) = SameImageIn c × AllSame cs

  -- the check has read n bytes more, and goes on
  pub record Going (n : ℕ) (x : Course) : Type 0 where
    pub check : Check
    pub session : x.at.session ≡ with_transfer s (with_check t check)
    pub lawful-here : unlawful_record x.at ≡ false
    pub running : check.running ≡ true
    pub progress : check.read ≡ t.check.read + n
    pub read : x.read ≡ n
    pub no-reply : x.replies ≡ []
    pub unfinished : x.verdict ≡ Unfinished
    pub says : Same → will_say (with_check t check) area ≡ will_say t area

  -- it has ended
  pub record Done (x : Course) : Type 0 where
    pub given : is_given x.verdict ≡ true
    pub read : x.read ≡ left
    pub stopped : is_checking x.at ≡ false
    pub verdict : Same → x.verdict ≡ cond (will_say t area) Right Wrong
    pub reply : Same → x.replies ≡ frames_of 0xFE (due_of s area).reply
    pub session : Same → x.at.session ≡ with_transfer s (due_of s area).transfer

  going-begun : Going 0 (course_from r)
  going-begun =
      record {
        check = t.check;
        session = refl;
        lawful-here = ok;
        running = runs;
        progress = omega arith;
        read = refl;
        no-reply = refl;
        unfinished = refl;
        says = λ _. refl;
      }

  module _ (n : ℕ) (x : Course) (g : Going n x) where
    abbrev u : Session
    u = with_transfer s (with_check t g.check)

    -- nothing but the reader changes
    reading-goes : (call : Call) (c : Later) → Going n (course_after (line_call call) c x)
    reading-goes call c =
        let runs_Here = ap (λ (y : Session). y.transfer.check.running) g.session ∙ g.running in
        let y = called_by (fed_by call c.untaken) x.at c.room c.memory in
        let l = reading-leaves call c.untaken x.at c.room c.memory g.lawful-here runs_Here in
        record {
          check = g.check;
          session = l.leaves.same-session ∙ g.session;
          lawful-here = l.lawful-next;
          running = g.running;
          progress = g.progress;
          read = g.read;
          no-reply = ap₂ (λ (a : List (List ℕ)) (k : ℕ). a ++ reply_in k y.room) g.no-reply l.leaves.no-reply;
          unfinished = g.unfinished;
          says = g.says;
        }

    module _ (k : ℕ) (c : Later) where
      abbrev y : PortionLeaves
      y = portion_call k x.at c.room c.memory

      abbrev code : Bool
      code = same_outcome (refusal_of x.at (length c.room) (length c.memory)) accepted

      after_is : (w : PortionLeaves) → y ≡ w
          → course_after (portion k) c x ≡ record {
            at = w.called.next;
            read = x.read + w.called.count;
            replies = x.replies ++ reply_in w.called.reply_length w.room;
            verdict = w.called.verdict;
          }
      after_is w e =
          ap (λ (w : PortionLeaves). record {
            at = w.called.next;
            read = x.read + w.called.count;
            replies = x.replies ++ reply_in w.called.reply_length w.room;
            verdict = w.called.verdict;
          }) e

      -- a refused portion
      refused-goes : code ≡ false → Going n (course_after (portion k) c x)
      refused-goes e =
          subst (Going n) (sym (after_is _ (portion-refused k x.at c.room c.memory e)))
          (record {
            check = g.check;
            session = g.session;
            lawful-here = g.lawful-here;
            running = g.running;
            progress = g.progress;
            read = let z = g.read in omega arith;
            no-reply = ap (λ (a : List (List ℕ)). a ++ []) g.no-reply;
            unfinished = refl;
            says = g.says;
          })

      -- one that is not refused
      module _ (e : code ≡ true) (same : SameImageIn c) where
        abbrev a : Accepted x.at (length c.room) (length c.memory)
        a = accepted-of x.at (length c.room) (length c.memory) (same-true _ _ e)

        lawful-u : unlawful u ≡ false
        lawful-u = subst (λ (z : Session). unlawful z ≡ false) g.session (lawful_record x.at g.lawful-here).session

        size-u : length c.memory ≡ u.opened
        size-u = a.size ∙ ap (λ (z : Session). z.opened) g.session

        lends : lends_enough s.opened c ≡ true
        lends = ap (λ (z : Session). lends_enough z.opened c) (sym g.session) ∙ sym (enough x.at c g.lawful-here) ∙ e

        says_here : Same → will_say u.transfer c.memory ≡ will_say t area
        says_here i = says-by-image u.transfer area c.memory (same i lends) ∙ g.says i

        portion-is : y ≡ checked_portion (checked u k c.memory) x.at c.room
        portion-is =
            portion-accepted k x.at c.room c.memory e
            ∙ ap (λ (z : Session). checked_portion (checked z k c.memory) x.at c.room) g.session

        portion-goes : n + k < left → Going (n + k) (course_after (portion k) c x)
        portion-goes h =
            let p = g.progress in
            let fewer : k < unread u.transfer = omega arith in
            let q = unended u k c.memory lawful-u size-u g.running fewer in
            let next = read_on g.check k c.memory in
            subst (Going (n + k)) (sym (after_is _ (portion-is ∙ ap (λ (z : Checked). checked_portion z x.at c.room) q.is)))
            (record {
              check = next;
              session = refl;
              lawful-here = record_accepted _ (record { count = (lawful_record x.at g.lawful-here).count; session = q.lawful-on });
              running = g.running;
              progress = omega arith;
              read = let z = g.read in omega arith;
              no-reply = ap (λ (a : List (List ℕ)). a ++ []) g.no-reply;
              unfinished = refl;
              says = λ i. sym (says-by-image (with_check t next) area c.memory (same i lends)) ∙ q.same-says ∙ says_here i;
            })

        portion-ends : left ≤ n + k → Done (course_after (portion k) c x)
        portion-ends h =
            let p = g.progress in
            let all : unread u.transfer ≤ k = omega arith in
            let unread-here : t.check.read + n < t.image.announced = let z = (lawful u lawful-u).check-unread g.running in
            omega arith in
            let q = finished-by u k c.memory lawful-u size-u g.running all in
            let right = will_say u.transfer c.memory in
            let ended : Same → due_of u c.memory ≡ due_of s area = λ i. ended_alike t g.check right ∙ ap (ended_fe t) (says_here i) in
            subst Done (sym (after_is _ (portion-is ∙ ap (λ (z : Checked). checked_portion z x.at c.room) q.is)))
            (record {
              given = verdict-given right;
              read = let z = g.read in omega arith;
              stopped = ended-still u.transfer right;
              verdict = λ i. ap (λ (b : Bool). cond b Right Wrong) (says_here i);
              reply = λ i.
                  ap₂ ◌++◌ g.no-reply (verdict-reply u.transfer right c.room a.wide)
                  ∙ ap (λ (d : Step). frames_of 0xFE d.reply) (ended i);
              session = λ i. ap (λ (d : Step). with_transfer s d.transfer) (ended i);
            })

  -- ---- by how many bytes were asked for

  pub record Stands (m : ℕ) (x : Course) : Type 0 where
    pub before : m < left → Going m x
    pub finally : left ≤ m → Done x

  going_more : (n m : ℕ) (x : Course) → m ≡ n → Going n x → Going m x
  going_more n m x e g = subst (λ (k : ℕ). Going k x) (sym e) g

  going-stands : (n m : ℕ) (x : Course) → m ≡ n → n < left → Going n x → Stands m x
  going-stands n m x e h g = record { before = λ _. going_more n m x e g; finally = λ z. absurd (omega arith) }

  -- what has been read is less than what was left
  going-short : (n : ℕ) (x : Course) → Going n x → n < left
  going-short n x g =
      let z = (lawful (u n x g)
      (subst (λ (w : Session). unlawful w ≡ false) g.session (lawful_record x.at g.lawful-here).session)).check-unread
      g.running in
      let p = g.progress in
      omega arith

  step-stands : (kind : CallKind) (c : Later) (n : ℕ) (x : Course) → Going n x → SameImageIn c
      → Stands (n + cond (lends_enough s.opened c) (largest kind) 0) (course_after kind c x)
  step-stands (line_call call) c n x g same =
      going-stands n _ _ (none (lends_enough s.opened c)) (going-short n x g) (reading-goes n x g call c)
    where
      none : (b : Bool) → n + cond b 0 0 ≡ n
      none true = omega arith
      none false = omega arith
  step-stands (portion k) c n x g same = go (lends_enough s.opened c) refl
    where
      code_is : (b : Bool) → lends_enough s.opened c ≡ b → same_outcome (refusal_of x.at (length c.room) (length c.memory)) accepted ≡ b
      code_is b e = enough x.at c g.lawful-here ∙ ap (λ (z : Session). lends_enough z.opened c) g.session ∙ e

      go : (b : Bool) → lends_enough s.opened c ≡ b → Stands (n + cond (lends_enough s.opened c) k 0) (course_after (portion k) c x)
      go false e =
          let is : n + cond (lends_enough s.opened c) k 0 ≡ n =
          ap (λ (b : Bool). n + cond b k 0) e ∙ (let z : n + 0 ≡ n = omega arith in z) in
          going-stands n _ _ is (going-short n x g) (refused-goes n x g k c (code_is false e))
      go true e =
          let is : n + cond (lends_enough s.opened c) k 0 ≡ n + k = ap (λ (b : Bool). n + cond b k 0) e in
          let taken = code_is true e in
          record {
            before = λ h. going_more (n + k) _ _ is (portion-goes n x g k c taken same (subst (λ (m : ℕ). m < left) is h));
            finally = λ h. portion-ends n x g k c taken same (subst (λ (m : ℕ). left ≤ m) is h);
          }

  -- one call, and then the others
  stands_on : (c : Later) (cs : List Later) (n : ℕ) (x : Course) → Going n x → SameImageIn c
      → ((m : ℕ) (z : Course) → Going m z → Stands (m + bytes_asked s.opened cs) (course cs z))
      → Stands (n + bytes_asked s.opened (c ∷ cs)) (course (c ∷ cs) x)
  stands_on c cs n x g same others =
      subst (Stands (n + bytes_asked s.opened (c ∷ cs))) (sym (ap (λ (v : Verdict). cond (is_given v) x (course cs z)) g.unfinished))
      (⊎_elim on over (lt_or_le (n + m) left))
    where
      z : Course
      z = course_after c.kind c x

      m : ℕ
      m = cond (lends_enough s.opened c) (largest c.kind) 0

      stands : Stands (n + m) z
      stands = step-stands c.kind c n x g same

      sum : n + (m + bytes_asked s.opened cs) ≡ (n + m) + bytes_asked s.opened cs
      sum = omega arith

      on : n + m < left → Stands (n + bytes_asked s.opened (c ∷ cs)) (course cs z)
      on h = subst (λ (k : ℕ). Stands k (course cs z)) (sym sum) (others (n + m) z (stands.before h))

      over : left ≤ n + m → Stands (n + bytes_asked s.opened (c ∷ cs)) (course cs z)
      over h =
          let d = stands.finally h in
          record { before = λ k. absurd (omega (arith, k, h, sum)); finally = λ _. subst Done (sym (course-over cs z d.given)) d }

  follows : (cs : List Later) (n : ℕ) (x : Course) → Going n x → AllSame cs → Stands (n + bytes_asked s.opened cs) (course cs x)
  follows [] n x g same = going-stands n (n + 0) x (omega arith) (going-short n x g) g
  follows (c ∷ cs) n x g same = stands_on c cs n x g same.0 (λ m z h. follows cs m z h same.1)

  -- from the start
  pub stands_at : (cs : List Later) → AllSame cs → Stands (bytes_asked s.opened cs) (course cs (course_from r))
  stands_at cs same =
      let none : 0 + bytes_asked s.opened cs ≡ bytes_asked s.opened cs = omega arith in
      subst (λ (m : ℕ). Stands m (course cs (course_from r))) none (follows cs 0 (course_from r) going-begun same)

-- ---- it ends, whatever the memory

pub any_memory : (r : Record) (ok : unlawful_record r ≡ false) (runs : is_checking r ≡ true) (cs : List Later) → AllSame r ok runs [] ⊥ cs
any_memory r ok runs [] = tt
any_memory r ok runs (c ∷ cs) = (λ no. absurd no, any_memory r ok runs cs)

pub check-ends : CheckEnds
check-ends r ok runs cs =
    let x = stands_at r ok runs [] ⊥ cs (any_memory r ok runs cs) in
    record {
      before = λ h. let g = x.before h in (g.unfinished, g.read);
      finally = λ h. let d = x.finally h in (d.given, (d.read, d.stopped));
    }

asked-portions : (opened k m : ℕ) (c : Later) → c.kind ≡ portion k → lends_enough opened c ≡ true
    → bytes_asked opened (replicate m c) ≡ m * k
asked-portions opened k zero c is e = let none : 0 ≡ 0 * k = omega arith in none
asked-portions opened k (suc m) c is e =
    ap₂ (λ (b : Bool) (x : CallKind). cond b (largest x) 0 + bytes_asked opened (replicate m c)) e is
    ∙ ap (λ (x : ℕ). k + x) (asked-portions opened k m c is e)
    ∙ (let sum : k + m * k ≡ m * k + k = omega arith in sum)
    ∙ sym (suc-mul m k)

pub ends_in_portions : EndsInPortions
ends_in_portions r ok runs k m c is e =
    let cs = replicate m c in
    let all = asked-portions r.session.opened k m c is e in
    let ends = check-ends r ok runs cs in (
      λ given. ⊎_elim
          (λ h. true_false (sym given ∙ ap is_given (ends.before (subst (λ (n : ℕ). n < unread r.session.transfer) (sym all) h)).0))
          (λ h. h)
          (lt_or_le (m * k) (unread r.session.transfer)),
      λ h. (ends.finally (subst (λ (n : ℕ). unread r.session.transfer ≤ n) (sym all) h)).0,
    )
