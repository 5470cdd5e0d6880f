-- `phrases::phrase::read_behind_numbers` meets its contract. Assumes nothing.
use borrow.Author.Tests.{lt-ltb, le-ltb, ltb-false, eq-eqb, ne_eqb}
use mathlib.Core.Path.{◌≡◌, refl, sym, ap, ◌∙◌}
use native.Mathlib.Omega.{arith}
use lib.Dec.{ltb}
use lib.ListN.{length}
use Rattle.sequences.specs.Places.{written_at}
use Rattle.sequences.proofs.Conditionals.{neither}
use Rattle.phrases.specs.declared.phrase.Trouble.TheVariants.{Fine, More, Digits, Count}
use Rattle.phrases.specs.Pairs.{bytes_in}
use Rattle.phrases.specs.Phrases.{max_bytes, is_bad_count, trouble_behind_numbers}
use Rattle.phrases.proofs.Hexes.{wrong_pairs, right-pairs}
use Rattle.phrases.proofs.Readings.{written_none, no_bytes, bad_phrase, bad-bytes, fine_phrase, fine-bytes}
use Rattle.phrases.proofs.phrase.read_behind_numbers.Goals as goal

pub returns-then-spaces-s : goal.returns-then-spaces-s
unfolding trouble_behind_numbers
returns-then-spaces-s c =
    let a = c.args in
    let s = a.s.now in
    let e : trouble_behind_numbers a.expected s ≡ More =
    simp (eq-eqb _ _ c.if-expected-eq0.true, ← c.spaces.ensures, lt-ltb _ _ c.if-spaces-s.true) in
    record { value = c.troubled.ensures ∙ bad_phrase a.command a.first a.second (bytes_in s) _ More refl e; bytes_after = bad-bytes (bytes_in s) a.bytes.now _ More refl e }

pub returns-then-expected-eq0 : goal.returns-then-expected-eq0
unfolding trouble_behind_numbers
returns-then-expected-eq0 c =
    let a = c.args in
    let s = a.s.now in
    let all = a.bytes.now in
    let e : trouble_behind_numbers a.expected s ≡ Fine =
    simp (eq-eqb _ _ c.if-expected-eq0.true, ← c.spaces.ensures, le-ltb _ _ c.if-spaces-s.false) in
    let none = sym (no_bytes s (omega (arith, c.spaces.ensures))) in
    record { value = c.fine.ensures ∙ fine_phrase a.command a.first a.second (bytes_in s) _ 0 (ap length none) e; bytes_after = written_none all ∙ ap (written_at all 0) none ∙ fine-bytes (bytes_in s) all _ e }

pub returns-in_default : goal.returns-in_default
unfolding trouble_behind_numbers
returns-in_default c =
    let a = c.args in
    let s = a.s.now in
    let wrong = wrong_pairs s (sym c.pairs_in.ensures ∙ c.in_default.is) in
    let e : trouble_behind_numbers a.expected s ≡ Digits = simp (ne_eqb _ _ c.if-expected-eq0.false, wrong) in
    record { value = c.troubled-in_default.ensures ∙ bad_phrase a.command a.first a.second (bytes_in s) _ Digits refl e; bytes_after = bad-bytes (bytes_in s) a.bytes.now _ Digits refl e }

pub returns-then-is_bad_count : goal.returns-then-is_bad_count
unfolding trouble_behind_numbers
returns-then-is_bad_count c =
    let a = c.args in
    let s = a.s.now in
    let pairs = right-pairs s (sym c.pairs_in.ensures ∙ c.in-Some.is) in
    let right = pairs.0 in
    let count = pairs.1 in
    let other = ap (is_bad_count a.expected) (sym count) ∙ sym c.is_bad_count.ensures ∙ c.if-is_bad_count.true in
    let e : trouble_behind_numbers a.expected s ≡ Count = simp (ne_eqb _ _ c.if-expected-eq0.false, right, other) in
    record { value = c.troubled-then-is_bad_count.ensures ∙ bad_phrase a.command a.first a.second (bytes_in s) _ Count refl e; bytes_after = bad-bytes (bytes_in s) a.bytes.now _ Count refl e }

pub decode-requires : goal.decode-requires
decode-requires c =
    let n = c.in-Some.count in
    let s = c.args.s.now in
    let pairs = right-pairs s (sym c.pairs_in.ensures ∙ c.in-Some.is) in
    let right = pairs.0 in
    let count = pairs.1 in
    let few = (neither (ltb max_bytes n) _ (sym c.is_bad_count.ensures ∙ c.if-is_bad_count.false)).0 in
    (right, (count, omega (arith, ltb-false max_bytes n few, c.told-bytes)))

pub returns : goal.returns
unfolding trouble_behind_numbers
returns c =
    let a = c.args in
    let s = a.s.now in
    let pairs = right-pairs s (sym c.pairs_in.ensures ∙ c.in-Some.is) in
    let right = pairs.0 in
    let count = pairs.1 in
    let fits = ap (is_bad_count a.expected) (sym count) ∙ sym c.is_bad_count.ensures ∙ c.if-is_bad_count.false in
    let e : trouble_behind_numbers a.expected s ≡ Fine = simp (ne_eqb _ _ c.if-expected-eq0.false, right, fits) in
    record { value = c.fine-2.ensures ∙ fine_phrase a.command a.first a.second (bytes_in s) _ _ count e; bytes_after = c.decode.ensures ∙ fine-bytes (bytes_in s) a.bytes.now _ e }
