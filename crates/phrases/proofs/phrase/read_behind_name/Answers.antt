-- `phrases::phrase::read_behind_name` meets its contract. Assumes nothing.
use Rattle.std.proofs.Common.{◌≡◌, ℕ, true, false, List, ltb, drop, refl, sym, ap, ap₂, ◌∙◌}
use Rattle.std.specs.Prelude.{Option, Some, is_none}
use Rattle.phrases.specs.declared.number.Number.{Number}
use Rattle.phrases.specs.declared.phrase.Trouble.TheVariants.{FirstNumber, SecondNumber}
use Rattle.phrases.specs.Numbers.{number_if, end_of}
use Rattle.phrases.specs.Phrases.{first_number, behind_first, second_number, behind_numbers, trouble_behind_name}
use Rattle.phrases.proofs.Readings.{no_number_lem, both_numbers, both_bytes}
use Rattle.phrases.proofs.phrase.read_behind_name.Goals as goal

pub returns-in_default : goal.returns-in_default
unfolding trouble_behind_name
returns-in_default c =
    let a = c.args in
    let s = a.s.now in
    let bad : is_none (first_number a.row s) ≡ true = ap (λ (n : Option Number). is_none n) (sym c.number_if.ensures ∙ c.in_default.is) in
    let e : trouble_behind_name a.row s ≡ FirstNumber = simp bad in
    let none = no_number_lem a.command a.row s a.bytes.now FirstNumber refl e in
    record { value = c.troubled.ensures ∙ none.0; bytes_after = none.1 }

pub returns-in_default-number_if : goal.returns-in_default-number_if
unfolding trouble_behind_name
returns-in_default-number_if c =
    let a = c.args in
    let r = a.row in
    let s = a.s.now in
    let first : Some c.in-Some.first ≡ first_number r s = sym c.in-Some.is ∙ c.number_if.ensures in
    let behind : c.behind-behind_first.result.now ≡ behind_first r s =
    c.behind-behind_first.ensures ∙ ap (λ (n : Option Number). drop (end_of n) s) first in
    let second : c.number_if-2.result ≡ second_number r s =
    c.number_if-2.ensures ∙ ap (number_if (ltb 1 r.numbers) r.second) behind in
    let good : is_none (first_number r s) ≡ false = ap (λ (n : Option Number). is_none n) (sym first) in
    let bad : is_none (second_number r s) ≡ true = ap (λ (n : Option Number). is_none n) (sym second ∙ c.in_default-number_if.is) in
    let e : trouble_behind_name r s ≡ SecondNumber = simp (good, bad) in
    let none = no_number_lem a.command r s a.bytes.now SecondNumber refl e in
    record { value = c.troubled-in_default-number_if.ensures ∙ none.0; bytes_after = none.1 }

pub returns : goal.returns
returns c =
    let a = c.args in
    let r = a.row in
    let s = a.s.now in
    let x = c.in-Some.first in
    let y = c.in-Some-number_if.second in
    let first : Some x ≡ first_number r s = sym c.in-Some.is ∙ c.number_if.ensures in
    let behind : c.behind-behind_first.result.now ≡ behind_first r s =
    c.behind-behind_first.ensures ∙ ap (λ (n : Option Number). drop (end_of n) s) first in
    let second : Some y ≡ second_number r s =
    sym c.in-Some-number_if.is ∙ c.number_if-2.ensures ∙ ap (number_if (ltb 1 r.numbers) r.second) behind in
    let left : c.behind-behind_numbers.result.now ≡ behind_numbers r s =
    c.behind-behind_numbers.ensures ∙ ap₂ (λ (n : Option Number) (l : List ℕ). drop (end_of n) l) second behind in
    record {
      value = both_numbers a.command r s a.bytes.now x y _ first second left _ c.read_behind_numbers.ensures.value;
      bytes_after = both_bytes a.command r s a.bytes.now x y _ first second left _ c.read_behind_numbers.ensures.bytes_after;
    }
