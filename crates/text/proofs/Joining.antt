-- Texts that all fit behind those that wait are as one. Assumes nothing.
use borrow.Author.Tests.{le-ltb}
use mathlib.Core.Path.{◌≡◌, refl, sym, ap, ap₂, ◌∙◌}
use mathlib.Core.List.{List, [], ◌∷◌, ◌++◌, append_assoc}
use Prim.Native.Nat.{ℕ, ◌+◌, ◌≤◌}
use native.Mathlib.Omega.{arith}
use lib.ListN.{length, take, drop, length-append, take-append-drop}
use lib.Seq.{length-take-le, take_at}
use Rattle.sequences.specs.Places.{written_at}
use Rattle.sequences.proofs.Places.{written-fits, written-size, written_behind}
use Rattle.text.specs.declared.output.Output.{Output}
use Rattle.text.specs.Outputs.{buffer_size, waiting_with, buffer_with, TextAdded, none, more, as_one, AddedAsOne}

-- ---- written to a place

written_none : (all : List ℕ) (at : ℕ) → at ≤ length all → all ≡ written_at all at []
written_none all at h =
    let still : at ≡ at + length {A = ℕ} [] = omega arith in
    sym (written-fits all [] at (omega arith) ∙ ap (λ (n : ℕ). take at all ++ drop n all) (sym still) ∙ take-append-drop at all)

-- y behind x
written_on : (all x y : List ℕ) (at : ℕ) → at + (length x + length y) ≤ length all
    → written_at (written_at all at x) (at + length x) y ≡ written_at all at (x ++ y)
written_on all x y at h =
    let one = written_at all at x in
    let size = written-size all x at in
    let p = take at all ++ x in
    let long : length p ≡ at + length x = omega (arith, length-append (take at all) x, length-take-le at all (omega arith)) in
    let rest = drop (at + length x) all in
    let first : one ≡ p ++ rest = written-fits all x at (omega arith) ∙ sym (append_assoc (take at all) x rest) in
    let front : take (at + length x) one ≡ p = ap (take (at + length x)) first ∙ take_at p rest (at + length x) long in
    let end : at + length x + length y ≡ at + length (x ++ y) = omega (arith, length-append x y) in
    let back : drop (at + length x + length y) one ≡ drop (at + length (x ++ y)) all =
    written_behind all x at (at + length x + length y) (omega arith) ∙ ap (λ (n : ℕ). drop n all) end in
    written-fits one y (at + length x) (omega arith)
    ∙ ap₂ (λ (s t : List ℕ). s ++ (y ++ t)) front back
    ∙ append_assoc (take at all) x (y ++ drop (at + length (x ++ y)) all)
    ∙ ap (λ (s : List ℕ). take at all ++ s) (sym (append_assoc x y (drop (at + length (x ++ y)) all)))
    ∙ sym (written-fits all (x ++ y) at (omega (arith, length-append x y)))

-- ---- where a text fits

module _ (o : Output) (t : List ℕ) (fits : o.waiting + length t ≤ buffer_size) where
  fits-here : waiting_with o (length t) ≡ o.waiting + length t
  fits-here = let short : length t ≤ buffer_size = omega arith in
      simp (le-ltb buffer_size (length t) short, le-ltb buffer_size (o.waiting + length t) fits)

  stands_here : buffer_with o t ≡ written_at o.buffer o.waiting t
  stands_here = let short : length t ≤ buffer_size = omega arith in
      simp (le-ltb buffer_size (length t) short, le-ltb buffer_size (o.waiting + length t) fits)

pub added_as_one : AddedAsOne
added_as_one o r [] none size fits =
    record {
      waits = sym (fits-here o [] fits ∙ (let e : o.waiting + length {A = ℕ} [] ≡ o.waiting = omega arith in e));
      stands = written_none o.buffer o.waiting (omega arith) ∙ sym (stands_here o [] fits);
      fails = λ e. e;
      unwritten = λ _. refl;
    }
added_as_one o r (t ∷ ts) (more {m = m} a s) size fits =
    let u = as_one ts in
    let long : length (t ++ u) ≡ length t + length u = length-append t u in
    let one : o.waiting + length t ≤ buffer_size = omega arith in
    let waits : m.waiting ≡ o.waiting + length t = a.waits ∙ fits-here o t one in
    let put : m.buffer ≡ written_at o.buffer o.waiting t = a.stands ∙ stands_here o t one in
    let kept : length m.buffer ≡ buffer_size = ap length put ∙ written-size o.buffer t o.waiting ∙ size in
    let behind : m.waiting + length u ≤ buffer_size = omega arith in
    let rest : TextAdded m u r = added_as_one m r ts s kept behind in
    record {
      waits = rest.waits ∙ fits-here m u behind
          ∙ (let e : m.waiting + length u ≡ o.waiting + length (t ++ u) = omega arith in e) ∙ sym (fits-here o (t ++ u) fits);
      stands =
          rest.stands
          ∙ stands_here m u behind
          ∙ ap₂ (λ (b : List ℕ) (n : ℕ). written_at b n u) put waits
          ∙ written_on o.buffer t u o.waiting (omega arith)
          ∙ sym (stands_here o (t ++ u) fits);
      fails = λ e. rest.fails (a.fails e);
      unwritten = λ _. rest.unwritten behind ∙ a.unwritten one;
    }
