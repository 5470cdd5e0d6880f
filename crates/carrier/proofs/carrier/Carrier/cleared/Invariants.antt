-- `carrier::carrier::Carrier::cleared` meets its contract. The loop's invariant: as many turns are left as frames are under way; with the
-- texts of these all have theirs, and once they are gone the link is as it is to be. Assumes nothing.
use mathlib.Core.Path.{◌≡◌}
use Prim.Native.Nat.{◌+◌}
use Rattle.text.specs.declared.output.Output.{Output}
use Rattle.text.specs.Outputs.{TextsAdded}
use Rattle.carrier.specs.Clearing.{all_gone, all_texts}
use Rattle.carrier.proofs.carrier.Carrier.cleared.Given as goal

abbrev pub invariant-loop : goal.invariant-loop
invariant-loop l = record {
  left : l.counter + l.self.link.count ≡ l.end;
  script : l.self.script ≡ l.initial.self.script;
  gone : all_gone l.self.link ≡ all_gone l.initial.self.link;
  told : (r : Output) → TextsAdded l.output (all_texts l.self.link l.memory l.fate) r
      → TextsAdded l.initial.output (all_texts l.initial.self.link l.memory l.fate) r;
}
