-- `carrier::carrier::Carrier::cleared` meets its contract. Assumes nothing.
use mathlib.Core.Path.{◌≡◌, refl, ap, ◌∙◌}
use Prim.Native.Nat.{◌<◌, ◌+◌}
use native.Mathlib.Omega.{arith}
use Rattle.link.specs.declared.frame.Frame.{Frame}
use Rattle.link.specs.declared.link.Link.{Link}
use Rattle.text.specs.Outputs.{none}
use Rattle.text.proofs.Texts.{texts_as, ◌then◌}
use Rattle.transcript.specs.Lines.{gone_texts}
use Rattle.carrier.specs.Clearing.{all_gone, all_texts}
use Rattle.carrier.proofs.Clearing.{one-fewer, one-gone, one_told, none-gone, none_told}
use Rattle.carrier.proofs.carrier.Carrier.cleared.Goals as goal

pub loop-init : goal.loop-init
loop-init c = record { left = omega arith; script = refl; gone = refl; told = λ r a. a }

pub loop-preserved : goal.loop-preserved
loop-preserved c =
    let now = c.loop.self.link in
    let a = c.args in
    let memory = a.memory.now in
    let fate = a.fate.now in
    let i = c.loop.invariant in
    let some : 0 < now.count = omega arith in
    let next = c.without_oldest-self.ensures in
    let fewer : c.without_oldest-self.result.count + 1 ≡ now.count = ap (λ (k : Link). k.count + 1) next ∙ one-fewer now some in
    let oldest = ap (λ (f : Frame). gone_texts f fate) c.oldest.ensures in
    let gone = texts_as oldest c.gone.ensures in
    record {
      left = omega arith;
      script = i.script;
      gone = ap all_gone next ∙ one-gone now some ∙ i.gone;
      told = λ r rest.
          i.told r (texts_as (one_told now some memory fate) (gone then texts_as (ap (λ (k : Link). all_texts k memory fate) next) rest));
    }

pub returns : goal.returns
returns c =
    let now = c.loop.self.link in
    let a = c.args in
    let i = c.loop.invariant in
    let empty : now.count ≡ 0 = omega arith in
    record {
      links = none-gone now empty ∙ i.gone;
      leaves = i.script;
      holds = refl;
      tells = i.told _ (texts_as (none_told now empty a.memory.now a.fate.now) none);
    }
