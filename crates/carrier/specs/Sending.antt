-- docs/EXCHANGE.md, "The link": sending a frame. Which lines then stand in the output buffer is the texts' own definition: a write may
-- fail. Assumes nothing.
use Rattle.std.specs.Prelude.{◌≡◌, cond, List, [], ◌++◌, unwrap_or, ℕ, ltb}
use Rattle.link.specs.declared.frame.Frame.{Frame}
use Rattle.link.specs.declared.link.Link.{Link}
use Rattle.link.specs.declared.script.Letter.{Letter}
use Rattle.link.specs.declared.script.Letter.TheVariants.{Pass, Lose, Repeat, Silence, Other}
use Rattle.link.specs.declared.script.Script.{Script}
use Rattle.link.specs.Links.{places, no_frames, sent_link, sent_memory}
use Rattle.link.specs.Scripts.{letter_of, after_sending}
use Rattle.text.specs.declared.output.Output.{Output}
use Rattle.text.specs.Outputs.{TextsAdded}
use Rattle.transcript.specs.Words.{lost}
use Rattle.transcript.specs.Lines.{gone_texts}
use Rattle.carrier.specs.declared.carrier.Carrier.{Carrier}

-- nothing is under way
abbrev pub empty_carrier : Script → Carrier
empty_carrier s = record { link = no_frames; script = s }

-- the frames under way, what is left of the script, the bytes of the frames; and the texts that were put
pub record Carried : Type 0 where
  pub link : Link
  pub script : Script
  pub memory : List ℕ
  pub texts : List (List ℕ)

-- with texts that were put before
abbrev pub told : List (List ℕ) → Carried → Carried
told texts x = record { link = x.link; script = x.script; memory = x.memory; texts = texts ++ x.texts }

module _ (l : Link) (s : Script) (memory : List ℕ) (f : Frame) where
  -- p: "one copy goes under way"; "A copy for which all 64 places are taken is lost."
  unfoldable pub passing : Carried
  passing =
      record {
        link = sent_link l f;
        script = s;
        memory = sent_memory l f memory;
        texts = cond (ltb l.count places) [] (gone_texts f lost);
      }

  -- l: "it is lost"
  abbrev pub losing : Carried
  losing = record { link = l; script = s; memory = memory; texts = gone_texts f lost }

-- r: "two copies go under way, one behind the other"
abbrev pub repeating : Link → Script → List ℕ → Frame → Carried
repeating l s memory f =
    let one = passing l s memory f in
    told one.texts (passing one.link one.script one.memory f)

-- what a letter does to a frame
abbrev pub by_letter : Letter → Link → Script → List ℕ → Frame → Carried
by_letter Pass l s memory f = passing l s memory f
by_letter Lose l s memory f = losing l s memory f
by_letter Repeat l s memory f = repeating l s memory f
by_letter Silence l s memory f = passing l s memory f
by_letter (Other b) l s memory f = passing l s memory f

-- "Sending a frame uses up the script's next letter if that is p, l or r. An `s` is not used up here ..; then, and after the script's end,
-- the frame passes."
unfoldable pub sending : Link → Script → List ℕ → Frame → List ℕ → Carried
sending l s memory f letters =
    by_letter (unwrap_or (letter_of s letters) Pass) l (after_sending s letters) memory f

-- the contract: carrier and memory are the definition's, and its texts stand behind those that waited
pub record CarriesOn (x : Carried) (o : Output) (r : Carrier) (memory : List ℕ) (after : Output) : Type 0 where
  pub links : r.link ≡ x.link
  pub leaves : r.script ≡ x.script
  pub holds : memory ≡ x.memory
  pub tells : TextsAdded o x.texts after
