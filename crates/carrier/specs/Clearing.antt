-- docs/EXCHANGE.md: "all frames under way are dropped" by a new leg, and some may be left when the turns end; each gets its line,
-- "oldest first". Assumes nothing.
use Rattle.std.specs.Prelude.{◌≡◌, List, [], ◌++◌, ℕ, zero, suc}
use Rattle.link.specs.declared.link.Link.{Link}
use Rattle.link.specs.declared.script.Script.{Script}
use Rattle.link.specs.Links.{frame_under_way, passed}
use Rattle.transcript.specs.Lines.{gone_texts}
use Rattle.carrier.specs.Sending.{Carried}

-- the oldest n frames are under way no more,
abbrev pub oldest_gone : ℕ → Link → Link
oldest_gone zero l = l
oldest_gone (suc n) l = oldest_gone n (passed l)

-- and each has its line
abbrev pub oldest_texts : ℕ → Link → List ℕ → List ℕ → List (List ℕ)
oldest_texts zero l memory fate = []
oldest_texts (suc n) l memory fate = gone_texts (frame_under_way l memory 0) fate ++ oldest_texts n (passed l) memory fate

abbrev pub all_gone : Link → Link
all_gone l = oldest_gone l.count l

abbrev pub all_texts : Link → List ℕ → List ℕ → List (List ℕ)
all_texts l memory fate = oldest_texts l.count l memory fate

-- all frames under way have this fate
abbrev pub cleared : Link → Script → List ℕ → List ℕ → Carried
cleared l s memory fate = record { link = all_gone l; script = s; memory = memory; texts = all_texts l memory fate }

-- the claim: then none is under way
abbrev pub NoneUnderWay : Type 0
NoneUnderWay = (l : Link) → (all_gone l).count ≡ 0
