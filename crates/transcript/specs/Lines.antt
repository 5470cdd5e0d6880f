-- docs/EXCHANGE.md, "Output": "Words with one space between them; lines end with a newline. HEX is upper case, all bytes of the frame,
-- two digits each." A line is given as the texts that are put for it, one behind the other. Assumes nothing.
use Rattle.std.specs.Prelude.{Bool, List, [], ◌∷◌, ◌++◌, ℕ, take}
use Rattle.frames.specs.Buffer.{command_at}
use Rattle.link.specs.declared.frame.Frame.{Frame}
use Rattle.sender.specs.declared.decision.Decision.{Decision}
use Rattle.text.specs.Ascii.{ascii}
use Rattle.text.specs.Decimals.{decimal}
use Rattle.text.specs.Hex.{hex_byte, hex_bytes}
use Rattle.transfer.specs.declared.phase.Phase.{Phase}
use Rattle.transcript.specs.Words.{arrow, decision_word, phase_word, as_in_image, sender_end, area_end}

-- a copy of a frame: "`->` is to the controller, `<-` to the sender; then the command in hex", then HEX. So `-> FA HEX `
abbrev pub copy_texts : Frame → List (List ℕ)
copy_texts f =
    let bytes = take f.length f.bytes in
    arrow f.way ∷ hex_byte (command_at bytes) ∷ ascii " " ∷ hex_bytes bytes ∷ ascii " " ∷ []

-- `-> FA HEX lost`, `dropped` or `left`: it does not arrive
abbrev pub gone_texts : Frame → List ℕ → List (List ℕ)
gone_texts f fate = copy_texts f ++ (fate ∷ ascii "\n" ∷ [])

-- `-> FA HEX controller OUTCOME`: "a request arrives: the call's outcome number"
abbrev pub at_controller_texts : Frame → ℕ → List (List ℕ)
at_controller_texts f outcome = copy_texts f ++ (ascii "controller " ∷ decimal outcome ∷ ascii "\n" ∷ [])

-- `sender OUTCOME DECISION`: "the call's outcome number and decision"
abbrev pub heard_texts : ℕ → Decision → List (List ℕ)
heard_texts outcome d = ascii "sender " ∷ decimal outcome ∷ decision_word d ∷ []

-- `<- FA HEX sender OUTCOME DECISION`: "a reply arrives"
abbrev pub at_sender_texts : Frame → ℕ → Decision → List (List ℕ)
at_sender_texts f outcome d = copy_texts f ++ heard_texts outcome d

-- `silence sender OUTCOME DECISION`: "silence was told"
abbrev pub silence_texts : ℕ → Decision → List (List ℕ)
silence_texts outcome d = ascii "silence " ∷ heard_texts outcome d

-- `stored N of M`: "N: the controller's stored length now; M: the image's length"
abbrev pub stored_of_texts : ℕ → ℕ → List (List ℕ)
stored_of_texts n m = ascii "stored " ∷ decimal n ∷ ascii " of " ∷ decimal m ∷ []

-- `stored N of M, as in the image`
abbrev pub stored_texts : ℕ → ℕ → Bool → List (List ℕ)
stored_texts n m same = stored_of_texts n m ++ (as_in_image same ∷ [])

-- ---- "At the end, after the `left` lines, three lines"

abbrev pub sender_end_texts : Bool → List (List ℕ)
sender_end_texts done = sender_end done ∷ []

-- `controller PHASE, stored N of M`
abbrev pub controller_end_texts : Phase → ℕ → ℕ → List (List ℕ)
controller_end_texts phase n m = ascii "controller " ∷ phase_word phase ∷ ascii ", " ∷ (stored_of_texts n m ++ (ascii "\n" ∷ []))

abbrev pub area_end_texts : Bool → List (List ℕ)
area_end_texts same = area_end same ∷ []
