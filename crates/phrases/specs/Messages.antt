-- docs/CONSOLE.md, "Bad lines": the messages, each as the texts that are put for it, one behind the other. Assumes nothing.
use Rattle.std.specs.Prelude.{List, [], ◌∷◌, ℕ}
use Rattle.text.specs.Ascii.{ascii}
use Rattle.text.specs.Decimals.{decimal}
use Rattle.phrases.specs.declared.table.Row.{Row}
use Rattle.phrases.specs.declared.phrase.Phrase.{Phrase}
use Rattle.phrases.specs.declared.phrase.Trouble.{Trouble}
use Rattle.phrases.specs.declared.phrase.Trouble.TheVariants.{Fine, Unknown, FirstNumber, SecondNumber, More, Digits, Count}
use Rattle.phrases.specs.Table.{command_row}

-- the message about a command with this row: "M, the most that the table allows"; "it takes exactly K bytes"
abbrev pub message_texts : Row → Trouble → List (List ℕ)
message_texts r Fine = []
message_texts r Unknown = ascii "no such command" ∷ []
message_texts r FirstNumber = ascii "number 1 is 0 to " ∷ decimal r.first ∷ []
message_texts r SecondNumber = ascii "number 2 is 0 to " ∷ decimal r.second ∷ []
message_texts r More = ascii "nothing is expected behind that" ∷ []
message_texts r Digits = ascii "bytes are pairs of hexadecimal digits" ∷ []
message_texts r Count = decimal r.bytes ∷ ascii " bytes are expected" ∷ []

-- the message about a phrase
abbrev pub trouble_texts : Phrase → List (List ℕ)
trouble_texts p = message_texts (command_row p.command) p.trouble
