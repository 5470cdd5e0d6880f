-- `phrases::trouble::tell` meets its contract. Assumes nothing.
use mathlib.Core.Path.{◌≡◌, sym, ap₂}
use Rattle.text.specs.declared.output.Output.{Output}
use Rattle.text.specs.Outputs.{TextsAdded, none}
use Rattle.text.proofs.Texts.{one, texts_as}
use Rattle.phrases.specs.declared.phrase.Phrase.{Phrase}
use Rattle.phrases.specs.declared.phrase.Trouble.{Trouble}
use Rattle.phrases.specs.declared.table.Row.{Row}
use Rattle.phrases.specs.Messages.{message_texts, trouble_texts}
use Rattle.phrases.specs.Table.{command_row}
use Rattle.phrases.proofs.trouble.tell.Goals as goal

-- the message is by the command's row and by the trouble
message : (p : Phrase) {row : Row} {t : Trouble} {o r : Output} → row ≡ command_row p.command → p.trouble ≡ t → TextsAdded o (message_texts row t) r
    → TextsAdded o (trouble_texts p) r
message p e is a = texts_as (ap₂ message_texts e (sym is)) a

pub returns-in-Fine : goal.returns-in-Fine
returns-in-Fine c = message c.args.phrase c.row_at-row.ensures c.in-Fine.is none

pub returns-in-Unknown : goal.returns-in-Unknown
returns-in-Unknown c = message c.args.phrase c.row_at-row.ensures c.in-Unknown.is (one c.text.ensures)

pub returns-in-FirstNumber : goal.returns-in-FirstNumber
returns-in-FirstNumber c = message c.args.phrase c.row_at-row.ensures c.in-FirstNumber.is c.number.ensures

pub returns-in-SecondNumber : goal.returns-in-SecondNumber
returns-in-SecondNumber c = message c.args.phrase c.row_at-row.ensures c.in-SecondNumber.is c.number-in-SecondNumber.ensures

pub returns-in-More : goal.returns-in-More
returns-in-More c = message c.args.phrase c.row_at-row.ensures c.in-More.is (one c.text-in-More.ensures)

pub returns-in-Digits : goal.returns-in-Digits
returns-in-Digits c = message c.args.phrase c.row_at-row.ensures c.in-Digits.is (one c.text-in-Digits.ensures)

pub returns-in-Count : goal.returns-in-Count
returns-in-Count c = message c.args.phrase c.row_at-row.ensures c.in-Count.is c.count.ensures
