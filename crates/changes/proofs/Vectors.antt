-- CHANGES as docs/CONSOLE.md has them, by computation from the definitions. Assumes nothing.
use mathlib.Core.Path.{refl}
use Rattle.boards.specs.Boards.{list_of}
use Rattle.sequences.specs.Comparing.{same}
use Rattle.sequences.specs.Search.{find}
use Rattle.session.specs.Opening.{fresh_session}
use Rattle.text.specs.Decimals.{decimal_within}
use Rattle.values.specs.Spans.{behind_last}
use Rattle.changes.specs.BoardLists.{board_fields}
use Rattle.changes.specs.Examples.{ChangeExamples}

pub change_examples : ChangeExamples
unfolding find behind_last decimal_within same board_fields fresh_session list_of
change_examples = record { unchanged = refl; opening = refl; every_field = refl; of-sender = refl; sender-unchanged = refl }
