-- 01, "The record and the board list" and "Outcome numbers": the record's opening and its rules. Assumes nothing.
use Rattle.std.specs.Prelude.{Bool, ◌||◌, List, [], ℕ, ltb}
use Rattle.fronts.specs.Frame.{max_frame}
use Rattle.frames.specs.LiveReading.{holding}
use Rattle.boards.specs.declared.board.Board.{Board}
use Rattle.session.specs.Transfers.{own_transfer}
use Rattle.session.specs.declared.session.Session.{Session}
use Rattle.session.specs.Opening.{no_session, fresh_session, opened}
use Rattle.session.specs.Lawful.{unlawful}
use Rattle.controller.specs.declared.record.Record.{Record}
use Rattle.controller.specs.declared.open.Opened.{Opened}

-- "Outcome 9 is given exactly when: held is above 526; .."; the session has the rest of the sentence
unfoldable pub unlawful_record : Record → Bool
unlawful_record r = ltb max_frame r.reader.count || unlawful r.session

-- document 02, K5: an end check runs
abbrev pub is_checking : Record → Bool
is_checking r = (own_transfer r.session).check.running

-- a record that holds nothing, with zeros in the held places
abbrev pub holding_nothing : Session → Record
holding_nothing s = record { reader = holding []; session = s }

-- "A fresh record has its list and opened length, is idle and otherwise zero, unused board places too."
abbrev pub fresh_record : List Board → ℕ → ℕ → Record
fresh_record bs n area = holding_nothing (fresh_session bs n area)

-- "An unusable record is all zero"
abbrev pub no_record : Record
no_record = holding_nothing no_session

-- "opening 8, then 7"; "Opening that succeeds gives outcome 0 and the fresh record"
unfoldable pub opened_record : List Board → ℕ → ℕ → Opened
opened_record bs n area = record { outcome = (opened bs n area).outcome; next = holding_nothing (opened bs n area).session }
