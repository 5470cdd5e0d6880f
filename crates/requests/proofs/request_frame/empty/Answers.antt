-- `requests::request_frame::empty` meets its contract. Assumes nothing.
use mathlib.Core.Path.{ap, ◌∙◌}
use Rattle.frames.specs.Finished.{no_data}
use Rattle.frames.proofs.FinishedFrames.{no_data_lem}
use Rattle.commands.specs.declared.table.Row.{Row}
use Rattle.commands.specs.Table.{place_in_table, row_at}
use Rattle.requests.specs.RequestFrames.{request_frame}
use Rattle.requests.proofs.request_frame.empty.Goals as goal

pub returns : goal.returns
unfolding request_frame
returns c =
    let command = c.args.command in
    c.empty.ensures
    ∙ ap (λ (r : Row). no_data r.version command) c.row_of-row.ensures.is
    ∙ no_data_lem (row_at (place_in_table command)).version command
