-- `transcript::copy` meets its contract. Assumes nothing.
use borrow.Author.Rules.{rules}
use mathlib.Core.Path.{◌≡◌, ap, ◌∙◌}
use native.Mathlib.Omega.{arith}
use lib.ListN.{length, length-take}
use Rattle.fronts.specs.Frame.{max_frame}
use Rattle.frames.specs.Buffer.{command_at}
use Rattle.text.specs.Hex.{hex_byte, hex_bytes}
use Rattle.text.specs.Outputs.{more}
use Rattle.text.proofs.Texts.{one, added_as}
use Rattle.transcript.proofs.copy.Goals as goal

pub digits-requires : goal.digits-requires
digits-requires c =
    let good = c.well_formed in
    let size : length c.args.frame.bytes ≡ max_frame = search rules in
    omega (arith, ap length c.front-bytes.ensures, length-take c.args.frame.length c.args.frame.bytes)

pub returns : goal.returns
returns c =
    let all = c.front-bytes.ensures in
    let command = c.byte-command.ensures ∙ ap hex_byte (c.command.ensures ∙ ap command_at all) in
    more (added_as c.arrow.ensures c.text.ensures)
    (more (added_as command c.text-2.ensures)
    (more c.text-3.ensures (more (added_as (ap hex_bytes all) c.digits.ensures) (one c.text-4.ensures))))
