-- `exchange::start` meets its contract. Assumes nothing.
use mathlib.Core.Path.{ap, ap₂, ◌∙◌}
use Prim.Native.Nat.{ℕ}
use native.Mathlib.Omega.{arith}
use lib.ListN.{length}
use Rattle.bench.specs.Boards.{fresh_on}
use Rattle.ends.specs.Ends.{open_sender}
use Rattle.exchange.proofs.start.Goals as goal

pub returns : goal.returns
returns c =
    let words = c.requires.in_range in
    let channel = c.board_channel.ensures in
    let size = c.packet_size.ensures in
    let both = c.start.ensures in (
      both.controller.fresh (rw channel words.first-channel) (rw channel words.last-channel) ∙ ap fresh_on channel,
      both.sender.fresh (rw size words.least_size) c.requires.image_nonzero c.requires.image_len_bound
          ∙ ap₂ (λ (h s : ℕ). open_sender h s (length c.args.image.now)) channel size,
    )
