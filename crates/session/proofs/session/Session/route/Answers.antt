-- `session::session::Session::route` meets its contract. Assumes nothing.
use native.Mathlib.Omega.{arith}
use Rattle.std.proofs.lemmas.Grind.{common_steps}
use Rattle.boards.proofs.Places.{board-there}
use Rattle.session.specs.Answering.{routed}
use Rattle.session.proofs.Lawfuls.{lawful-count}
use Rattle.session.proofs.session.Session.route.Goals as goal

pub place_for-i-requires : goal.place_for-i-requires
place_for-i-requires c = lawful-count _ c.requires

pub returns : goal.returns
unfolding routed
returns c = search (arith, common_steps, lawful-count c.args.self c.requires, board-there c.args.self.boards c.place_for-i.result)
