-- `session::session::Session::unlawful` meets its contract. Assumes nothing.
use native.Mathlib.Omega.{arith}
use Rattle.std.proofs.lemmas.Grind.{common_steps}
use Rattle.boards.proofs.Places.{list-fits}
use Rattle.session.proofs.session.Session.unlawful.Goals as goal

pub bad_session_fields-requires : goal.bad_session_fields-requires
bad_session_fields-requires c = grind (arith, common_steps, list-fits)
