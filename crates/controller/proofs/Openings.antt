-- Opening: what succeeds can be run, what is refused meets 9. Assumes nothing.
use mathlib.Core.Path.{◌≡◌, refl, sym, ap, ◌∙◌}
use mathlib.Core.Bool.{true}
use mathlib.Core.List.{List}
use Prim.Native.Nat.{ℕ}
use native.Mathlib.Omega.{arith}
use lib.ListN.{length}
use Rattle.boards.specs.declared.board.Board.{Board}
use Rattle.session.specs.declared.session.Session.{Session}
use Rattle.boards.specs.Boards.{max_boards}
use Rattle.session.specs.Opening.{fresh_session, opened}
use Rattle.session.proofs.Openings.{open_usable, open_refused, none-unlawful}
use Rattle.controller.specs.Records.{unlawful_record, holding_nothing, no_record, opened_record}
use Rattle.controller.specs.Openings.{HandsBack, RecordOpens}
use Rattle.controller.proofs.Refusals.{record_accepted}

none-refused : unlawful_record no_record ≡ true
unfolding unlawful_record
none-refused = rw none-unlawful

pub opens : (bs : List Board) (n size : ℕ) → length bs ≡ max_boards → HandsBack bs n size
unfolding opened_record fresh_session
opens bs n size ten =
    record {
      fresh = λ z. ap holding_nothing (open_usable bs n size ten z).fresh;
      usable = λ z area e.
          let u = open_usable bs n size ten z in
          record {
            lawful = record_accepted (holding_nothing (opened bs n size).session) (record { count = omega arith; session = u.lawful });
            nothing-held = refl;
            size = e ∙ sym (ap (λ (s : Session). s.opened) u.fresh);
            no-check = ap (λ (s : Session). s.transfer.check.running) u.fresh;
          };
      zero = λ z. ap holding_nothing (open_refused bs n size z);
    }

pub record_opens : RecordOpens
record_opens = record { opens = opens; none-refused = none-refused }
