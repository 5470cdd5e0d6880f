-- Demand 2 as bytes on the line: the eight bytes of an end request are fed to a record that holds nothing, and portions are asked for until
-- the announced length is reached. The only reply is the nine bytes of success exactly when the demand's four conditions hold. Assumes
-- nothing.
use Rattle.std.specs.Prelude.{◌≡◌, false, ◌↔◌, List, [], ◌∷◌, ◌++◌, ℕ, ◌+◌, ◌%◌, ◌≤◌, length}
use Rattle.fronts.specs.Frame.{total}
use Rattle.commands.specs.Outcomes.{accepted}
use Rattle.session.specs.Transfers.{transfer_on, own_transfer}
use Rattle.session.specs.EndRequest.{Complete}
use Rattle.controller.specs.declared.record.Record.{Record}
use Rattle.controller.specs.Records.{is_checking}
use Rattle.controller.specs.Calls.{refusal_of, fed_call, reply_in}
use Rattle.controller.specs.Portions.{portion_call}

-- FE from the module: 55, AA, version 00, command FE, L 00 01, channel; the bytes before it add up to 1FE
abbrev pub end_request_bytes : ℕ → List ℕ
end_request_bytes channel = 0x55 ∷ 0xAA ∷ 0x00 ∷ 0xFE ∷ 0x00 ∷ 0x01 ∷ channel ∷ (0x1FE + channel) % 256 ∷ []

-- its reply: L 00 02, channel, state 00; the other bytes add up to 1FF
abbrev pub success_bytes : ℕ → List ℕ
success_bytes channel = 0x55 ∷ 0xAA ∷ 0x00 ∷ 0xFE ∷ 0x00 ∷ 0x02 ∷ channel ∷ 0x00 ∷ (0x1FF + channel) % 256 ∷ []

-- the replies of portion calls with these largest numbers, one after the other
abbrev pub portion_replies : List ℕ → Record → List ℕ → List ℕ → List (List ℕ)
portion_replies [] r room area = []
portion_replies (n ∷ ns) r room area =
    let x = portion_call n r room area in
    reply_in x.called.reply_length x.room ++ portion_replies ns x.called.next room area

-- all replies to the bytes and to the portions after them
abbrev pub replies_to : ℕ → List ℕ → Record → List ℕ → List ℕ → List (List ℕ)
replies_to channel ns r room area =
    let y = fed_call (end_request_bytes channel) r room area in
    reply_in y.called.reply_length y.room ++ portion_replies ns y.called.next room area

-- The claim.
abbrev pub EndRequestOnTheLine : Type 0
EndRequestOnTheLine =
    (r : Record) (channel : ℕ) (room area ns : List ℕ)
    → refusal_of r (length room) (length area) ≡ accepted → r.reader.count ≡ 0 → is_checking r ≡ false
    → (own_transfer r.session).image.announced ≤ total ns
    → (replies_to channel ns r room area ≡ success_bytes channel ∷ []) ↔ Complete (transfer_on r.session channel) channel area
