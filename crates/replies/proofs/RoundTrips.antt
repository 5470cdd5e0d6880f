-- Reading a reply that was built gives its fields back. Assumes nothing.
use mathlib.Core.Path.{◌≡◌, refl, sym, ap, ap₂, ◌∙◌}
use mathlib.Core.Bool.{true, ◌&&◌}
use mathlib.Core.List.{List}
use Prim.Native.Nat.{ℕ, ◌≤◌}
use native.Mathlib.Omega.{arith}
use borrow.Author.Tests.{eq-eqb}
use lib.ListN.{length}
use Rattle.fronts.specs.Frame.{max_data, encode}
use Rattle.sequences.specs.Padding.{padded}
use Rattle.sequences.specs.Search.{find}
use Rattle.frames.specs.Buffer.{data_at, alone_at, version_at, command_at}
use Rattle.frames.proofs.OneFrames.{version_encoded, command_encoded, data_encoded, alone_encoded}
use Rattle.sequences.proofs.Numbers.{of-bytes32}
use Rattle.commands.specs.Table.{table, row_at, place_in_table}
use Rattle.commands.specs.Limits.{max_reply}
use Rattle.replies.specs.Replies.{reply_fa, reply_fb, reply_fc, reply_state, reply_frame}
use Rattle.replies.specs.ReplyFields.{is_reply, fields_fa, fields_fb, fields_fc, fields_state}
use Rattle.replies.specs.RoundTrips.{reply_bytes, RepliesReadBack}
use Rattle.replies.specs.ReplyFrames.{frame_with}
use Rattle.replies.proofs.ReplyFrames.{reply-frames}

module _ (command version : ℕ) (d : List ℕ) (is : reply_frame command (padded max_reply d) ≡ frame_with version command d)
    (small : length d ≤ max_data) where
  bytes_are : reply_bytes command d ≡ encode (frame_with version command d)
  bytes_are = ap encode is

  reply_data : data_at (reply_bytes command d) ≡ d
  reply_data = ap data_at bytes_are ∙ data_encoded (frame_with version command d) small

  reply-is : (row_at (place_in_table command)).reply_version ≡ version → (row_at (place_in_table command)).reply_length ≡ length d
      → is_reply command (reply_bytes command d) ≡ true
  unfolding is_reply
  reply-is v n =
      let f = frame_with version command d in
      let alone = ap alone_at bytes_are ∙ alone_encoded f small in
      let own = ap command_at bytes_are ∙ command_encoded f small in
      let versioned = ap version_at bytes_are ∙ version_encoded f small in
      ap₂ ◌&&◌ alone
      (ap₂ ◌&&◌ (eq-eqb _ _ own)
      (ap₂ ◌&&◌ (eq-eqb _ _ (versioned ∙ sym v)) (eq-eqb _ _ (ap length reply_data ∙ sym n))))

pub replies_read_back : RepliesReadBack
unfolding place_in_table row_at table find reply_fa reply_fb reply_fc reply_state fields_fa fields_fb fields_fc fields_state
replies_read_back =
    record {
      fa = λ channel flag version. ap fields_fa
          (reply_data 0xFA 0x00 (reply_fa channel flag version) (reply-frames.fa channel flag version) (omega arith));
      fb = λ channel state stored crc s c.
          ap fields_fb (reply_data 0xFB 0x10 (reply_fb channel state stored crc) (reply-frames.fb channel state stored crc) (omega arith))
          ∙ ap₂ (λ (n m : ℕ). record { channel = channel; state = state; stored = n; crc = m }) (of-bytes32 stored s) (of-bytes32 crc c);
      fc = λ channel offset o.
          ap fields_fc (reply_data 0xFC 0x00 (reply_fc channel offset) (reply-frames.fc channel offset) (omega arith))
          ∙ ap (λ (n : ℕ). record { channel = channel; offset = n }) (of-bytes32 offset o);
      fd = λ channel state. ap fields_state (reply_data 0xFD 0x00 (reply_state channel state) (reply-frames.fd channel state) (omega arith));
      fe = λ channel state. ap fields_state (reply_data 0xFE 0x00 (reply_state channel state) (reply-frames.fe channel state) (omega arith));
      fa-reply = λ channel flag version. reply-is 0xFA 0x00 (reply_fa channel flag version) (reply-frames.fa channel flag version)
          (omega arith) refl refl;
      fb-reply = λ channel state stored crc. reply-is 0xFB 0x10 (reply_fb channel state stored crc)
          (reply-frames.fb channel state stored crc) (omega arith) refl refl;
      fc-reply = λ channel offset. reply-is 0xFC 0x00 (reply_fc channel offset) (reply-frames.fc channel offset) (omega arith) refl refl;
      fd-reply = λ channel state. reply-is 0xFD 0x00 (reply_state channel state) (reply-frames.fd channel state) (omega arith) refl refl;
      fe-reply = λ channel state. reply-is 0xFE 0x00 (reply_state channel state) (reply-frames.fe channel state) (omega arith) refl refl;
    }
