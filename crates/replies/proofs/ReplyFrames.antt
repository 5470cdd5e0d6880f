-- The reply to each command as a frame: the table's version byte and length are those of the data built for it. Assumes nothing.
use mathlib.Core.Path.{refl}
use Rattle.sequences.specs.Search.{find}
use Rattle.commands.specs.Table.{table, row_at, place_in_table}
use Rattle.replies.specs.Replies.{reply_fa, reply_fb, reply_fc, reply_state, reply_frame, has_reply}
use Rattle.replies.specs.ReplyFrames.{ReplyFrames}

pub reply-frames : ReplyFrames
unfolding reply_frame has_reply place_in_table row_at table find reply_fa reply_fb reply_fc reply_state
reply-frames =
    record {
      fa = λ channel flag version. refl;
      fb = λ channel state stored crc. refl;
      fc = λ channel offset. refl;
      fd = λ channel state. refl;
      fe = λ channel state. refl;
      fa-replied = refl;
      fb-replied = refl;
      fc-replied = refl;
      fd-replied = refl;
      fe-replied = refl;
      f9 = refl;
    }
