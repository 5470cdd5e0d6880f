-- docs/CONSOLE.md, "Fields of the sender's record": what `sender set` makes of each. p is the phrase, b its bytes. Assumes nothing.
use Rattle.std.specs.Prelude.{List, ℕ, ◌%◌}
use Rattle.sequences.specs.Fields.{byte_at, field_at}
use Rattle.sender.specs.declared.phase.Phase.{Phase}
use Rattle.sender.specs.declared.phase.Phase.TheVariants.{Asking, Telling, Placing, Sending, Ending, Done, GivenUp}
use Rattle.sender.specs.declared.sender.Offer.{Offer}
use Rattle.sender.specs.declared.sender.Position.{Position}
use Rattle.sender.specs.declared.sender.Tries.{Tries}
use Rattle.sender.specs.declared.sender.Sender.{Sender}
use Rattle.phrases.specs.declared.phrase.Phrase.{Phrase}
use Rattle.phrases.specs.Places.{sender_set_channel_at, sender_set_pid_at, sender_set_version_at, sender_set_md5_at, sender_set_size_at, sender_set_length_at}
use Rattle.phrases.specs.Places.{sender_set_phase_asking_at, sender_set_phase_telling_at, sender_set_phase_placing_at, sender_set_phase_sending_at}
use Rattle.phrases.specs.Places.{sender_set_phase_ending_at, sender_set_phase_done_at, sender_set_phase_given_up_at, sender_set_place_at, sender_set_number_at}
use Rattle.phrases.specs.Places.{sender_set_silences_at, sender_set_legs_at}
use Rattle.fields.specs.Choices.{set_to}

-- `sender open`: "channel(1), PID(8), version(3), MD5(16)", and the packet size
abbrev pub offer_said : ℕ → List ℕ → ℕ → Offer
offer_said size b n =
    record {
      channel = byte_at 0 b;
      pid = field_at 1 8 b;
      version = field_at 9 3 b;
      md5 = field_at 12 16 b;
      size = size % 65536;
      length = n;
    }

-- "asking, telling, placing, sending, ending, done, given-up"
abbrev pub phase_set : ℕ → Phase → Phase
phase_set command old =
    set_to command sender_set_phase_asking_at Asking
    (set_to command sender_set_phase_telling_at Telling
    (set_to command sender_set_phase_placing_at Placing
    (set_to command sender_set_phase_sending_at Sending
    (set_to command sender_set_phase_ending_at Ending
    (set_to command sender_set_phase_done_at Done (set_to command sender_set_phase_given_up_at GivenUp old))))))

module _ (p : Phrase) where
  abbrev pub position_set : Position → Position
  position_set x =
      record {
        phase = phase_set p.command x.phase;
        place = set_to p.command sender_set_place_at p.first x.place;
        number = set_to p.command sender_set_number_at p.first x.number;
      }

  abbrev pub tries_set : Tries → Tries
  tries_set x =
      record {
        silences = set_to p.command sender_set_silences_at p.first x.silences;
        new_legs = set_to p.command sender_set_legs_at p.first x.new_legs;
      }

module _ (p : Phrase) (b : List ℕ) where
  abbrev pub offer_set : Offer → Offer
  offer_set o =
      record {
        channel = set_to p.command sender_set_channel_at (p.first % 256) o.channel;
        pid = set_to p.command sender_set_pid_at (field_at 0 8 b) o.pid;
        version = set_to p.command sender_set_version_at (field_at 0 3 b) o.version;
        md5 = set_to p.command sender_set_md5_at (field_at 0 16 b) o.md5;
        size = set_to p.command sender_set_size_at (p.first % 65536) o.size;
        length = set_to p.command sender_set_length_at p.first o.length;
      }

  unfoldable pub sender_set : Sender → Sender
  sender_set s = record { offer = offer_set s.offer; position = position_set p s.position; tries = tries_set p s.tries }
