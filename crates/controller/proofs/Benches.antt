-- The bench table holds, by computation from the definitions of a call. Assumes nothing.
use mathlib.Core.Path.{◌≡◌, refl, sym, ap, ◌∙◌}
use mathlib.Core.List.{List, [], ◌∷◌, ◌++◌, map}
use Prim.Native.Nat.{ℕ}
use native.Mathlib.Omega.{arith}
use Rattle.crc.specs.Crc.{bit, bits, byte_step, update, finish, checksum, crc16_modbus, crc32}
use Rattle.fronts.specs.Frame.{Frame, unsummed, encode, frame_at}
use Rattle.fronts.specs.Fronts.{front_of}
use Rattle.frames.specs.Finished.{finished}
use Rattle.frames.specs.Buffer.{writable, written_size, written_room}
use Rattle.frames.specs.LiveReading.{with_frame, looking, feeding_call, fed}
use Rattle.sequences.specs.Search.{find}
use Rattle.commands.specs.Table.{table as command_table, row_at, place_in_table, header_of}
use Rattle.requests.specs.Requests.{request_fa, request_fb, request_fc, request_fd, packet_of}
use Rattle.replies.specs.Replies.{reply_fa, reply_fb, reply_fc, reply_state, reply_frame, has_reply, reply_size, reply_room}
use Rattle.sequences.specs.Comparing.{same}
use Rattle.agreement.specs.Versions.{newer}
use Rattle.agreement.specs.FA.{answer_fa}
use Rattle.agreement.specs.FB.{same_identity, state_fb, after_fb, grant_fb, answer_fb}
use Rattle.agreement.specs.FC.{answer_fc}
use Rattle.sequences.specs.Places.{written_at}
use Rattle.packets.specs.FD.{repeats, state_fd, takes, effect_fd}
use Rattle.ending.specs.FE.{answer_fe, ended_fe}
use Rattle.image.specs.Progresses.{storing, is_last}
use Rattle.image.specs.Checks.{portion_of}
use Rattle.ending.specs.Portions.{check_step}
use Rattle.boards.specs.Boards.{place_of, bad_list, list_of}
use Rattle.session.specs.Opening.{fresh_session, opened}
use Rattle.session.specs.Lawful.{unlawful}
use Rattle.session.specs.Answering.{effect_of, routed, judged, reaction}
use Rattle.session.specs.Checking.{checked}
use Rattle.boards.specs.Report.{boards_bytes, report_bytes, report_frame, report_size, report_room}
use Rattle.controller.specs.Records.{unlawful_record, opened_record}
use Rattle.controller.specs.Calls.{refusal_of, finished_call, called_by}
use Rattle.controller.specs.Portions.{portion_call}
use Rattle.controller.specs.OutwardReport.{report_refusal, reported, room_reported}
use Rattle.controller.specs.Bench.{got, empty_area, bench_table, p1, stray10, stray11, end_request, BenchHolds}
use Rattle.frames.specs.Reading.{Reading, reading_from, reading}
use Rattle.frames.specs.Series.{Series, none, stray, frame}
use Rattle.frames.proofs.Readings.{series-read}

bench-rows : map (got empty_area) bench_table ≡ map (λ r. r.wanted) bench_table
unfolding bit bits byte_step update finish checksum crc16_modbus crc32 unsummed encode frame_at front_of reading_from reading finished writable
    written_size written_room with_frame looking feeding_call fed find command_table row_at place_in_table header_of request_fa request_fb request_fc
    request_fd packet_of reply_fa reply_fb reply_fc reply_state reply_frame has_reply reply_size reply_room same newer same_identity answer_fa state_fb
    after_fb grant_fb answer_fb answer_fc is_last storing repeats state_fd takes written_at effect_fd answer_fe ended_fe portion_of check_step place_of
    bad_list list_of fresh_session opened unlawful effect_of routed judged reaction checked boards_bytes report_bytes report_frame report_size
    report_room unlawful_record opened_record refusal_of finished_call called_by portion_call report_refusal reported room_reported
bench-rows = refl

p10_series : Series (stray10 ++ p1) (end_request ∷ []) 6
unfolding frame_at front_of unsummed encode
p10_series = stray refl (stray refl (stray refl (stray refl (stray refl (stray refl (frame {f = end_request} (omega arith) none))))))

first-command : List Frame → ℕ
first-command [] = 0
first-command (f ∷ fs) = f.command

p11_command : first-command (reading (stray11 ++ p1)).frames ≡ 0x56
unfolding frame_at front_of reading_from reading first-command
p11_command = refl

pub bench : BenchHolds
unfolding first-command
bench =
    record {
      rows = bench-rows;
      p10_series = p10_series;
      p11_no_series = λ n s.
          let e = ap (λ (r : Reading). first-command r.frames) (sym (series-read s)) ∙ p11_command in
          omega arith;
    }
