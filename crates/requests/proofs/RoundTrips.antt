-- Reading a request that was built gives its fields back. Assumes nothing.
use mathlib.Core.Path.{◌≡◌, refl, ap, ap₂, ◌∙◌}
use mathlib.Core.Bool.{Bool, false, cond, ◌||◌}
use mathlib.Core.List.{List, [], ◌++◌, append_assoc}
use Prim.Native.Nat.{ℕ, ◌+◌, ◌-◌, ◌/◌, ◌%◌, ◌≤◌, ◌<◌}
use native.Mathlib.Omega.{arith}
use borrow.Author.Tests.{le-ltb}
use lib.Dec.{ltb}
use lib.ListN.{length, take, drop, length-append}
use lib.Seq.{take-append_seam}
use Rattle.fronts.specs.Frame.{max_data}
use Rattle.sequences.specs.Fields.{number32_at, field_at}
use Rattle.sequences.specs.Numbers.{number16, bytes32, max16, max32}
use Rattle.sequences.specs.Padding.{zeros, padded}
use Rattle.frames.specs.Finished.{finished}
use Rattle.frames.proofs.FinishedFrames.{finished-version, finished-command, finished-length, finished-bytes}
use Rattle.sequences.proofs.Fields.{drop-next, field_there, number32-there}
use Rattle.sequences.proofs.Numbers.{of-bytes16, of-bytes32}
use Rattle.commands.specs.declared.table.Header.TheVariants.{Wrong, Right}
use Rattle.requests.specs.declared.request.RequestFA.{RequestFA}
use Rattle.requests.specs.declared.request.RequestFB.{RequestFB}
use Rattle.requests.specs.declared.request.RequestFC.{RequestFC}
use Rattle.requests.specs.declared.request.RequestFD.{RequestFD}
use Rattle.sequences.specs.Search.{find}
use Rattle.commands.specs.Limits.{max_packet}
use Rattle.commands.specs.Table.{table, row_at, place_in_table, header_of}
use Rattle.requests.specs.Requests.{channel_of, request_fa, request_fb, request_fc, request_fd, packet_of}
use Rattle.requests.specs.RequestFrames.{byte, data_fa, named_fb, data_fb, data_fc, data_fd, data_fe, request_frame}
use Rattle.requests.specs.RoundTrips.{FitsFB, FitsFD, sent, header_in, RequestsReadBack}

-- the bytes that the controller's reader hands on
sent-bytes : (command : ℕ) (d : List ℕ) → (sent command d).bytes ≡ padded max_data d
unfolding request_frame
sent-bytes command d = finished-bytes (request_frame command d)

sent-length : (command : ℕ) (d : List ℕ) → (sent command d).length ≡ length d
unfolding request_frame
sent-length command d = finished-length (request_frame command d)

fa_back : (r : RequestFA) → r.len1 < max16 → request_fa (sent 0xFA (data_fa r)).bytes ≡ r
unfolding request_fa data_fa
fa_back r h = ap request_fa (sent-bytes 0xFA (data_fa r)) ∙ ap (λ (n : ℕ). record { channel = r.channel; len1 = n }) (of-bytes16 r.len1 h)

fc_back : (r : RequestFC) → r.offset < max32 → request_fc (sent 0xFC (data_fc r)).bytes ≡ r
unfolding request_fc data_fc
fc_back r h =
    ap request_fc (sent-bytes 0xFC (data_fc r)) ∙ ap (λ (n : ℕ). record { channel = r.channel; offset = n }) (of-bytes32 r.offset h)

fd_back : (r : RequestFD) (p : List ℕ) → FitsFD r → request_fd (sent 0xFD (data_fd r p)).bytes ≡ r
unfolding request_fd data_fd
fd_back r p fits =
    ap request_fd (sent-bytes 0xFD (data_fd r p))
    ∙ ap (λ (n : ℕ). record {
      channel = r.channel;
      number = n;
      size = number16 (r.size / 256 % 256) (r.size % 256);
      crc = number16 (r.crc / 256 % 256) (r.crc % 256);
    }) (of-bytes16 r.number fits.number)
    ∙ ap₂ (λ (s c : ℕ). record { channel = r.channel; number = r.number; size = s; crc = c }) (of-bytes16 r.size fits.size)
    (of-bytes16 r.crc fits.crc)

packet_back : (r : RequestFD) (p : List ℕ) → length p ≤ max_packet
    → packet_of (sent 0xFD (data_fd r p)).length (sent 0xFD (data_fd r p)).bytes ≡ p
unfolding packet_of data_fd
packet_back r p small =
    let n : length (data_fd r p) - 7 ≡ length p = omega arith in
    let least : ltb (length (data_fd r p)) 7 ≡ false = le-ltb (length (data_fd r p)) 7 (omega arith) in
    let most : ltb max_data (length (data_fd r p)) ≡ false = le-ltb max_data (length (data_fd r p)) (omega arith) in
    ap₂ packet_of (sent-length 0xFD (data_fd r p)) (sent-bytes 0xFD (data_fd r p))
    ∙ ap₂ (λ (a b : Bool). cond (a || b) [] (field_at 7 (length (data_fd r p) - 7) (padded max_data (data_fd r p)))) least most
    ∙ ap (λ (k : ℕ). take k (drop 7 (padded max_data (data_fd r p)))) n
    ∙ take-append_seam p (zeros (max_data - length (data_fd r p)))

fe_back : (channel : ℕ) → channel_of (sent 0xFE (data_fe channel)).bytes ≡ channel
unfolding data_fe
fe_back channel = ap channel_of (sent-bytes 0xFE (data_fe channel))

module _ (r : RequestFB) (fits : FitsFB r) where
  abbrev d : List ℕ
  d = padded max_data (data_fb r)

  abbrev behind : List ℕ
  behind = zeros (max_data - length (data_fb r))

  pub size-fb : length (data_fb r) ≡ 36
  unfolding data_fb
  size-fb =
      omega (
        arith,
        fits.pid,
        fits.version,
        fits.md5,
        length-append (byte r.channel) r.pid,
        length-append (byte r.channel ++ r.pid) r.version,
        length-append ((byte r.channel ++ r.pid) ++ r.version) r.md5,
        length-append (named_fb r) (bytes32 r.length),
        length-append (named_fb r ++ bytes32 r.length) (bytes32 r.crc),
      )

  from1 : drop 1 d ≡ r.pid ++ (r.version ++ (r.md5 ++ (bytes32 r.length ++ (bytes32 r.crc ++ behind))))
  unfolding data_fb
  from1 =
      let last = bytes32 r.crc ++ behind in
      append_assoc (((r.pid ++ r.version) ++ r.md5) ++ bytes32 r.length) (bytes32 r.crc) behind
      ∙ append_assoc ((r.pid ++ r.version) ++ r.md5) (bytes32 r.length) last
      ∙ append_assoc (r.pid ++ r.version) r.md5 (bytes32 r.length ++ last)
      ∙ append_assoc r.pid r.version (r.md5 ++ (bytes32 r.length ++ last))

  from9 : drop 9 d ≡ r.version ++ (r.md5 ++ (bytes32 r.length ++ (bytes32 r.crc ++ behind)))
  from9 = drop-next d r.pid _ 1 8 from1 fits.pid

  from12 : drop 12 d ≡ r.md5 ++ (bytes32 r.length ++ (bytes32 r.crc ++ behind))
  from12 = drop-next d r.version _ 9 3 from9 fits.version

  from28 : drop 28 d ≡ bytes32 r.length ++ (bytes32 r.crc ++ behind)
  from28 = drop-next d r.md5 _ 12 16 from12 fits.md5

  from32 : drop 32 d ≡ bytes32 r.crc ++ behind
  from32 = drop-next d (bytes32 r.length) _ 28 4 from28 refl

  first : channel_of d ≡ r.channel
  unfolding data_fb
  first = refl

  fb_back : request_fb (sent 0xFB (data_fb r)).bytes ≡ r
  unfolding request_fb
  fb_back =
      let pid = field_there d r.pid _ 1 8 from1 fits.pid in
      let version = field_there d r.version _ 9 3 from9 fits.version in
      let md5 = field_there d r.md5 _ 12 16 from12 fits.md5 in
      let size = number32-there d _ 28 r.length from28 fits.size in
      let crc = number32-there d _ 32 r.crc from32 fits.crc in
      ap request_fb (sent-bytes 0xFB (data_fb r))
      ∙ ap₂ (λ (p v : List ℕ). record {
        channel = channel_of d;
        pid = p;
        version = v;
        md5 = field_at 12 16 d;
        length = number32_at 28 d;
        crc = number32_at 32 d;
      }) pid version
      ∙ ap₂ (λ (m : List ℕ) (n : ℕ). record {
        channel = channel_of d;
        pid = r.pid;
        version = r.version;
        md5 = m;
        length = n;
        crc = number32_at 32 d;
      }) md5 size
      ∙ ap₂ (λ (c n : ℕ). record { channel = c; pid = r.pid; version = r.version; md5 = r.md5; length = r.length; crc = n }) first crc

-- ---- the table's version byte and L

header-sent : (command : ℕ) (d : List ℕ) → header_in (sent command d) ≡ header_of (row_at (place_in_table command)).version command (length d)
unfolding request_frame
header-sent command d =
    let f = request_frame command d in
    ap₂ (λ (v c : ℕ). header_of v c (finished f).length) (finished-version f) (finished-command f)
    ∙ ap (header_of (row_at (place_in_table command)).version command) (finished-length f)

fd-header : (r : RequestFD) (p : List ℕ) → length p ≤ max_packet → header_of 0x10 0xFD (length (data_fd r p)) ≡ Right
unfolding header_of place_in_table row_at table find data_fd
fd-header r p small =
    let least : ltb (length (data_fd r p)) 7 ≡ false = le-ltb (length (data_fd r p)) 7 (omega arith) in
    let most : ltb max_data (length (data_fd r p)) ≡ false = le-ltb max_data (length (data_fd r p)) (omega arith) in
    ap₂ (λ (a b : Bool). cond (a || b) Wrong Right) least most

pub requests_read_back : RequestsReadBack
unfolding header_of place_in_table row_at table find data_fa data_fc data_fe
requests_read_back =
    record {
      fa = fa_back;
      fb = fb_back;
      fc = fc_back;
      fd = fd_back;
      packet = packet_back;
      fe = fe_back;
      fa-header = λ r. header-sent 0xFA (data_fa r);
      fb-header = λ r fits. header-sent 0xFB (data_fb r) ∙ ap (header_of 0x10 0xFB) (size-fb r fits);
      fc-header = λ r. header-sent 0xFC (data_fc r);
      fd-header = λ r p small. header-sent 0xFD (data_fd r p) ∙ fd-header r p small;
      fe-header = λ channel. header-sent 0xFE (data_fe channel);
    }

-- ---- sizes and commands

pub request-payload : (command : ℕ) (d : List ℕ) → (request_frame command d).payload ≡ d
unfolding request_frame
request-payload command d = refl

pub sent-command : (command : ℕ) (d : List ℕ) → (sent command d).command ≡ command
unfolding request_frame
sent-command command d = finished-command (request_frame command d)

pub size-fa : (r : RequestFA) → length (data_fa r) ≡ 3
unfolding data_fa
size-fa r = refl

pub size-fc : (r : RequestFC) → length (data_fc r) ≡ 5
unfolding data_fc
size-fc r = refl

pub size-fd : (r : RequestFD) (p : List ℕ) → length (data_fd r p) ≡ 7 + length p
unfolding data_fd
size-fd r p = omega arith

pub size-fe : (channel : ℕ) → length (data_fe channel) ≡ 1
unfolding data_fe
size-fe channel = refl
