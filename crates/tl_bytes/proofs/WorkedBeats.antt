-- Beats of worked traces, and the first of a trace whose bytes aren't true.
use Rattle.tl_bytes.{proofs.Imports.Beat, proofs.Imports.Link, proofs.Imports.Trace, specs.statement.Bytes.is_true}
use Rattle.std.proofs.Common.{ℕ, Bool, refl, true, false, List, [], ◌∷◌, ◌++◌}
use Rattle.std.specs.Prelude.{if◌then◌else◌, length, replicate, Option, Some, None}
use Rattle.tl_beat.{specs.declared.opcode.OpA.OpA, specs.declared.opcode.OpB.OpB, specs.declared.opcode.OpC.OpC}
use Rattle.tl_beat.specs.declared.opcode.OpD.{OpD}

-- ---- beats of block 0

-- eight bytes, each v
abbrev pub eight : ℕ → List ℕ
eight v = replicate 8 v

abbrev pub put : {w : ℕ} → ℕ → ℕ → ℕ → List ℕ → ℕ → Link × Beat w
put link source size bytes mask = (
  record { 0 = link },
  Beat.A (record {
    opcode = OpA.PutFullData;
    param = 0;
    size = size;
    source = source;
    address = 0;
    mask = mask;
    lanes = Some bytes;
    corrupt = false;
    carries = refl;
  }),
)

abbrev pub done : {w : ℕ} → ℕ → ℕ → ℕ → Link × Beat w
done link source size = (
  record { 0 = link },
  Beat.D (record {
    opcode = OpD.AccessAck;
    param = 0;
    size = size;
    source = source;
    sink = 0;
    denied = false;
    lanes = None;
    corrupt = false;
    carries = refl;
  }),
)

abbrev pub get : {w : ℕ} → ℕ → ℕ → ℕ → ℕ → Link × Beat w
get link source size mask = (
  record { 0 = link },
  Beat.A (record {
    opcode = OpA.Get;
    param = 0;
    size = size;
    source = source;
    address = 0;
    mask = mask;
    lanes = None;
    corrupt = false;
    carries = refl;
  }),
)

abbrev pub add : {w : ℕ} → ℕ → ℕ → ℕ → List ℕ → ℕ → Link × Beat w
add link source size bytes mask = (
  record { 0 = link },
  Beat.A (record {
    opcode = OpA.ArithmeticData;
    param = 4;
    size = size;
    source = source;
    address = 0;
    mask = mask;
    lanes = Some bytes;
    corrupt = false;
    carries = refl;
  }),
)

abbrev pub found : {w : ℕ} → ℕ → ℕ → ℕ → List ℕ → Link × Beat w
found link source size bytes = (
  record { 0 = link },
  Beat.D (record {
    opcode = OpD.AccessAckData;
    param = 0;
    size = size;
    source = source;
    sink = 0;
    denied = false;
    lanes = Some bytes;
    corrupt = false;
    carries = refl;
  }),
)

abbrev pub acquire : {w : ℕ} → ℕ → ℕ → ℕ → ℕ → Link × Beat w
acquire link grow source mask = (
  record { 0 = link },
  Beat.A (record {
    opcode = OpA.AcquireBlock;
    param = grow;
    size = 6;
    source = source;
    address = 0;
    mask = mask;
    lanes = None;
    corrupt = false;
    carries = refl;
  }),
)

abbrev pub grant_beat : {w : ℕ} → ℕ → ℕ → ℕ → ℕ → List ℕ → Link × Beat w
grant_beat link cap source sink bytes = (
  record { 0 = link },
  Beat.D (record {
    opcode = OpD.GrantData;
    param = cap;
    size = 6;
    source = source;
    sink = sink;
    denied = false;
    lanes = Some bytes;
    corrupt = false;
    carries = refl;
  }),
)

abbrev pub acquire_unread : {w : ℕ} → ℕ → ℕ → ℕ → Link × Beat w
acquire_unread link source mask = (
  record { 0 = link },
  Beat.A (record {
    opcode = OpA.AcquirePerm;
    param = 1;
    size = 6;
    source = source;
    address = 0;
    mask = mask;
    lanes = None;
    corrupt = false;
    carries = refl;
  }),
)

abbrev pub grant_unread : {w : ℕ} → ℕ → ℕ → ℕ → Link × Beat w
grant_unread link source sink = (
  record { 0 = link },
  Beat.D (record {
    opcode = OpD.Grant;
    param = 0;
    size = 6;
    source = source;
    sink = sink;
    denied = false;
    lanes = None;
    corrupt = false;
    carries = refl;
  }),
)

abbrev pub grant_ack : {w : ℕ} → ℕ → ℕ → Link × Beat w
grant_ack link sink = (record { 0 = link }, Beat.E (record { sink = sink }))

abbrev pub release_beat : {w : ℕ} → ℕ → ℕ → List ℕ → Link × Beat w
release_beat link source bytes = (
  record { 0 = link },
  Beat.C (record {
    opcode = OpC.ReleaseData;
    param = 1;
    size = 6;
    source = source;
    address = 0;
    lanes = Some bytes;
    corrupt = false;
    carries = refl;
  }),
)

abbrev pub release_ack : {w : ℕ} → ℕ → ℕ → Link × Beat w
release_ack link source = (
  record { 0 = link },
  Beat.D (record {
    opcode = OpD.ReleaseAck;
    param = 0;
    size = 6;
    source = source;
    sink = 0;
    denied = false;
    lanes = None;
    corrupt = false;
    carries = refl;
  }),
)

-- a Probe's answer without data: all that was held is given up
abbrev pub given_up : {w : ℕ} → ℕ → Link × Beat w
given_up link = (
  record { 0 = link },
  Beat.C (record {
    opcode = OpC.ProbeAck;
    param = 1;
    size = 6;
    source = 0;
    address = 0;
    lanes = None;
    corrupt = false;
    carries = refl;
  }),
)

-- a Probe that leaves Trunk, and data that answer it
abbrev pub probe_to_trunk : {w : ℕ} → ℕ → Link × Beat w
probe_to_trunk link = (
  record { 0 = link },
  Beat.B (record {
    opcode = OpB.ProbeBlock;
    param = 0;
    size = 6;
    source = 0;
    address = 0;
    mask = 65535;
    lanes = None;
    corrupt = false;
    carries = refl;
  }),
)

abbrev pub shown_beat : {w : ℕ} → ℕ → List ℕ → Link × Beat w
shown_beat link bytes = (
  record { 0 = link },
  Beat.C (record {
    opcode = OpC.ProbeAckData;
    param = 3;
    size = 6;
    source = 0;
    address = 0;
    lanes = Some bytes;
    corrupt = false;
    carries = refl;
  }),
)

abbrev pub part : {w : ℕ} → ℕ → ℕ → ℕ → List ℕ → ℕ → Link × Beat w
part link source size bytes mask = (
  record { 0 = link },
  Beat.A (record {
    opcode = OpA.PutPartialData;
    param = 0;
    size = size;
    source = source;
    address = 0;
    mask = mask;
    lanes = Some bytes;
    corrupt = false;
    carries = refl;
  }),
)

-- the beat with corrupt data
abbrev pub spoilt : {w : ℕ} → Link × Beat w → Link × Beat w
spoilt (link, Beat.C x) = (link, Beat.C (record x { corrupt = true }))
spoilt (link, Beat.D x) = (link, Beat.D (record x { corrupt = true }))
spoilt x = x

-- this beat four times: a whole block at 16 bytes a beat
abbrev pub four : Link × Beat 16 → Trace 16
four x = x ∷ x ∷ x ∷ x ∷ []

abbrev pub wide : ℕ → List ℕ
wide v = replicate 16 v

-- a link is granted Trunk of bytes 5, and gives the block back with bytes 9
abbrev pub given_back : Trace 16 → Trace 16
given_back rest =
    acquire 0 1 0 65535 ∷ four (grant_beat 0 0 0 0 (wide 5)) ++ grant_ack 0 0 ∷ four (release_beat 0 1 (wide 9)) ++ rest

-- a link is granted Trunk of bytes 5, another asks for bytes of the block, and the first shows bytes 9, or gives them back
abbrev pub asked_beside_trunk : Trace 16 → Trace 16
asked_beside_trunk rest =
    acquire 0 1 0 65535 ∷ four (grant_beat 0 0 0 0 (wide 5)) ++ grant_ack 0 0 ∷ get 1 0 4 65535 ∷ rest

abbrev pub shown_to_get : Trace 16 → Trace 16
shown_to_get rest = asked_beside_trunk (probe_to_trunk 0 ∷ four (shown_beat 0 (wide 9)) ++ rest)

abbrev pub given_to_get : Trace 16 → Trace 16
given_to_get rest = asked_beside_trunk (four (release_beat 0 1 (wide 9)) ++ rest)

-- ---- the first response whose bytes aren't true

abbrev pub is_fine : {w : ℕ} → ℕ → Link × Beat w → Trace w → Bool
is_fine n (link, Beat.D y) t = is_true y.opcode n link.0 y t
is_fine n (link, _) t = true

-- the place of the first beat whose bytes aren't true after those before it
unfoldable pub untrue_from : {w : ℕ} → ℕ → Trace w → Trace w → Option ℕ
untrue_from n before [] = None
untrue_from n before (x ∷ trace) = if is_fine n x before then untrue_from n (x ∷ before) trace else Some (length before)

abbrev pub untrue : {w : ℕ} → Trace w → Option ℕ
untrue trace = untrue_from 2 [] trace
