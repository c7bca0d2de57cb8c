-- The messages that a manager hands out break no L rule.
use Rattle.tl_manager.proofs.Imports.{IsWidth, Link, OpA, OpD, Message, A, D, MessageA, MessageD, beats_of, beat_of}
use Rattle.tl_manager.proofs.Imports.{IsZeroFrom, Config, Level, Cap, Memory, answer_of, bytes_from, block_at}
use Rattle.tl_manager.proofs.Imports.{is_acquire, a_of_level, a_has_size, cap_code, access_answer, release_ack}
use Rattle.tl_manager.proofs.Imports.{grant_opcode, probe_of_block, IsSound, HasBlock, Service, is_access_answer}
use Rattle.tl_manager.proofs.Imports.{is_from_client, level_of}
use Rattle.std.proofs.Common.{◌≡◌, ℕ, ◌*◌, ◌-◌, ◌/◌, ◌%◌, ◌^◌, ◌<◌, Bool, true, false, ◌&&◌, List, Some, None, refl}
use Rattle.std.proofs.Common.{◌∙◌, arith, inl, inr}
use Rattle.std.{specs.Prelude.nat_le, specs.Prelude.length, specs.Prelude.if◌then◌else◌, proofs.Math.Nat.zero-div}
use Rattle.std.{proofs.lemmas.Bool.le-leb, proofs.lemmas.Nat.pow_pos, specs.Option.option_or}
use Rattle.tl_beat.{specs.statement.Opcode.d_carries_data, specs.declared.opcode.OpB.OpB}
use Rattle.tl_burst.specs.statement.Burst.{bit, mask_at, data_beats, IsBlankAfter}
use Rattle.tl_rules.specs.code.Control.{d_control, d_own, b_control}
use Rattle.tl_rules.specs.statement.Effect.{access_result, as_payload, byte_count}
use Rattle.tl_rules.specs.statement.Legality.{access_has_size, d_of_level, d_has_param, d_has_sink, d_has_size}
use Rattle.tl_rules.specs.statement.Legality.{is_full_mask, each_below}
use Rattle.tl_rules.proofs.Verdicts.{illegal_b, illegal_d}
use Rattle.tl_manager.specs.statement.Handing.{answer_with, grant_payload, grant_with}
use Rattle.tl_manager.specs.code.Kept.{IsClean}
use Rattle.tl_manager.proofs.messages.Filled.{length-bytes, room_in_beats, data_room, payload-long, payload-zero}
use Rattle.tl_manager.proofs.messages.Filled.{block-zero}

-- a message of a channel on which the manager sends, whose beats are sound, and that is clean
pub record IsHandable {w : ℕ} (config : Config) (x : Link × Message w) : Type 0 where
  pub ours : is_from_client (beat_of x.1 0) ≡ false
  pub beats : (i : ℕ) → i < beats_of x.1 → IsSound config (x.0, beat_of x.1 i)
  pub clean : IsClean x.1
  pub filled : HasBlock x.1
  pub blank : IsBlankAfter (beats_of x.1) x.1

pub no_bit : (i : ℕ) → bit 0 i ≡ false
no_bit i = rw zero-div refl

-- ---- on channel D

d_lawful : (w : ℕ) (l : Level) (opcode : OpD) (param size sink : ℕ) (corrupt : Bool) → d_of_level l opcode ≡ true
    → (d_has_param opcode param && d_has_sink opcode sink) ≡ true
    → d_has_size w l opcode size ≡ true → corrupt ≡ false
    → option_or (d_control w l opcode param size sink) (d_own opcode false corrupt) ≡ None
d_lawful w l opcode param size sink corrupt of_level params sized clean = rw (of_level, params, sized, clean) refl

-- a message of channel D that is clean and breaks no L rule by its control fields
d_handable : {w : ℕ} (config : Config) (link : Link) (l : Level) (m : MessageD w) → level_of config link.0 ≡ Some l
    → d_of_level l m.opcode ≡ true
    → (d_has_param m.opcode m.param && d_has_sink m.opcode m.sink) ≡ true → d_has_size w l m.opcode m.size ≡ true
    → m.corrupt ≡ 0 → m.denied ≡ false → length m.payload ≡ 64
    → IsZeroFrom (if d_carries_data m.opcode then w * beats_of (D m) else 0) m.payload → IsHandable config (link, D m)
d_handable {w} config link l m has_level of_level params sized corrupt denied long zero = record {
  ours = refl;
  beats = λ i lt. record {
    lawful = rw has_level (illegal_d l _ ∙ rw (corrupt, denied) (d_lawful w l m.opcode m.param m.size m.sink (bit 0 i)
        of_level params sized (no_bit i)));
    inside = refl;
    clean = rw (corrupt, denied, no_bit i) refl;
    typed = tt;
  };
  clean = (corrupt, denied);
  filled = long;
  blank = (zero, rw corrupt (pow_pos (beats_of (D m))));
}

-- ---- answers to accesses

answer_params : (opcode : OpD) → is_access_answer opcode ≡ true → (d_has_param opcode 0 && d_has_sink opcode 0) ≡ true
answer_params OpD.AccessAck e = refl
answer_params OpD.AccessAckData e = refl
answer_params OpD.HintAck e = refl
answer_params v e = absurd cc

answer_size : (w : ℕ) (l : Level) (opcode : OpD) (size : ℕ) → is_access_answer opcode ≡ true
    → access_has_size w l size ≡ true → d_has_size w l opcode size ≡ true
answer_size w l OpD.AccessAck size e sized = sized
answer_size w l OpD.AccessAckData size e sized = sized
answer_size w l OpD.HintAck size e sized = sized
answer_size w l v size e sized = absurd cc

answer_handable : {w : ℕ} (config : Config) (link : Link) (l : Level) (opcode : OpD) (payload : List ℕ) (m : MessageA w)
    → level_of config link.0 ≡ Some l → is_access_answer opcode ≡ true
    → d_of_level l opcode ≡ true → access_has_size w l m.size ≡ true
    → length payload ≡ 64 → IsZeroFrom
    (if d_carries_data opcode then w * (if d_carries_data opcode then data_beats w m.size else 1) else 0) payload
    → IsHandable config (link, answer_with opcode payload m)
answer_handable {w} config link l opcode payload m has_level e of_level sized long zero =
    d_handable config link l (record {
      opcode = opcode;
      param = 0;
      size = m.size;
      source = m.source;
      sink = 0;
      denied =
          false;
      payload = payload;
      corrupt = 0;
      small = m.small;
    })
    has_level of_level (answer_params opcode e) (answer_size w l opcode m.size e sized) refl refl long zero

acked : (l : Level) → d_of_level l OpD.AccessAck ≡ true
acked Level.UL = refl
acked v = refl

acked_with_data : (l : Level) → d_of_level l OpD.AccessAckData ≡ true
acked_with_data Level.UL = refl
acked_with_data v = refl

-- the bytes that an aligned request reaches
data_handable : {w : ℕ} (config : Config) (link : Link) (l : Level) (m : MessageA w) (memory : Memory) → IsWidth w
    → m.address % 2 ^ m.size ≡ 0 → level_of config link.0 ≡ Some l
    → access_has_size w l m.size ≡ true
    → IsHandable config (
      link,
      answer_with OpD.AccessAckData
          (as_payload (m.address % w) (bytes_from memory m.address (byte_count m))) m,
    )
data_handable {w} config link l m memory width aligned has_level sized =
    let bytes = bytes_from memory m.address (byte_count m) in
    let long = length-bytes memory m.address (byte_count m) in
    let carried = room_in_beats w m.size m.address width m.small aligned in
    let room = data_room w m.size width m.small in
    answer_handable config link l OpD.AccessAckData
    (as_payload (m.address % w) (bytes_from memory m.address (byte_count m))) m has_level refl (acked_with_data l)
    sized
    (payload-long (m.address % w) (2 ^ m.size) (bytes_from memory m.address (byte_count m)) long
    (omega (arith, carried, room)))
    (payload-zero (m.address % w) (2 ^ m.size) (w * data_beats w m.size) (bytes_from memory m.address (byte_count m))
    long carried room)

hinted : (l : Level) → a_of_level l OpA.Intent ≡ true → d_of_level l OpD.HintAck ≡ true
hinted Level.UL e = absurd cc
hinted v e = refl

-- an atomic isn't of the level UL
above_ul : {w : ℕ} (l : Level) (opcode : OpA) (m : MessageA w) → a_of_level Level.UL opcode ≡ false
    → a_of_level l opcode ≡ true → access_has_size w l m.size ≡ true
above_ul Level.UL opcode m not_ul e = absurd cc
above_ul v opcode m not_ul e = le-leb m.size 6 m.small

pub access_handable : {w : ℕ} (config : Config) (link : Link) (l : Level) (opcode : OpA) (m : MessageA w)
    (memory : Memory) → IsWidth w → m.address % 2 ^ m.size ≡ 0
    → level_of config link.0 ≡ Some l → is_acquire opcode ≡ false → a_of_level l opcode ≡ true
    → a_has_size w l opcode m.size ≡ true
    → IsHandable config (link, access_answer m (answer_of (A m) (access_result opcode m memory)))
access_handable config link l OpA.PutFullData m memory width aligned has_level access of_level sized =
    answer_handable config link l OpD.AccessAck _ m has_level refl (acked l) sized refl refl
access_handable config link l OpA.PutPartialData m memory width aligned has_level access of_level sized =
    answer_handable config link l OpD.AccessAck _ m has_level refl (acked l) sized refl refl
access_handable config link l OpA.ArithmeticData m memory width aligned has_level access of_level sized =
    data_handable config link l m memory width aligned has_level (above_ul l OpA.ArithmeticData m refl of_level)
access_handable config link l OpA.LogicalData m memory width aligned has_level access of_level sized =
    data_handable config link l m memory width aligned has_level (above_ul l OpA.LogicalData m refl of_level)
access_handable config link l OpA.Get m memory width aligned has_level access of_level sized =
    data_handable config link l m memory width aligned has_level sized
access_handable config link l OpA.Intent m memory width aligned has_level access of_level sized =
    answer_handable config link l OpD.HintAck _ m has_level refl (hinted l of_level) sized refl refl
access_handable config link l v m memory width aligned has_level access of_level sized = absurd cc

-- ---- answers to transfers

pub acquire_level : (l : Level) (opcode : OpA) → is_acquire opcode ≡ true → a_of_level l opcode ≡ true → l ≡ Level.C
acquire_level Level.UL OpA.AcquireBlock e of_level = absurd cc
acquire_level Level.UL OpA.AcquirePerm e of_level = absurd cc
acquire_level Level.UH OpA.AcquireBlock e of_level = absurd cc
acquire_level Level.UH OpA.AcquirePerm e of_level = absurd cc
acquire_level Level.C opcode e of_level = refl
acquire_level l OpA.PutFullData e of_level = absurd cc
acquire_level l OpA.PutPartialData e of_level = absurd cc
acquire_level l OpA.ArithmeticData e of_level = absurd cc
acquire_level l OpA.LogicalData e of_level = absurd cc
acquire_level l OpA.Get e of_level = absurd cc
acquire_level l OpA.Intent e of_level = absurd cc

granted_params : (with_data : Bool) (c : Cap) (sink : ℕ)
    → (d_has_param (grant_opcode with_data) (cap_code c) && d_has_sink (grant_opcode with_data) sink) ≡ true
granted_params true Cap.ToT sink = refl
granted_params true Cap.ToB sink = refl
granted_params true Cap.ToN sink = refl
granted_params false Cap.ToT sink = refl
granted_params false Cap.ToB sink = refl
granted_params false Cap.ToN sink = refl

granted_size : (w : ℕ) (with_data : Bool) → d_has_size w Level.C (grant_opcode with_data) 6 ≡ true
granted_size w true = refl
granted_size w false = refl

grant_filled : (w : ℕ) (with_data : Bool) (memory : Memory) (block : ℕ) → IsWidth w
    → (length (grant_payload with_data memory block) ≡ 64)
    × IsZeroFrom (if d_carries_data (grant_opcode with_data) then w * (if d_carries_data (grant_opcode with_data) then
    data_beats w 6 else 1) else 0) (grant_payload with_data memory block)
grant_filled w true memory block width = (length-bytes memory (64 * block) 64, block-zero w memory (64 * block) width)
grant_filled w false memory block width = (refl, refl)

pub grant_handable : {w : ℕ} (config : Config) (s : Service w) (c : Cap) (with_data : Bool) (memory : Memory)
    → IsWidth w → level_of config s.link.0 ≡ Some Level.C
    → IsHandable config (s.link, grant_with s c with_data memory)
grant_handable {w} config s c with_data memory width has_level =
    let filled = grant_filled w with_data memory (block_at s.request.address) width in
    d_handable config s.link Level.C _ has_level refl (granted_params with_data c s.tracker) (granted_size w with_data)
    refl refl filled.0 filled.1

pub release_handable : {w : ℕ} (config : Config) (link : Link) (source : ℕ) → level_of config link.0 ≡ Some Level.C
    → IsHandable {w = w} config (link, release_ack source)
release_handable config link source has_level = d_handable config link Level.C _ has_level refl refl refl refl refl refl
    refl

-- ---- Probes

full_mask : (w address : ℕ) → IsWidth w → is_full_mask w 6 address (mask_at w (2 ^ w - 1) 0) ≡ true
unfolding each_below
full_mask w address (inl e) = rw e refl
full_mask w address (inr (inl e)) = rw e refl
full_mask w address (inr (inr e)) = rw e refl

probe_control : (c : Cap) (address : ℕ) → address % 64 ≡ 0
    → b_control Level.C OpB.ProbeBlock (cap_code c) 6 0 address ≡ None
probe_control Cap.ToT address e = rw e refl
probe_control v address e = rw e refl

pub probe_handable : {w : ℕ} (config : Config) (client block : ℕ) (c : Cap) → IsWidth w
    → level_of config client ≡ Some Level.C
    → nat_le config.blocks block ≡ false → IsHandable {w = w} config (record { 0 = client }, probe_of_block block c)
probe_handable {w} config client block c width has_level inside =
    let aligned : 64 * block % 64 ≡ 0 = omega arith in
    let same : 64 * block / 64 ≡ block = omega arith in
    record {
      ours = refl;
      beats = λ i lt.
          let first : i ≡ 0 = omega arith in
          rw first (record {
            lawful = rw has_level (illegal_b Level.C _ ∙ rw (
              probe_control c (64 * block) aligned,
              full_mask w
                  (64 * block) width,
            ) refl);
            inside = rw same inside;
            clean = no_bit 0;
            typed = tt;
          });
      clean = refl;
      filled = refl;
      blank = (refl, narrow w width, omega arith);
    }
  where
    narrow : (n : ℕ) → IsWidth n → 2 ^ n - 1 < 2 ^ (n * 1)
    narrow n is = elim is [
      | inl n_is ↦ rw n_is (omega arith)
      | inr more ↦ elim more
          [ inl n_is ↦ rw n_is (omega arith) | inr n_is ↦ rw n_is (omega arith) ]
    ]
