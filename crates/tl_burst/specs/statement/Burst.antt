-- The beats of a message: their number, and the part of the message in each.
use Rattle.std.specs.Prelude.{ℕ, zero, suc, Bool, true, false, List, [], ◌∷◌, ◌==◌, ◌&&◌, ◌+◌, ◌*◌, ◌-◌, ◌/◌, ◌%◌, ◌^◌}
use Rattle.std.specs.Prelude.{◌<◌, ◌≡◌, refl, if◌then◌else◌, drop}
use Rattle.std.specs.Prelude.{replicate, slice_range, slice_get, nat_lt, nat_le, Option, Some, None, is_some, ⊤}
use Rattle.tl_beat.specs.declared.beat.Beat.{Beat}
use Rattle.tl_beat.specs.declared.beat.Beat.TheVariants as beat
use Rattle.tl_beat.specs.declared.beat.BeatA.{BeatA}
use Rattle.tl_beat.specs.declared.beat.BeatB.{BeatB}
use Rattle.tl_beat.specs.declared.beat.BeatC.{BeatC}
use Rattle.tl_beat.specs.declared.beat.BeatD.{BeatD}
use Rattle.tl_beat.specs.statement.Opcode.{a_carries_data, b_carries_data, c_carries_data, d_carries_data}
use Rattle.tl_burst.specs.declared.message.Message.{Message}
use Rattle.tl_burst.specs.declared.message.Message.TheVariants as message
use Rattle.tl_burst.specs.declared.message.MessageA.{MessageA}
use Rattle.tl_burst.specs.declared.message.MessageB.{MessageB}
use Rattle.tl_burst.specs.declared.message.MessageC.{MessageC}
use Rattle.tl_burst.specs.declared.message.MessageD.{MessageD}

-- the number of beats of w bytes for a message with data of this size
abbrev pub data_beats : ℕ → ℕ → ℕ
data_beats w size = if nat_lt w (2 ^ size) then 2 ^ size / w else 1

-- the message carries data
abbrev pub carries_data : {w : ℕ} → Message w → Bool
carries_data (message.A m) = a_carries_data m.opcode
carries_data (message.B m) = b_carries_data m.opcode
carries_data (message.C m) = c_carries_data m.opcode
carries_data (message.D m) = d_carries_data m.opcode
carries_data (message.E m) = false

-- the number of beats of the message
abbrev pub beats_of : {w : ℕ} → Message w → ℕ
beats_of {w} (message.A m) = if a_carries_data m.opcode then data_beats w m.size else 1
beats_of {w} (message.B m) = if b_carries_data m.opcode then data_beats w m.size else 1
beats_of {w} (message.C m) = if c_carries_data m.opcode then data_beats w m.size else 1
beats_of {w} (message.D m) = if d_carries_data m.opcode then data_beats w m.size else 1
beats_of {w} (message.E m) = 1

-- bit i of a number
abbrev pub bit : ℕ → ℕ → Bool
bit n i = n / 2 ^ i % 2 == 1

-- the lanes of beat i, if its message carries data
abbrev pub lanes_at : Bool → ℕ → List ℕ → ℕ → Option (List ℕ)
lanes_at true w payload i = Some (slice_range payload (w * i) (w * i + w))
lanes_at false w payload i = None

-- the mask of beat i: the w bits of the message's mask from bit w * i on
abbrev pub mask_at : ℕ → ℕ → ℕ → ℕ
mask_at w mask i = mask / 2 ^ (w * i) % 2 ^ w

-- a beat has lanes exactly if its message carries data
unfoldable pub some_lanes : (carries : Bool) (w : ℕ) (payload : List ℕ) (i : ℕ)
    → is_some (lanes_at carries w payload i) ≡ carries
some_lanes true w payload i = refl
some_lanes false w payload i = refl

-- Beat i of a message on channel A: its control fields, bytes w * i to w * i + w - 1 of its payload, the same bits of
-- its mask, and bit i of corrupt.
abbrev pub a_beat_of : {w : ℕ} → MessageA w → ℕ → BeatA w
a_beat_of {w} m i = record {
  opcode = m.opcode;
  param = m.param;
  size = m.size;
  source = m.source;
  address = m.address;
  mask = mask_at w m.mask i;
  lanes = lanes_at (a_carries_data m.opcode) w m.payload i;
  corrupt = bit m.corrupt i;
  carries = some_lanes (a_carries_data m.opcode) w m.payload i;
}

-- beat i of a message on channel B
abbrev pub b_beat_of : {w : ℕ} → MessageB w → ℕ → BeatB w
b_beat_of {w} m i = record {
  opcode = m.opcode;
  param = m.param;
  size = m.size;
  source = m.source;
  address = m.address;
  mask = mask_at w m.mask i;
  lanes = lanes_at (b_carries_data m.opcode) w m.payload i;
  corrupt = bit m.corrupt i;
  carries = some_lanes (b_carries_data m.opcode) w m.payload i;
}

-- beat i of a message on channel C
abbrev pub c_beat_of : {w : ℕ} → MessageC w → ℕ → BeatC w
c_beat_of {w} m i = record {
  opcode = m.opcode;
  param = m.param;
  size = m.size;
  source = m.source;
  address = m.address;
  lanes = lanes_at (c_carries_data m.opcode) w m.payload i;
  corrupt = bit m.corrupt i;
  carries = some_lanes (c_carries_data m.opcode) w m.payload i;
}

-- beat i of a message on channel D
abbrev pub d_beat_of : {w : ℕ} → MessageD w → ℕ → BeatD w
d_beat_of {w} m i = record {
  opcode = m.opcode;
  param = m.param;
  size = m.size;
  source = m.source;
  sink = m.sink;
  denied = m.denied;
  lanes = lanes_at (d_carries_data m.opcode) w m.payload i;
  corrupt = bit m.corrupt i;
  carries = some_lanes (d_carries_data m.opcode) w m.payload i;
}

-- beat i of a message
abbrev pub beat_of : {w : ℕ} → Message w → ℕ → Beat w
beat_of (message.A m) i = beat.A (a_beat_of m i)
beat_of (message.B m) i = beat.B (b_beat_of m i)
beat_of (message.C m) i = beat.C (c_beat_of m i)
beat_of (message.D m) i = beat.D (d_beat_of m i)
beat_of (message.E m) i = beat.E (record { sink = m.sink })

-- the first n beats of the message, the newest first
abbrev pub begun : {w : ℕ} → Message w → ℕ → List (Beat w)
begun m zero = []
begun m (suc i) = beat_of m i ∷ begun m i

-- all beats of the message, the newest first
abbrev pub burst_of : {w : ℕ} → Message w → List (Beat w)
burst_of m = begun m (beats_of m)

-- the number of bytes of the payload that the beats carry
abbrev pub carried : {w : ℕ} → Message w → ℕ
carried {w} m = if carries_data m then w * beats_of m else 0

-- each byte of the payload from byte n on is zero
abbrev pub IsZeroFrom : ℕ → List ℕ → Type 0
IsZeroFrom n payload = drop n payload ≡ replicate (64 - n) 0

-- the parts of the message that its first n beats don't carry are zero
abbrev pub IsBlankAfter : {w : ℕ} → ℕ → Message w → Type 0
IsBlankAfter {w} n (message.A m) = IsZeroFrom (if a_carries_data m.opcode then w * n else 0) m.payload
    × (m.mask < 2 ^ (w * n)) × (m.corrupt < 2 ^ n)
IsBlankAfter {w} n (message.B m) = IsZeroFrom (if b_carries_data m.opcode then w * n else 0) m.payload
    × (m.mask < 2 ^ (w * n)) × (m.corrupt < 2 ^ n)
IsBlankAfter {w} n (message.C m) = IsZeroFrom (if c_carries_data m.opcode then w * n else 0) m.payload
    × (m.corrupt < 2 ^ n)
IsBlankAfter {w} n (message.D m) = IsZeroFrom (if d_carries_data m.opcode then w * n else 0) m.payload
    × (m.corrupt < 2 ^ n)
IsBlankAfter n (message.E m) = ⊤

-- these are the beats of the message, the newest first, and the parts that no beat carries are zero
abbrev pub IsBurst : {w : ℕ} → Message w → List (Beat w) → Type 0
IsBurst m beats = (beats ≡ burst_of m) × IsBlankAfter (beats_of m) m

-- the place in the payload of the byte at an address, for a message at address `base`
abbrev pub place_of : ℕ → ℕ → ℕ → Option ℕ
place_of w base address = if nat_le (w * (base / w)) address then Some (address - w * (base / w)) else None

-- the payload's byte at a place, if the test is true of that place
abbrev pub byte_if : (ℕ → Bool) → List ℕ → Option ℕ → Option ℕ
byte_if counts payload None = None
byte_if counts payload (Some p) = if counts p then slice_get payload p else None

-- the address is one of the 2^size from `base` on
abbrev pub reaches : ℕ → ℕ → ℕ → Bool
reaches base size address = nat_le base address && nat_lt address (base + 2 ^ size)

-- the byte that the message carries for an address, if it carries one. `asked` is the address of the request that a
-- message of channel D answers.
abbrev pub byte_at : {w : ℕ} → ℕ → Message w → ℕ → Option ℕ
byte_at {w} asked (message.A m) address = if a_carries_data m.opcode then byte_if (λ p. bit m.mask p) m.payload
    (place_of w m.address address) else None
byte_at {w} asked (message.B m) address = if b_carries_data m.opcode then byte_if (λ p. bit m.mask p) m.payload
    (place_of w m.address address) else None
byte_at {w} asked (message.C m) address =
    if c_carries_data m.opcode then byte_if (λ p. reaches m.address m.size address) m.payload
    (place_of w m.address address) else None
byte_at {w} asked (message.D m) address =
    if d_carries_data m.opcode then byte_if (λ p. reaches asked m.size address) m.payload (place_of w asked address)
    else None
byte_at asked (message.E m) address = None
