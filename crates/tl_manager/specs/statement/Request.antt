-- The request that beats of channel A make up.
use Rattle.std.specs.Prelude.{ℕ, Bool, true, false, List, [], ◌∷◌, ◌+◌, ◌*◌, ◌^◌, ◌≡◌, refl, if◌then◌else◌, length}
use Rattle.std.specs.Prelude.{nat_le, Option, Some, None}
use Rattle.std.proofs.lemmas.Bool.{leb-true}
use Rattle.tl_beat.specs.declared.beat.Beat.{Beat}
use Rattle.tl_beat.specs.declared.beat.Beat.TheVariants as beat
use Rattle.tl_beat.specs.declared.beat.BeatA.{BeatA}
use Rattle.tl_burst.specs.declared.message.MessageA.{MessageA}
use Rattle.tl_rules.specs.statement.Admission.{payload_of}

-- the mask of a beat of channel A
abbrev pub mask_of : {w : ℕ} → Beat w → ℕ
mask_of (beat.A x) = x.mask
mask_of _ = 0

-- 1 if the beat is corrupt, otherwise 0
abbrev pub corrupt_of : {w : ℕ} → Beat w → ℕ
corrupt_of (beat.A x) = if x.corrupt then 1 else 0
corrupt_of _ = 0

-- the mask of the message with these beats, the newest first
unfoldable pub masks_carried : {w : ℕ} → List (Beat w) → ℕ
masks_carried [] = 0
masks_carried {w} (x ∷ beats) = masks_carried beats + mask_of x * 2 ^ (w * length beats)

-- the corrupt bits of the message with these beats, the newest first
unfoldable pub corrupt_carried : {w : ℕ} → List (Beat w) → ℕ
corrupt_carried [] = 0
corrupt_carried (x ∷ beats) = corrupt_carried beats + corrupt_of x * 2 ^ length beats

-- the request with these beats, if its size is at most a block
abbrev pub request_if : {w : ℕ} (x : BeatA w) → List (Beat w) → (fits : Bool) → nat_le x.size 6 ≡ fits
    → Option (MessageA w)
request_if x beats false fits = None
request_if x beats true fits = Some (record {
  opcode = x.opcode;
  param = x.param;
  size = x.size;
  source = x.source;
  address = x.address;
  payload = payload_of beats;
  mask = masks_carried beats;
  corrupt = corrupt_carried beats;
  small = leb-true x.size 6 fits;
})

-- The request with these beats, the newest first: their control fields, which they share, and the lanes, masks and
-- corrupt bits of all of them. There is none for a size above 6.
unfoldable pub request_carried : {w : ℕ} → List (Beat w) → Option (MessageA w)
request_carried (beat.A x ∷ beats) = request_if x (beat.A x ∷ beats) (nat_le x.size 6) refl
request_carried _ = None
