-- Messages of 64 bytes have typed beats, and typed beats a payload of 64 bytes.
use Rattle.std.proofs.Common.{◌≡◌, ℕ, suc, ◌+◌, ◌-◌, ◌*◌, ◌/◌, ◌%◌, ◌^◌, ◌<◌, ◌≤◌, Bool, true, false, List, [], ◌∷◌}
use Rattle.std.proofs.Common.{◌++◌, length, Option, Some, None, unwrap_or, ◌∙◌, ap, arith, inl, inr}
use Rattle.std.specs.Prelude.{IfSome, replicate, drop}
use Rattle.std.proofs.lemmas.List.{length-append, length-replicate, length-take-le, length-drop}
use Rattle.tl_beat.specs.statement.Width.{IsWidth}
use Rattle.tl_beat.specs.declared.beat.Beat.{Beat}
use Rattle.tl_beat.specs.declared.beat.Beat.TheVariants as beat
use Rattle.tl_beat.specs.statement.Opcode.{a_carries_data, b_carries_data, c_carries_data, d_carries_data}
use Rattle.tl_burst.specs.declared.message.Message.{Message}
use Rattle.tl_burst.specs.declared.message.Message.TheVariants.{A, B, C, D, E}
use Rattle.tl_burst.specs.statement.Burst.{beats_of, beat_of, lanes_at}
use Rattle.tl_burst.proofs.Lanes.{within_payload}
use Rattle.tl_rules.specs.statement.Admission.{lanes_of, bytes_carried, payload_of}
use Rattle.tl_rules.specs.laws.Typed.{IsTyped, AreTyped, HasBlock}

-- ---- the beats of a message

whole_lanes : (carries : Bool) (w : ℕ) (payload : List ℕ) (i : ℕ) → length payload ≡ 64 → w * i + w ≤ 64
    → IfSome (lanes_at carries w payload i) (λ lanes. length lanes ≡ w)
whole_lanes false w payload i long room = tt
whole_lanes true w payload i long room =
    let wide : w * i + w - w * i ≡ w = omega arith in
    let behind : length (drop (w * i) payload) ≡ 64 - w * i = length-drop (w * i) payload ∙ ap (λ n. n - w * i) long in
    rw wide (length-take-le w (drop (w * i) payload) (omega (arith, behind)))

mask_fits : (w n : ℕ) → IsWidth w → n % 2 ^ w < 2 ^ 16
mask_fits w n (inl e) = rw e (omega arith)
mask_fits w n (inr (inl e)) = rw e (omega arith)
mask_fits w n (inr (inr e)) = rw e (omega arith)

pub typed-beat : {w : ℕ} (m : Message w) (i : ℕ) → IsWidth w → HasBlock m → i < beats_of m → IsTyped (beat_of m i)
typed-beat {w} (A m) i is long lt = (
  mask_fits w (m.mask / 2 ^ (w * i)) is,
  whole_lanes (a_carries_data m.opcode) w m.payload i long
      (within_payload (A m) i is lt),
)
typed-beat {w} (B m) i is long lt = (
  mask_fits w (m.mask / 2 ^ (w * i)) is,
  whole_lanes (b_carries_data m.opcode) w m.payload i long
      (within_payload (B m) i is lt),
)
typed-beat {w} (C m) i is long lt = whole_lanes (c_carries_data m.opcode) w m.payload i long
    (within_payload (C m) i is lt)
typed-beat {w} (D m) i is long lt = whole_lanes (d_carries_data m.opcode) w m.payload i long
    (within_payload (D m) i is lt)
typed-beat (E m) i is long lt = tt

-- ---- the payload of beats

some_lanes : (w : ℕ) (o : Option (List ℕ)) → IfSome o (λ lanes. length lanes ≡ w) → length (unwrap_or o []) ≤ w
some_lanes w None typed = omega arith
some_lanes w (Some lanes) typed = omega (arith, typed)

few_lanes : {w : ℕ} (x : Beat w) → IsTyped x → length (lanes_of x) ≤ w
few_lanes {w} (beat.A x) typed = some_lanes w x.lanes typed.1
few_lanes {w} (beat.B x) typed = some_lanes w x.lanes typed.1
few_lanes {w} (beat.C x) typed = some_lanes w x.lanes typed
few_lanes {w} (beat.D x) typed = some_lanes w x.lanes typed
few_lanes (beat.E x) typed = omega arith

few_bytes : {w : ℕ} (beats : List (Beat w)) → AreTyped beats → length (bytes_carried beats) ≤ w * length beats
unfolding bytes_carried
few_bytes [] typed = omega arith
few_bytes {w} (x ∷ beats) typed =
    let next : w * suc (length beats) ≡ w * length beats + w = omega arith in
    let both : length (bytes_carried beats ++ lanes_of x) ≡ length (bytes_carried beats) + length (lanes_of x) =
    length-append (bytes_carried beats) (lanes_of x) in
    omega (arith, next, both, few_bytes beats typed.1, few_lanes x typed.0)

pub payload-long : {w : ℕ} (beats : List (Beat w)) → AreTyped beats → w * length beats ≤ 64
    → length (payload_of beats) ≡ 64
payload-long beats typed room =
    let few = few_bytes beats typed in
    let zeros : length {A = ℕ} (replicate (64 - length (bytes_carried beats)) 0) ≡ 64 - length (bytes_carried beats) =
    length-replicate (64 - length (bytes_carried beats)) 0 in
    omega (
      arith,
      few,
      room,
      zeros,
      length-append (bytes_carried beats)
          (replicate (64 - length (bytes_carried beats)) 0),
    )
