-- What is made of the beats of a message is the message again.
use Rattle.tl_manager.proofs.Imports.{IsWidth, Beat, BeatA, OpA, A, MessageA, a_beat_of, beats_of, begun, IsBurst}
use Rattle.tl_manager.proofs.Imports.{beats-positive, payload_of, masks_carried, corrupt_carried, request_if}
use Rattle.tl_manager.proofs.Imports.{request_carried}
use Rattle.std.proofs.Common.{◌≡◌, ℕ, zero, suc, ◌+◌, ◌*◌, ◌/◌, ◌%◌, ◌^◌, ◌<◌, ◌≤◌, ◌==◌, Bool, true, false, List}
use Rattle.std.proofs.Common.{length, Some, refl, ap, subst, ◌∙◌, arith}
use Rattle.std.{specs.Prelude.nat_le, specs.Prelude.if◌then◌else◌, proofs.Math.Bridge.le_prop}
use Rattle.std.{proofs.Math.Nat.mod-eq_of_lt, proofs.lemmas.Bool.le-leb, proofs.lemmas.Bool.leb-true}
use Rattle.std.{proofs.lemmas.Nat.mod-pow-add}
use Rattle.tl_burst.proofs.Begun.{length-begun}
use Rattle.tl_rules.proofs.Payload.{payload-a}

-- ---- masks and corrupt bits

masks_of_a : {w : ℕ} (m : MessageA w) (n : ℕ) → masks_carried (begun (A m) n) ≡ m.mask % 2 ^ (w * n)
unfolding masks_carried
masks_of_a {w} m zero = let e : w * 0 ≡ 0 = omega arith in rw e (omega arith)
masks_of_a {w} m (suc n) =
    let next : w * suc n ≡ w + w * n = omega arith in
    rw (next, length-begun (A m) n, masks_of_a m n) (omega (arith, mod-pow-add m.mask w (w * n)))

one_digit : (d : ℕ) → d < 2 → (if d == 1 then 1 else 0) ≡ d
one_digit zero lt = refl
one_digit (suc zero) lt = refl
one_digit (suc (suc d)) lt = absurd (omega arith)

corrupt_of_a : {w : ℕ} (m : MessageA w) (n : ℕ) → corrupt_carried (begun (A m) n) ≡ m.corrupt % 2 ^ n
unfolding corrupt_carried
corrupt_of_a m zero = omega arith
corrupt_of_a m (suc n) =
    let next : suc n ≡ 1 + n = omega arith in
    rw (next, length-begun (A m) n, corrupt_of_a m n, one_digit (m.corrupt / 2 ^ n % 2) (omega arith))
    (omega (arith, mod-pow-add m.corrupt 1 n))

-- ---- requests

abbrev Fields : Type 0
Fields = OpA × ℕ × ℕ × ℕ × ℕ × (List ℕ) × ℕ × ℕ

abbrev made : (w : ℕ) (x : Fields) → x.2 ≤ 6 → MessageA w
made w x h = record {
  opcode = x.0;
  param = x.1;
  size = x.2;
  source = x.3;
  address = x.4;
  payload = x.5;
  mask =
      x.6;
  corrupt = x.7;
  small = h;
}

same_made : (w : ℕ) (x y : Fields) (h : x.2 ≤ 6) (k : y.2 ≤ 6) → x ≡ y → made w x h ≡ made w y k
same_made w x y h k e = subst (λ (z : Fields). (l : z.2 ≤ 6) → made w x h ≡ made w z l) e
    (λ l. ap (made w x) (le_prop h l)) k

request_whole : {w : ℕ} (m : MessageA w) (x : BeatA w) (beats : List (Beat w)) (k : ℕ) (fits : Bool)
    (e : nat_le m.size 6 ≡ fits) → fits ≡ true → payload_of beats ≡ m.payload
    → masks_carried beats ≡ m.mask → corrupt_carried beats ≡ m.corrupt
    → request_if (a_beat_of m k) beats fits e ≡ Some m
request_whole m x beats k false e some payload masks corrupt = absurd cc
request_whole {w} m x beats k true e some payload masks corrupt =
    let mine : Fields = (
      m.opcode,
      m.param,
      m.size,
      m.source,
      m.address,
      payload_of beats,
      masks_carried beats,
      corrupt_carried beats,
    ) in
    let theirs : Fields = (m.opcode, m.param, m.size, m.source, m.address, m.payload, m.mask, m.corrupt) in
    let same : mine ≡ theirs = rw (payload, masks, corrupt) refl in
    ap Some (same_made w mine theirs (leb-true m.size 6 e) m.small same)

request_of_beats : {w : ℕ} (m : MessageA w) (n : ℕ) → 0 < n → payload_of (begun (A m) n) ≡ m.payload
    → masks_carried (begun (A m) n) ≡ m.mask → corrupt_carried (begun (A m) n) ≡ m.corrupt
    → request_carried (begun (A m) n) ≡ Some m
unfolding request_carried
request_of_beats m zero some payload masks corrupt = absurd (omega arith)
request_of_beats m (suc k) some payload masks corrupt = request_whole m (a_beat_of m k) (begun (A m) (suc k)) k
    (nat_le m.size 6) refl (le-leb m.size 6 m.small) payload masks corrupt

-- the request that has the beats of a message is that message
pub request-again : {w : ℕ} (m : MessageA w) (beats : List (Beat w)) → IsWidth w → length m.payload ≡ 64
    → IsBurst (A m) beats → request_carried beats ≡ Some m
request-again {w} m beats width long burst =
    let n = beats_of (A m) in
    ap request_carried burst.0
    ∙ request_of_beats m n (beats-positive (A m) width) (payload-a m (begun (A m) n) width long (refl, burst.1))
    (masks_of_a m n ∙ mod-eq_of_lt burst.1.1) (corrupt_of_a m n ∙ mod-eq_of_lt burst.1.2)
