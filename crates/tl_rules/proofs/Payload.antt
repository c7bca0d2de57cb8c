-- The payload of a message, from its beats.
use Rattle.std.proofs.Common.{◌≡◌, ℕ, zero, suc, ◌+◌, ◌-◌, ◌*◌, ◌≤◌, Bool, true, false, List, [], ◌++◌, length, take}
use Rattle.std.proofs.Common.{refl, sym, ap, arith}
use Rattle.std.specs.Prelude.{replicate, unwrap_or, if◌then◌else◌}
use Rattle.std.proofs.Math.Seq.{take-add}
use Rattle.std.proofs.lemmas.List.{take-append-drop, length-take-le}
use Rattle.tl_beat.specs.statement.Width.{IsWidth}
use Rattle.tl_beat.specs.declared.beat.Beat.{Beat}
use Rattle.tl_beat.specs.statement.Opcode.{a_carries_data, c_carries_data, d_carries_data}
use Rattle.tl_burst.specs.declared.message.Message.TheVariants.{A, C, D}
use Rattle.tl_burst.specs.declared.message.MessageA.{MessageA}
use Rattle.tl_burst.specs.declared.message.MessageC.{MessageC}
use Rattle.tl_burst.specs.declared.message.MessageD.{MessageD}
use Rattle.tl_burst.specs.statement.Burst.{beats_of, begun, lanes_at, IsZeroFrom, IsBurst}
use Rattle.tl_rules.specs.statement.Admission.{bytes_carried, payload_of}
use Rattle.tl_rules.proofs.Checks.{beats_room}

-- the lanes of the first n beats
lanes_before : Bool → ℕ → List ℕ → ℕ → List ℕ
lanes_before carries w p zero = []
lanes_before carries w p (suc n) = lanes_before carries w p n ++ unwrap_or (lanes_at carries w p n) []

bytes_of_a : {w : ℕ} (m : MessageA w) (n : ℕ) → bytes_carried (begun (A m) n) ≡ lanes_before (a_carries_data m.opcode) w
    m.payload n
unfolding bytes_carried lanes_before
bytes_of_a m zero = refl
bytes_of_a {w} m (suc n) = ap (λ bytes. bytes ++ unwrap_or (lanes_at (a_carries_data m.opcode) w m.payload n) [])
    (bytes_of_a m n)

bytes_of_c : {w : ℕ} (m : MessageC w) (n : ℕ) → bytes_carried (begun (C m) n) ≡ lanes_before (c_carries_data m.opcode) w
    m.payload n
unfolding bytes_carried lanes_before
bytes_of_c m zero = refl
bytes_of_c {w} m (suc n) = ap (λ bytes. bytes ++ unwrap_or (lanes_at (c_carries_data m.opcode) w m.payload n) [])
    (bytes_of_c m n)

bytes_of_d : {w : ℕ} (m : MessageD w) (n : ℕ) → bytes_carried (begun (D m) n) ≡ lanes_before (d_carries_data m.opcode) w
    m.payload n
unfolding bytes_carried lanes_before
bytes_of_d m zero = refl
bytes_of_d {w} m (suc n) = ap (λ bytes. bytes ++ unwrap_or (lanes_at (d_carries_data m.opcode) w m.payload n) [])
    (bytes_of_d m n)

all_lanes : (w : ℕ) (p : List ℕ) (n : ℕ) → lanes_before true w p n ≡ take (w * n) p
unfolding lanes_before
all_lanes w p zero = let e : w * 0 ≡ 0 = omega arith in rw e refl
all_lanes w p (suc n) =
    let next : w * suc n ≡ w * n + w = omega arith in
    let wide : w * n + w - w * n ≡ w = omega arith in
    rw (next, all_lanes w p n, wide) (sym (take-add (w * n) w p))

no_lanes : (w : ℕ) (p : List ℕ) (n : ℕ) → lanes_before false w p n ≡ []
unfolding lanes_before
no_lanes w p zero = refl
no_lanes w p (suc n) = rw (no_lanes w p n) refl

payload_again : (carries : Bool) (w n : ℕ) (p : List ℕ) → length p ≡ 64 → w * n ≤ 64
    → IsZeroFrom (if carries then w * n else 0) p
    → lanes_before carries w p n ++ replicate (64 - length (lanes_before carries w p n)) 0 ≡ p
payload_again true w n p long room blank =
    rw (all_lanes w p n, length-take-le (w * n) p (omega arith), ← blank) (take-append-drop (w * n) p)
payload_again false w n p long room blank = rw (no_lanes w p n) (sym blank)

-- the payload of a message is what its beats carry
pub payload-a : {w : ℕ} (m : MessageA w) (beats : List (Beat w)) → IsWidth w → length m.payload ≡ 64
    → IsBurst (A m) beats → payload_of beats ≡ m.payload
payload-a {w} m beats width long burst =
    rw (burst.0, bytes_of_a m (beats_of (A m))) (payload_again (a_carries_data m.opcode) w (beats_of (A m)) m.payload
    long (beats_room (A m) width) burst.1.0)

pub payload-c : {w : ℕ} (m : MessageC w) (beats : List (Beat w)) → IsWidth w → length m.payload ≡ 64
    → IsBurst (C m) beats → payload_of beats ≡ m.payload
payload-c {w} m beats width long burst =
    rw (burst.0, bytes_of_c m (beats_of (C m))) (payload_again (c_carries_data m.opcode) w (beats_of (C m)) m.payload
    long (beats_room (C m) width) burst.1.0)

pub payload-d : {w : ℕ} (m : MessageD w) (beats : List (Beat w)) → IsWidth w → length m.payload ≡ 64
    → IsBurst (D m) beats → payload_of beats ≡ m.payload
payload-d {w} m beats width long burst =
    rw (burst.0, bytes_of_d m (beats_of (D m))) (payload_again (d_carries_data m.opcode) w (beats_of (D m)) m.payload
    long (beats_room (D m) width) burst.1.0)
