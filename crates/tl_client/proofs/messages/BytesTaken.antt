-- The payload of a response is a block's bytes.
use Rattle.tl_client.proofs.Imports.{IsWidth, Beat, BeatD, OpD, d_carries_data, History, breaks_burst, same_control}
use Rattle.tl_client.proofs.Imports.{unfinished, Profile, S1, payload_of, broken_in_order, ends, next_rule}
use Rattle.std.proofs.Common.{◌≡◌, ℕ, suc, ◌+◌, ◌*◌, ◌<◌, ◌≤◌, true, false, cond, List, [], ◌∷◌, length, None, refl}
use Rattle.std.proofs.Common.{sym, ap₂, arith}
use Rattle.std.proofs.lemmas.Bool.{not-false, eqb-true, eq-eqb, both_ways}
use Rattle.tl_beat.specs.declared.beat.Beat.TheVariants as beat
use Rattle.tl_beat.specs.declared.channel.Channel.TheVariants as channel
use Rattle.tl_burst.specs.statement.Burst.{data_beats}
use Rattle.tl_burst.specs.statement.Messages.{burst_length}
use Rattle.tl_burst.proofs.ControlFields.{control_d}
use Rattle.tl_burst.proofs.Splitting.{some_data_beats}
use Rattle.tl_rules.specs.laws.Typed.{IsTyped, AreTyped}
use Rattle.tl_rules.proofs.Checks.{data_room}
use Rattle.tl_rules.proofs.Typed.{payload-long}
use Rattle.tl_client.specs.laws.Bytes.{IsShort}

goes_on : {w : ℕ} (p : Profile) (x : BeatD w) (t : History w) (burst : List (Beat w)) → unfinished channel.D t ≡ burst
    → broken_in_order p (beat.D x) t ≡ None → breaks_burst (beat.D x) burst ≡ false
goes_on p x t [] is e = refl
goes_on p x t (y ∷ burst) is e = (next_rule (breaks_burst (beat.D x) (y ∷ burst)) S1 None (rw is at e)).0

fewer : {w : ℕ} (x : BeatD w) (burst : List (Beat w)) → IsWidth w → breaks_burst (beat.D x) burst ≡ false
    → IsShort burst → length burst < burst_length (beat.D x)
fewer {w} x [] is on short = some_data_beats w x.size (d_carries_data x.opcode) is
fewer {w} x (beat.D y ∷ burst) is on short =
    let k = control_d x y (not-false (same_control (beat.D x) (beat.D y)) on) in
    let same : burst_length {w = w} (beat.D y) ≡ burst_length (beat.D x) =
    ap₂ (λ (o : OpD) (s : ℕ). cond (d_carries_data o) (data_beats w s) 1) (sym k.0) (sym k.2) in
    omega (arith, short.1, same)
fewer x (beat.A y ∷ burst) is on short = absurd cc
fewer x (beat.B y ∷ burst) is on short = absurd cc
fewer x (beat.C y ∷ burst) is on short = absurd cc
fewer x (beat.E y ∷ burst) is on short = absurd cc

pub fewer-before : {w : ℕ} (p : Profile) (x : BeatD w) (t : History w) → IsWidth w
    → broken_in_order p (beat.D x) t ≡ None → IsShort (unfinished channel.D t)
    → length (unfinished channel.D t) < burst_length (beat.D x)
fewer-before p x t is e short = fewer x (unfinished channel.D t) is (goes_on p x t (unfinished channel.D t) refl e)
    short

-- the last beat makes a payload of 64 bytes
pub payload-last : {w : ℕ} (x : BeatD w) (t : History w) → IsWidth w → x.size ≤ 6 → ends (beat.D x) t ≡ true
    → IsTyped (beat.D x) → AreTyped (unfinished channel.D t)
    → length (payload_of (beat.D x ∷ unfinished channel.D t)) ≡ 64
payload-last {w} x t is small last typed before =
    let whole : length (unfinished channel.D t) + 1 ≡ burst_length (beat.D x) =
    eqb-true (length (unfinished channel.D t) + 1) (burst_length (beat.D x)) last in
    let room : w * burst_length (beat.D x) ≤ 64 = data_room w x.size (d_carries_data x.opcode) is small in
    let count : suc (length (unfinished channel.D t)) ≡ burst_length (beat.D x) = omega (arith, whole) in
    payload-long (beat.D x ∷ unfinished channel.D t) (typed, before) (rw count room)

-- and another beat isn't the last but one too many
pub short-part : {w : ℕ} (x : BeatD w) (t : History w) → x.size ≤ 6
    → length (unfinished channel.D t) < burst_length (beat.D x) → ends (beat.D x) t ≡ false
    → IsShort (beat.D x ∷ unfinished channel.D t)
short-part {w} x t small fewer more = (small, omega (arith, fewer, apart))
  where
    apart : length (unfinished channel.D t) + 1 ≡ burst_length (beat.D x) → ⊥
    apart whole = both_ways (ends (beat.D x) t) more
        (eq-eqb (length (unfinished channel.D t) + 1) (burst_length (beat.D x)) whole)
