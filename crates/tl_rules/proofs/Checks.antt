-- The first rule of a message's beats: that of its control fields, and otherwise the first of what
-- each beat has of its own.
use Rattle.std.proofs.Common.{◌≡◌, ℕ, zero, suc, ◌+◌, ◌*◌, ◌^◌, ◌<◌, ◌≤◌, ◌⊎◌, Bool, true, false, not, ltb, cond, ◌&&◌}
use Rattle.std.proofs.Common.{Option, Some, None, Ok, Err, refl, sym}
use Rattle.std.proofs.Common.{ap, ◌∙◌, arith, inl, inr, lit<, add-zero}
use Rattle.std.proofs.Math.Nat.{pow-le-pow_right}
use Rattle.std.proofs.lemmas.Bool.{cases_Bool}
use Rattle.std.proofs.lemmas.Nat.{div-add-mod'}
use Rattle.std.specs.Option.{option_or}
use Rattle.tl_beat.specs.declared.channel.Channel.{Channel}
use Rattle.tl_beat.specs.declared.channel.Channel.TheVariants as channel
use Rattle.tl_beat.specs.declared.beat.Beat.{Beat}
use Rattle.tl_beat.specs.declared.beat.Beat.TheVariants as beat
use Rattle.tl_beat.specs.declared.opcode.OpB.{OpB}
use Rattle.tl_beat.specs.declared.opcode.OpB.TheVariants as b
use Rattle.tl_beat.specs.statement.Opcode.{a_carries_data, b_carries_data, c_carries_data, d_carries_data}
use Rattle.tl_beat.specs.statement.Width.{IsWidth}
use Rattle.tl_beat.specs.statement.First.{first_if}
use Rattle.tl_burst.specs.declared.message.Message.{Message}
use Rattle.tl_burst.specs.declared.message.Message.TheVariants.{A, B, C, D, E}
use Rattle.tl_burst.specs.declared.message.MessageA.{MessageA}
use Rattle.tl_burst.specs.declared.message.MessageB.{MessageB}
use Rattle.tl_burst.specs.declared.message.MessageC.{MessageC}
use Rattle.tl_burst.specs.declared.message.MessageD.{MessageD}
use Rattle.tl_burst.specs.declared.message.MessageE.{MessageE}
use Rattle.tl_burst.specs.statement.Burst.{beats_of, beat_of, a_beat_of, b_beat_of, c_beat_of, d_beat_of, data_beats}
use Rattle.tl_burst.specs.statement.Burst.{mask_at, bit}
use Rattle.tl_burst.specs.statement.Messages.{on}
use Rattle.tl_burst.proofs.Splitting.{beats-positive}
use Rattle.tl_params.specs.declared.level.Level.{Level}
use Rattle.tl_params.specs.declared.rule.Rule.{Rule}
use Rattle.tl_params.specs.declared.rule.Rule.TheVariants.{L1, L6, L7}
use Rattle.tl_params.specs.statement.Refusal.{ok_unless}
use Rattle.tl_rules.specs.statement.Legality.{illegal, breaks_l1, illegal_message, first_illegal, beats_from}
use Rattle.tl_rules.specs.statement.Legality.{has_transfers, is_forwarded}
use Rattle.tl_rules.specs.code.Control.{a_control, a_own, b_control, b_own, c_control, c_own, d_control, d_own}
use Rattle.tl_rules.proofs.Bursts.{next_rule, both_none}
use Rattle.tl_rules.proofs.Verdicts.{illegal_a, illegal_b, illegal_c, illegal_d}
use Rattle.tl_rules.proofs.Widths.{width-bounds}

-- the first rule of n beats from beat j on
unfoldable pub first_own : (ℕ → Option Rule) → ℕ → ℕ → Option Rule
first_own own j zero = None
first_own own j (suc n) = option_or (own j) (first_own own (j + 1) n)

pub none_yet : (own : ℕ → Option Rule) (j : ℕ) → first_own own j 0 ≡ None
unfolding first_own
none_yet own j = refl

pub both : (o rest : Option Rule) → o ≡ None → rest ≡ None → option_or o rest ≡ None
both o rest e f = rw e f

none_at : (own : ℕ → Option Rule) (j n : ℕ) → first_own own j n ≡ None → own (j + n) ≡ None
    → first_own own j (n + 1) ≡ None
unfolding first_own
none_at own j zero e h = both (own j) None (rw add-zero at h) refl
none_at own j (suc n) e h =
    let p = both_none (own j) (first_own own (j + 1) n) e in
    let place : j + suc n ≡ j + 1 + n = omega arith in
    let more : suc n + 1 ≡ suc (n + 1) = omega arith in
    rw more (both (own j) (first_own own (j + 1) (n + 1)) p.0 (none_at own (j + 1) n p.1 (rw place at h)))

-- one more beat that breaks none
pub none_more : (own : ℕ → Option Rule) (n : ℕ) → first_own own 0 n ≡ None → Ok tt ≡ ok_unless (own n)
    → first_own own 0 (n + 1) ≡ None
none_more own n e h =
    let place : 0 + n ≡ n = omega arith in
    none_at own 0 n e (rw place (passes (own n) h))
  where
    passes : (o : Option Rule) → Ok tt ≡ ok_unless o → o ≡ None
    passes None e = refl
    passes (Some r) e = absurd cc

found : (own : ℕ → Option Rule) (j i n : ℕ) (r : Rule) → first_own own j i ≡ None → own (j + i) ≡ Some r → i < n
    → first_own own j n ≡ Some r
unfolding first_own
found own j i zero r e h lt = absurd (omega arith)
found own j zero (suc n) r e h lt = rw (rw add-zero at h) refl
found own j (suc i) (suc n) r e h lt =
    let p = both_none (own j) (first_own own (j + 1) i) e in
    let place : j + suc i ≡ j + 1 + i = omega arith in
    rw p.0 (found own (j + 1) i n r p.1 (rw place at h) (omega arith))

fails : (o : Option Rule) (r : Rule) → Err r ≡ ok_unless o → o ≡ Some r
fails None r e = absurd cc
fails (Some s) r e = let same : ok_unless (Some s) ≡ ok_unless (Some r) = sym e in cc

-- the first beat that breaks a rule gives it
pub found_first : (own : ℕ → Option Rule) (i n : ℕ) (r : Rule) → first_own own 0 i ≡ None → Err r ≡ ok_unless (own i)
    → i < n → ok_unless (first_own own 0 n) ≡ Err r
found_first own i n r e h lt =
    let place : 0 + i ≡ i = omega arith in
    ap ok_unless (found own 0 i n r e (rw place (fails (own i) r h)) lt)

-- ---- messages

-- where the control fields break no rule
later : {w : ℕ} (l : Level) (ch : Channel) (m : Message w) (control : Option Rule) (own : ℕ → Option Rule) (j n : ℕ)
    → ((i : ℕ) → illegal l ch (beat_of m i) ≡ option_or control (own i))
    → control ≡ None
    → first_illegal l ch (beats_from m j n) ≡ first_own own j n
unfolding first_illegal beats_from first_own
later l ch m control own j zero is none = refl
later l ch m control own j (suc n) is none = rw (is j, none, later l ch m control own (j + 1) n is none) refl

-- where they do
sooner : {w : ℕ} (l : Level) (ch : Channel) (m : Message w) (control : Option Rule) (own : ℕ → Option Rule) (n : ℕ)
    (r : Rule)
    → ((i : ℕ) → illegal l ch (beat_of m i) ≡ option_or control (own i)) → control ≡ Some r → 0 < n
    → first_illegal l ch (beats_from m 0 n) ≡ Some r
unfolding first_illegal beats_from
sooner l ch m control own zero r is some pos = absurd (omega arith)
sooner l ch m control own (suc n) r is some pos = rw (is 0, some) refl

pub passed_control : {w : ℕ} (l : Level) (ch : Channel) (m : Message w) (control : Option Rule) (own : ℕ → Option Rule)
    → ((i : ℕ) → illegal l ch (beat_of m i) ≡ option_or control (own i))
    → Ok tt ≡ ok_unless control
    → illegal_message l ch m ≡ first_own own 0 (beats_of m)
passed_control l ch m control own is e = later l ch m control own 0 (beats_of m) is (passes control e)
  where
    passes : (o : Option Rule) → Ok tt ≡ ok_unless o → o ≡ None
    passes None e = refl
    passes (Some r) e = absurd cc

pub broken_control : {w : ℕ} (l : Level) (ch : Channel) (m : Message w) (control : Option Rule) (own : ℕ → Option Rule)
    (r : Rule)
    → ((i : ℕ) → illegal l ch (beat_of m i) ≡ option_or control (own i)) → Err r ≡ ok_unless control → IsWidth w
    → ok_unless (illegal_message l ch m) ≡ Err r
broken_control l ch m control own r is e width =
    ap ok_unless (sooner l ch m control own (beats_of m) r is (fails control r e) (beats-positive m width))

breaks_first : {w : ℕ} (l : Level) (ch : Channel) (m : Message w) (n : ℕ) → 0 < n → breaks_l1 l ch (beat_of m 0) ≡ true
    → first_illegal l ch (beats_from m 0 n) ≡ Some L1
unfolding illegal first_illegal beats_from
breaks_first l ch m zero pos e = absurd (omega arith)
breaks_first l ch m (suc n) pos e = rw e refl

other_breaks : {w : ℕ} (l : Level) (ch : Channel) (x : Beat w) → on ch x ≡ false → breaks_l1 l ch x ≡ true
other_breaks l channel.A (beat.A x) e = absurd cc
other_breaks l channel.B (beat.B x) e = absurd cc
other_breaks l channel.C (beat.C x) e = absurd cc
other_breaks l channel.D (beat.D x) e = absurd cc
other_breaks l channel.E (beat.E x) e = absurd cc
other_breaks l _ _ e = refl

-- a message of another channel
pub other_channel : {w : ℕ} (l : Level) (ch : Channel) (m : Message w) → IsWidth w → on ch (beat_of m 0) ≡ false
    → ok_unless (illegal_message l ch m) ≡ Err L1
other_channel l ch m width e =
    ap ok_unless (breaks_first l ch m (beats_of m) (beats-positive m width) (other_breaks l ch (beat_of m 0) e))

-- the GrantAck, of one beat
pub grant_ack : {w : ℕ} (l : Level) (ch : Channel) (m : Message w) (x : MessageE) → on ch (beat_of m 0) ≡ true → m ≡ E x
    → illegal_message l ch m ≡ first_if (not (has_transfers l)) L1 None
unfolding illegal first_illegal beats_from
grant_ack l channel.E (E m) x e is = go (has_transfers l)
  where
    go : (t : Bool) → option_or (first_if (not t) L1 None) None ≡ first_if (not t) L1 None
    go true = refl
    go false = refl
grant_ack l _ (E m) x e is = absurd cc
grant_ack l ch _ x e is = absurd cc

-- ---- what each channel's beats have of their own

abbrev pub a_owns : {w : ℕ} → MessageA w → ℕ → Option Rule
a_owns {w} m i = a_own w m.opcode m.size m.address (mask_at w m.mask i) (bit m.corrupt i)

abbrev pub b_owns : {w : ℕ} → MessageB w → ℕ → Option Rule
b_owns {w} m i = b_own w m.opcode m.size m.address (mask_at w m.mask i) (bit m.corrupt i)

abbrev pub c_owns : {w : ℕ} → MessageC w → ℕ → Option Rule
c_owns m i = c_own m.opcode (bit m.corrupt i)

abbrev pub d_owns : {w : ℕ} → MessageD w → ℕ → Option Rule
d_owns m i = d_own m.opcode m.denied (bit m.corrupt i)

pub a_beats : {w : ℕ} (l : Level) (m : MessageA w) (i : ℕ) → illegal l channel.A (beat_of (A m) i) ≡ option_or
    (a_control w l m.opcode m.param m.size m.address) (a_owns m i)
a_beats l m i = illegal_a l (a_beat_of m i)

pub b_beats : {w : ℕ} (l : Level) (m : MessageB w) (i : ℕ) → illegal l channel.B (beat_of (B m) i) ≡ option_or
    (b_control l m.opcode m.param m.size m.source m.address) (b_owns m i)
b_beats l m i = illegal_b l (b_beat_of m i)

pub c_beats : {w : ℕ} (l : Level) (m : MessageC w) (i : ℕ) → illegal l channel.C (beat_of (C m) i) ≡ option_or
    (c_control l m.opcode m.param m.size m.source m.address) (c_owns m i)
c_beats l m i = illegal_c l (c_beat_of m i)

pub d_beats : {w : ℕ} (l : Level) (m : MessageD w) (i : ℕ) → illegal l channel.D (beat_of (D m) i) ≡ option_or
    (d_control w l m.opcode m.param m.size m.sink) (d_owns m i)
d_beats l m i = illegal_d l (d_beat_of m i)

-- ---- single beats

only_one : (own : ℕ → Option Rule) → first_own own 0 1 ≡ own 0
unfolding first_own
only_one own = go (own 0)
  where
    go : (o : Option Rule) → option_or o None ≡ o
    go None = refl
    go (Some r) = refl

never : (own : ℕ → Option Rule) (j n : ℕ) → ((i : ℕ) → own i ≡ None) → first_own own j n ≡ None
unfolding first_own
never own j zero none = refl
never own j (suc n) none = rw (none j) (never own (j + 1) n none)

pub probe_has_no_data : (opcode : OpB) → is_forwarded opcode ≡ false → b_carries_data opcode ≡ false
probe_has_no_data b.PutFullData e = absurd cc
probe_has_no_data b.PutPartialData e = absurd cc
probe_has_no_data b.ArithmeticData e = absurd cc
probe_has_no_data b.LogicalData e = absurd cc
probe_has_no_data b.Get e = refl
probe_has_no_data b.Intent e = refl
probe_has_no_data b.ProbeBlock e = refl
probe_has_no_data b.ProbePerm e = refl

-- a message of channel B that passes its control rules is a Probe, of one beat
pub b_single : {w : ℕ} (l : Level) (m : MessageB w)
    → Ok tt ≡ ok_unless (b_control l m.opcode m.param m.size m.source m.address)
    → illegal_message l channel.B (B m) ≡ b_owns m 0
b_single {w} l m e =
    let control = b_control l m.opcode m.param m.size m.source m.address in
    let one = next_rule (not (has_transfers l)) L1 _ (passes control e) in
    let two = next_rule (is_forwarded m.opcode) L7 _ one.1 in
    let single : beats_of (B m) ≡ 1 = ap (λ t. cond t (data_beats w m.size) 1) (probe_has_no_data m.opcode two.0) in
    passed_control l channel.B (B m) control (b_owns m) (b_beats l m) e ∙ ap (first_own (b_owns m) 0) single ∙ only_one
    (b_owns m)
  where
    passes : (o : Option Rule) → Ok tt ≡ ok_unless o → o ≡ None
    passes None e = refl
    passes (Some r) e = absurd cc

-- of a message of channel C that passes its control rules the first beat decides
pub c_single : {w : ℕ} (l : Level) (m : MessageC w)
    → Ok tt ≡ ok_unless (c_control l m.opcode m.param m.size m.source m.address)
    → illegal_message l channel.C (C m) ≡ c_owns m 0
c_single {w} l m e = passed_control l channel.C (C m) (c_control l m.opcode m.param m.size m.source m.address)
    (c_owns m) (c_beats l m) e ∙ go (cases_Bool (c_carries_data m.opcode))
  where
    with_data : c_carries_data m.opcode ≡ true → (i : ℕ) → c_owns m i ≡ None
    with_data carries i = rw carries (go' (bit m.corrupt i))
      where
        go' : (t : Bool) → first_if (t && false) L6 None ≡ None
        go' true = refl
        go' false = refl

    go : (c_carries_data m.opcode ≡ true) ⊎ (c_carries_data m.opcode ≡ false)
        → first_own (c_owns m) 0 (beats_of (C m)) ≡ c_owns m 0
    go (inl carries) = never (c_owns m) 0 (beats_of (C m)) (with_data carries) ∙ sym (with_data carries 0)
    go (inr none) =
        let single : beats_of (C m) ≡ 1 = ap (λ t. cond t (data_beats w m.size) 1) none in
        ap (first_own (c_owns m) 0) single ∙ only_one (c_owns m)

-- ---- room

pub data_room : (w size : ℕ) (carries : Bool) → IsWidth w → size ≤ 6 → w * cond carries (data_beats w size) 1 ≤ 64
data_room w size false is le = omega (arith, (width-bounds w is).1)
data_room w size true is le = go (cases_Bool (ltb w (2 ^ size)))
  where
    bytes : 2 ^ size ≤ 2 ^ 6
    bytes = pow-le-pow_right {n = 2} (lit< tt) {i = size} {j = 6} le

    go : (ltb w (2 ^ size) ≡ true) ⊎ (ltb w (2 ^ size) ≡ false) → w * data_beats w size ≤ 64
    go (inl more) = rw more (omega (arith, bytes, div-add-mod' (2 ^ size) w))
    go (inr few) = rw few (omega (arith, (width-bounds w is).1))

-- the beats of a message fill its payload at most
pub beats_room : {w : ℕ} (m : Message w) → IsWidth w → w * beats_of m ≤ 64
beats_room {w} (A m) is = data_room w m.size (a_carries_data m.opcode) is m.small
beats_room {w} (B m) is = data_room w m.size (b_carries_data m.opcode) is m.small
beats_room {w} (C m) is = data_room w m.size (c_carries_data m.opcode) is m.small
beats_room {w} (D m) is = data_room w m.size (d_carries_data m.opcode) is m.small
beats_room {w} (E m) is = omega (arith, (width-bounds w is).1)
