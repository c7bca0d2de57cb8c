-- The messages that a client hands out break no rule by themselves.
use Rattle.tl_client.proofs.Imports.{IsWidth, Beat, BeatB, BeatD, Channel, OpD, OpB, OpC, Message, A, B, C, D, E}
use Rattle.tl_client.proofs.Imports.{MessageA, beat_of, Level, Grow, Prune, Cap, Report, Perm, illegal, has_transfers}
use Rattle.tl_client.proofs.Imports.{report_code, report_at, cap_of, block_at, is_grant, ends, Rule, L1, A3, next_rule}
use Rattle.tl_client.proofs.Imports.{Finish, Stalled, Taken, Offered, offered, taken, ended, silent, is_sent_on, waits}
use Rattle.tl_client.proofs.Imports.{broken_before, broken_later, judged, judged_later, report_for, Busy, B4, B5, Op}
use Rattle.tl_client.proofs.Imports.{Load, Store, Acquire, AcquireWhole, Release, Access, asked, asked_given, busy}
use Rattle.tl_client.proofs.Imports.{breaks_b4, op_block, is_clean, done, load, store, source_or_0, free_request}
use Rattle.tl_client.proofs.Imports.{free_release, whole_grow, access, acquire, on_c, release, probe_ack, grant_ack}
use Rattle.tl_client.proofs.Imports.{EndConfig, Endpoint, zeros, copy_at, held_at, with_past}
use Rattle.std.proofs.Common.{◌≡◌, ℕ, ◌-◌, ◌*◌, ◌%◌, ◌^◌, ◌<◌, Bool, true, false, not, cond, leb, eqb, List, ◌∷◌}
use Rattle.std.proofs.Common.{Option, Some, None, refl, ◌∙◌, arith, inl, inr}
use Rattle.std.specs.Prelude.{is_none, unwrap_or}
use Rattle.std.proofs.lemmas.Bool.{not-false, and_parts, eqb-true, or_parts}
use Rattle.std.proofs.Math.Nat.{zero-div}
use Rattle.tl_beat.specs.declared.beat.Beat.TheVariants as beat
use Rattle.tl_beat.specs.declared.channel.Channel.TheVariants as channel
use Rattle.tl_beat.specs.declared.opcode.OpD.TheVariants as d
use Rattle.tl_beat.specs.declared.opcode.OpA.TheVariants as a
use Rattle.tl_beat.specs.declared.opcode.OpB.TheVariants as b
use Rattle.tl_beat.specs.declared.opcode.OpC.TheVariants as c
use Rattle.tl_burst.specs.statement.Burst.{mask_at, bit}
use Rattle.tl_params.specs.declared.level.Level.TheVariants as level
use Rattle.tl_params.specs.declared.param.Grow.TheVariants as grow
use Rattle.tl_params.specs.declared.param.Prune.TheVariants as prune
use Rattle.tl_params.specs.declared.param.Cap.TheVariants as cap
use Rattle.tl_params.specs.declared.param.Report.TheVariants as report
use Rattle.tl_params.specs.declared.perm.Perm.TheVariants as perm
use Rattle.tl_rules.specs.statement.Legality.{illegal_message, is_aligned, is_full_mask, each_below, c_has_param}
use Rattle.tl_rules.specs.statement.Legality.{c_has_source, d_of_level, answers_forwarded}
use Rattle.tl_rules.proofs.Legal.{legal_from_beats, legal_beat}
use Rattle.tl_client.specs.statement.Ask.{breaks_b5, is_sound}
use Rattle.tl_client.specs.laws.Sound.{IsSound, IsSoundIfAny, IsSoundAnswer}

-- ---- fields

pub none_of : {X : Type 0} (o : Option X) → is_none o ≡ true → o ≡ None
none_of None e = refl
none_of (Some x) e = absurd cc

block_aligned : (block : ℕ) → is_aligned (64 * block) 6 ≡ true
block_aligned block = let none : 64 * block % 64 ≡ 0 = omega arith in rw none refl

full_mask : (w address i : ℕ) → IsWidth w → i < 1 → is_full_mask w 6 address (mask_at w (2 ^ w - 1) i) ≡ true
unfolding each_below
full_mask w address i (inl e) lt = let first : i ≡ 0 = omega arith in rw (e, first) refl
full_mask w address i (inr (inl e)) lt = let first : i ≡ 0 = omega arith in rw (e, first) refl
full_mask w address i (inr (inr e)) lt = let first : i ≡ 0 = omega arith in rw (e, first) refl

no_bit : (i : ℕ) → bit 0 i ≡ false
no_bit i = rw (zero-div (2 ^ i)) refl

-- ---- messages of a client at TL-C

legal_acquire : (w i : ℕ) (g : Grow) (source block : ℕ) → IsWidth w → i < 1
    → illegal {w = w} level.C channel.A (beat_of (acquire a.AcquireBlock g source block) i) ≡ None
unfolding illegal
legal_acquire w i grow.NtoB source block is lt = rw (block_aligned block, full_mask w (64 * block) i is lt, no_bit i)
    refl
legal_acquire w i grow.NtoT source block is lt = rw (block_aligned block, full_mask w (64 * block) i is lt, no_bit i)
    refl
legal_acquire w i grow.BtoT source block is lt = rw (block_aligned block, full_mask w (64 * block) i is lt, no_bit i)
    refl

legal_acquire_perm : (w i : ℕ) (g : Grow) (source block : ℕ) → IsWidth w → i < 1
    → illegal {w = w} level.C channel.A (beat_of (acquire a.AcquirePerm g source block) i) ≡ None
unfolding illegal
legal_acquire_perm w i grow.NtoB source block is lt =
    rw (block_aligned block, full_mask w (64 * block) i is lt, no_bit i) refl
legal_acquire_perm w i grow.NtoT source block is lt =
    rw (block_aligned block, full_mask w (64 * block) i is lt, no_bit i) refl
legal_acquire_perm w i grow.BtoT source block is lt =
    rw (block_aligned block, full_mask w (64 * block) i is lt, no_bit i) refl

sound_acquire : (w : ℕ) (g : Grow) (source block : ℕ) → IsWidth w
    → IsSound {w = w} level.C (acquire a.AcquireBlock g source block)
sound_acquire w g source block is = record {
  is_legal = legal_from_beats level.C channel.A (acquire a.AcquireBlock g source block)
      (λ i lt. legal_acquire w i g source block is lt);
  is_clean = refl;
}

sound_acquire_perm : (w : ℕ) (g : Grow) (source block : ℕ) → IsWidth w
    → IsSound {w = w} level.C (acquire a.AcquirePerm g source block)
sound_acquire_perm w g source block is = record {
  is_legal = legal_from_beats level.C channel.A (acquire a.AcquirePerm g source block)
      (λ i lt. legal_acquire_perm w i g source block is lt);
  is_clean = refl;
}

legal_about : (w : ℕ) (opcode : OpC) (param source block i : ℕ) (payload : List ℕ) → answers_forwarded opcode ≡ false
    → c_has_param opcode param ≡ true
    → c_has_source opcode source ≡ true
    → illegal {w = w} level.C channel.C (beat_of (on_c opcode param source block payload) i) ≡ None
unfolding illegal
legal_about w opcode param source block i payload code named sourced =
    rw (code, named, sourced, block_aligned block, no_bit i) refl

sound_on_c : (w : ℕ) (opcode : OpC) (param source block : ℕ) (payload : List ℕ) → answers_forwarded opcode ≡ false
    → c_has_param opcode param ≡ true
    → c_has_source opcode source ≡ true → IsSound {w = w} level.C (on_c opcode param source block payload)
sound_on_c w opcode param source block payload code named sourced = record {
  is_legal = legal_from_beats level.C channel.C (on_c opcode param source block payload)
      (λ i lt. legal_about w opcode param source block i payload code named sourced);
  is_clean = refl;
}

sound_release : (w : ℕ) (p : Prune) (source block : ℕ) (copy : List ℕ)
    → IsSound {w = w} level.C (release p source block copy)
sound_release w prune.TtoB source block copy = sound_on_c w c.ReleaseData 0 source block copy refl refl refl
sound_release w prune.TtoN source block copy = sound_on_c w c.ReleaseData 1 source block copy refl refl refl
sound_release w prune.BtoN source block copy = sound_on_c w c.Release 2 source block zeros refl refl refl

report_named_so : (r : Report) → c_has_param c.ProbeAck (report_code r) ≡ true
report_named_so report.TtoB = refl
report_named_so report.TtoN = refl
report_named_so report.BtoN = refl
report_named_so report.TtoT = refl
report_named_so report.BtoB = refl
report_named_so report.NtoN = refl

trunk_reported : (k : Cap) → c_has_param c.ProbeAckData (report_code (report_at k perm.Trunk)) ≡ true
trunk_reported cap.ToT = refl
trunk_reported cap.ToB = refl
trunk_reported cap.ToN = refl

without_data : (w : ℕ) (r : Report) (block : ℕ)
    → IsSound {w = w} level.C (on_c c.ProbeAck (report_code r) 0 block zeros)
without_data w r block = sound_on_c w c.ProbeAck (report_code r) 0 block zeros refl (report_named_so r) refl

sound_probe_ack : (w : ℕ) (opcode : OpB) (p : Perm) (k : Cap) (block : ℕ) (copy : List ℕ)
    → IsSound {w = w} level.C (probe_ack opcode p (report_at k p) block copy)
sound_probe_ack w b.ProbeBlock perm.Trunk k block copy =
    sound_on_c w c.ProbeAckData (report_code (report_at k perm.Trunk)) 0 block copy refl (trunk_reported k) refl
sound_probe_ack w b.ProbeBlock perm.Branch k block copy = without_data w (report_at k perm.Branch) block
sound_probe_ack w b.ProbeBlock perm.None k block copy = without_data w (report_at k perm.None) block
sound_probe_ack w b.ProbePerm p k block copy = without_data w (report_at k p) block
sound_probe_ack w b.PutFullData p k block copy = without_data w (report_at k p) block
sound_probe_ack w b.PutPartialData p k block copy = without_data w (report_at k p) block
sound_probe_ack w b.ArithmeticData p k block copy = without_data w (report_at k p) block
sound_probe_ack w b.LogicalData p k block copy = without_data w (report_at k p) block
sound_probe_ack w b.Get p k block copy = without_data w (report_at k p) block
sound_probe_ack w b.Intent p k block copy = without_data w (report_at k p) block

legal_grant_ack : (w sink i : ℕ) → illegal {w = w} level.C channel.E (beat_of (grant_ack sink) i) ≡ None
unfolding illegal
legal_grant_ack w sink i = refl

sound_grant_ack : (w sink : ℕ) → IsSound {w = w} level.C (grant_ack sink)
sound_grant_ack w sink =
    record {
      is_legal = legal_from_beats level.C channel.E (grant_ack sink) (λ i lt. legal_grant_ack w sink i);
      is_clean = refl;
    }

-- ---- accesses

same_beat : {w : ℕ} (l : Level) (m : MessageA w) (s i : ℕ) → illegal l channel.A (beat_of (access s m) i) ≡ illegal l
    channel.A (beat_of (A m) i)
unfolding illegal
same_beat l m s i = refl

-- the source of an access doesn't matter
sound_access : {w : ℕ} (l : Level) (m : MessageA w) (s : ℕ) → illegal_message l channel.A (A m) ≡ None → m.corrupt ≡ 0
    → IsSound l (access s m)
sound_access l m s legal clean = record {
  is_legal = legal_from_beats l channel.A (access s m) (λ i lt. same_beat l m s i ∙ legal_beat l channel.A (A m) i legal
      lt);
  is_clean = clean;
}

-- ---- operations

at_c : {w : ℕ} (l : Level) (m : Message w) → has_transfers l ≡ true → IsSound level.C m → IsSound l m
at_c level.C m e sound = sound
at_c level.UL m e sound = absurd cc
at_c level.UH m e sound = absurd cc

pub formed_access : {w : ℕ} (terms : EndConfig) (m : Message w) → breaks_b5 terms (Access m) ≡ false
    → is_sound terms.level m ≡ true
formed_access terms m e =
    let parts = or_parts (leb terms.blocks (op_block (Access m))) _ e in
    not-false (is_sound terms.level m) parts.1

no_message : {w : ℕ} (l : Level) (address size : ℕ) (p : Perm) (e : Endpoint w)
    → IsSoundIfAny l (load address size p e).message
no_message l address size perm.None e = tt
no_message l address size perm.Branch e = tt
no_message l address size perm.Trunk e = tt

no_message_stored : {w : ℕ} (l : Level) (address size value : ℕ) (p : Perm) (e : Endpoint w)
    → IsSoundIfAny l (store address size value p e).message
no_message_stored l address size value perm.None e = tt
no_message_stored l address size value perm.Branch e = tt
no_message_stored l address size value perm.Trunk e = tt

done_sound : {w : ℕ} (terms : EndConfig) (op : Op w) (e : Endpoint w) → IsWidth w → breaks_b4 terms.level op ≡ false
    → breaks_b5 terms op ≡ false → IsSoundIfAny terms.level (done terms op e).message
done_sound terms (Load address size) e is four five = no_message terms.level address size (held_at e (block_at address))
    e
done_sound terms (Store address size value) e is four five =
    no_message_stored terms.level address size value (held_at e (block_at address)) e
done_sound {w} terms (Acquire block grow) e is four five =
    at_c terms.level (acquire a.AcquireBlock grow (source_or_0 (free_request terms e.past)) block)
    (not-false (has_transfers terms.level) four)
    (sound_acquire w grow (source_or_0 (free_request terms e.past)) block is)
done_sound {w} terms (AcquireWhole block bytes) e is four five =
    at_c terms.level (acquire a.AcquirePerm (whole_grow (held_at e block)) (source_or_0 (free_request terms e.past))
    block)
    (not-false (has_transfers terms.level) four) (sound_acquire_perm w (whole_grow (held_at e block))
    (source_or_0 (free_request terms e.past)) block is)
done_sound {w} terms (Release block prune) e is four five =
    at_c terms.level (release prune (source_or_0 (free_release terms e.past)) block (copy_at e block))
    (not-false (has_transfers terms.level) four)
    (sound_release w prune (source_or_0 (free_release terms e.past)) block (copy_at e block))
done_sound terms (Access (A m)) e is four five =
    let sound = and_parts (is_none (illegal_message terms.level channel.A (A m))) (is_clean m)
    (formed_access terms (A m) five) in
    let clean = and_parts (eqb m.corrupt 0) _ sound.1 in
    sound_access terms.level m (source_or_0 (free_request terms e.past)) (none_of _ sound.0)
    (eqb-true m.corrupt 0 clean.0)
done_sound terms (Access (B m)) e is four five = tt
done_sound terms (Access (C m)) e is four five = tt
done_sound terms (Access (D m)) e is four five = tt
done_sound terms (Access (E m)) e is four five = tt

asked_given_sound : {w : ℕ} (o : Option Busy) (terms : EndConfig) (op : Op w) (e : Endpoint w) → IsWidth w
    → (o ≡ None → (breaks_b4 terms.level op ≡ false) × (breaks_b5 terms op ≡ false))
    → IsSoundIfAny terms.level (asked_given o terms op e).message
asked_given_sound (Some b) terms op e is parts = tt
asked_given_sound None terms op e is parts = done_sound terms op e is (parts refl).0 (parts refl).1

-- what is handed out for an operation
pub asked-sound : {w : ℕ} (terms : EndConfig) (op : Op w) (e : Endpoint w) → IsWidth w
    → IsSoundIfAny terms.level (asked terms op e).message
unfolding asked busy
asked-sound terms op e is = asked_given_sound (busy terms op e) terms op e is (λ none.
    let four = next_rule (breaks_b4 terms.level op) B4 _ none in
    let five = next_rule (breaks_b5 terms op) B5 _ four.1 in
    (four.0, five.0))

-- ---- beats

transfers_with_probe : {w : ℕ} (l : Level) (ch : Channel) (x : BeatB w) → illegal l ch (beat.B x) ≡ None
    → has_transfers l ≡ true
unfolding illegal
transfers_with_probe l channel.A x e = absurd cc
transfers_with_probe l channel.B x e = not-false (has_transfers l) (next_rule (not (has_transfers l)) L1 _ e).0
transfers_with_probe l channel.C x e = absurd cc
transfers_with_probe l channel.D x e = absurd cc
transfers_with_probe l channel.E x e = absurd cc

no_grant_below : (l : Level) (opcode : OpD) → is_grant opcode ≡ true → d_of_level l opcode ≡ true
    → has_transfers l ≡ true
no_grant_below level.C opcode grants fits = refl
no_grant_below level.UL d.Grant grants fits = absurd cc
no_grant_below level.UL d.GrantData grants fits = absurd cc
no_grant_below level.UL d.AccessAck grants fits = absurd cc
no_grant_below level.UL d.AccessAckData grants fits = absurd cc
no_grant_below level.UL d.HintAck grants fits = absurd cc
no_grant_below level.UL d.ReleaseAck grants fits = absurd cc
no_grant_below level.UH d.Grant grants fits = absurd cc
no_grant_below level.UH d.GrantData grants fits = absurd cc
no_grant_below level.UH d.AccessAck grants fits = absurd cc
no_grant_below level.UH d.AccessAckData grants fits = absurd cc
no_grant_below level.UH d.HintAck grants fits = absurd cc
no_grant_below level.UH d.ReleaseAck grants fits = absurd cc

transfers_with_grant : {w : ℕ} (l : Level) (ch : Channel) (x : BeatD w) → is_grant x.opcode ≡ true
    → illegal l ch (beat.D x) ≡ None → has_transfers l ≡ true
unfolding illegal
transfers_with_grant l channel.A x grants e = absurd cc
transfers_with_grant l channel.B x grants e = absurd cc
transfers_with_grant l channel.C x grants e = absurd cc
transfers_with_grant l channel.D x grants e =
    no_grant_below l x.opcode grants
    (not-false (d_of_level l x.opcode) (next_rule (not (d_of_level l x.opcode)) L1 _ e).0)
transfers_with_grant l channel.E x grants e = absurd cc

ended_sound : {w : ℕ} (l : Level) (opcode : OpD) (x : BeatD w) (f : Finish) (e : Endpoint w)
    → (is_grant opcode ≡ true → has_transfers l ≡ true) → IsSoundAnswer l (ended opcode x f e).answer
ended_sound l d.AccessAck x f e transfers = tt
ended_sound l d.AccessAckData x f e transfers = tt
ended_sound l d.HintAck x f e transfers = tt
ended_sound {w} l d.Grant x f e transfers = at_c l (grant_ack x.sink) (transfers refl) (sound_grant_ack w x.sink)
ended_sound {w} l d.GrantData x f e transfers = at_c l (grant_ack x.sink) (transfers refl) (sound_grant_ack w x.sink)
ended_sound l d.ReleaseAck x f e transfers = tt

taken_sound : {w : ℕ} (l : Level) (ch : Channel) (x : Beat w) (e : Endpoint w) → illegal l ch x ≡ None
    → IsSoundAnswer l (taken x e).answer
taken_sound l ch (beat.A x) e legal = tt
taken_sound {w} l ch (beat.B x) e legal =
    let p = held_at e (block_at x.address) in
    at_c l (probe_ack x.opcode p (report_for x p) (block_at x.address) (copy_at e (block_at x.address)))
    (transfers_with_probe l ch x legal)
    (sound_probe_ack w x.opcode p (unwrap_or (cap_of x.param) cap.ToN) (block_at x.address)
    (copy_at e (block_at x.address)))
taken_sound l ch (beat.C x) e legal = tt
taken_sound {w} l ch (beat.D x) e legal =
    go (ends (beat.D x) e.past) _ (ended_sound l x.opcode x _ _ (λ grants. transfers_with_grant l ch x grants legal))
  where
    go : (b : Bool) (o : Offered w) → IsSoundAnswer l o.answer
        → IsSoundAnswer l (cond b o (silent Taken (with_past (beat.D x ∷ e.past) e))).answer
    go true o sound = sound
    go false o sound = tt
taken_sound l ch (beat.E x) e legal = tt

judged_later_sound : {w : ℕ} (o : Option Rule) (l : Level) (ch : Channel) (x : Beat w) (e : Endpoint w)
    → illegal l ch x ≡ None → IsSoundAnswer l (judged_later o x e).answer
judged_later_sound (Some r) l ch x e legal = tt
judged_later_sound None l ch x e legal = taken_sound l ch x e legal

judged_sound : {w : ℕ} (o : Option Rule) (terms : EndConfig) (ch : Channel) (x : Beat w) (e : Endpoint w)
    → (o ≡ None → illegal terms.level ch x ≡ None) → IsSoundAnswer terms.level (judged o terms x e).answer
judged_sound (Some r) terms ch x e legal = tt
judged_sound {w} None terms ch x e legal = go (waits x e.past)
  where
    go : (b : Bool) → IsSoundAnswer terms.level
        (cond b (silent Stalled e) (judged_later (broken_later terms x e) x e)).answer
    go true = tt
    go false = judged_later_sound (broken_later terms x e) terms.level ch x e (legal refl)

-- what is handed out for a beat
pub offered-sound : {w : ℕ} (terms : EndConfig) (ch : Channel) (x : Beat w) (e : Endpoint w)
    → IsSoundAnswer terms.level (offered terms ch x e).answer
unfolding offered
offered-sound terms ch x e = judged_sound (broken_before terms ch x e) terms ch x e (λ none.
    let live = next_rule e.closed A3 _ none in
    let way = next_rule (is_sent_on ch) L1 _ live.1 in
    way.1)
