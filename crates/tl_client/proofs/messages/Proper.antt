-- The messages that a client hands out have 64 bytes, are zero where no beat carries them, and are of the map.
use Rattle.tl_client.proofs.Imports.{IsWidth, Beat, Channel, OpA, OpC, A, B, C, D, E, Grow, Perm, prune_code}
use Rattle.tl_client.proofs.Imports.{report_code, block_at, ends, Op, Load, Store, Acquire, AcquireWhole, Release}
use Rattle.tl_client.proofs.Imports.{Access, Taken, asked, done, load, store, is_clean, free_request, free_release}
use Rattle.tl_client.proofs.Imports.{source_or_0, whole_grow, EndConfig, Endpoint, zeros, copy_at, held_at, with_past}
use Rattle.tl_client.proofs.Imports.{Offered, offered, taken, silent, report_for, acquire, on_c, grant_ack}
use Rattle.std.proofs.Common.{◌≡◌, ℕ, ◌-◌, ◌*◌, ◌^◌, ◌<◌, Bool, true, false, not, cond, leb, eqb, ◌||◌, List, ◌∷◌}
use Rattle.std.proofs.Common.{length, refl, arith, lit<}
use Rattle.std.specs.Prelude.{is_none}
use Rattle.std.proofs.lemmas.Bool.{and_parts, or_parts, eqb-true}
use Rattle.std.proofs.lemmas.List.{drop_all}
use Rattle.std.proofs.lemmas.Nat.{pow_pos}
use Rattle.tl_beat.specs.declared.beat.Beat.TheVariants as beat
use Rattle.tl_beat.specs.declared.channel.Channel.TheVariants as channel
use Rattle.tl_beat.specs.declared.opcode.OpA.TheVariants as a
use Rattle.tl_beat.specs.declared.opcode.OpC.TheVariants as c
use Rattle.tl_beat.specs.statement.Opcode.{a_carries_data, c_carries_data}
use Rattle.tl_burst.specs.statement.Burst.{data_beats, IsZeroFrom}
use Rattle.tl_params.specs.declared.perm.Perm.TheVariants as perm
use Rattle.tl_rules.specs.statement.Legality.{illegal_message}
use Rattle.tl_client.specs.laws.Bytes.{IsTypedOp, HasBytes}
use Rattle.tl_client.specs.laws.Sound.{IsProper, IsProperIfAny, IsProperAnswer}
use Rattle.tl_client.proofs.messages.Bytes.{long_or_zeros}
use Rattle.tl_client.proofs.endpoint.Cases.{NotBusy, asked-cases, IsPassed, offered-cases, ended-cases, probe_ack-cases}
use Rattle.tl_client.proofs.endpoint.Cases.{release-cases}
use Rattle.tl_client.proofs.messages.Clean.{to_blank}
use Rattle.tl_client.proofs.endpoint.HeldAfter.{same_block}
use Rattle.tl_client.proofs.messages.Sound.{formed_access}
use Rattle.tl_rules.proofs.Widths.{whole_block}

-- ---- Acquires

below_power : (w : ℕ) → 2 ^ w - 1 < 2 ^ (w * 1)
below_power w =
    let one : w * 1 ≡ w = omega arith in
    let pos : 0 < 2 ^ w = pow_pos w in
    rw one (omega (arith, pos))

of_map : (blocks block : ℕ) → leb blocks block ≡ false → leb blocks (block_at (64 * block)) ≡ false
of_map blocks block e = rw (same_block block) e

proper_acquire : {w : ℕ} (blocks : ℕ) (opcode : OpA) (grow : Grow) (source block : ℕ) → a_carries_data opcode ≡ false
    → leb blocks block ≡ false
    → IsProper {w = w} blocks (acquire opcode grow source block)
proper_acquire {w} blocks opcode grow source block bare inside = record {
  has_block = refl;
  is_blank = rw bare (refl, below_power w, lit< tt);
  is_inside = of_map blocks block inside;
}

-- ---- messages of channel C

proper_data : {w : ℕ} (blocks : ℕ) (opcode : OpC) (param source block : ℕ) (payload : List ℕ) → IsWidth w
    → c_carries_data opcode ≡ true → length payload ≡ 64
    → leb blocks block ≡ false → IsProper {w = w} blocks (on_c opcode param source block payload)
proper_data {w} blocks opcode param source block payload is carries long inside = record {
  has_block = long;
  is_blank = rw carries (all_carried, pow_pos (data_beats w 6));
  is_inside = of_map blocks block inside;
}
  where
    all_carried : IsZeroFrom (w * data_beats w 6) payload
    all_carried = rw (whole_block w is) (drop_all 64 payload (omega (arith, long)))

proper_bare : {w : ℕ} (blocks : ℕ) (opcode : OpC) (param source block : ℕ) → c_carries_data opcode ≡ false
    → leb blocks block ≡ false → IsProper {w = w} blocks (on_c opcode param source block zeros)
proper_bare {w} blocks opcode param source block bare inside = record {
  has_block = refl;
  is_blank = rw bare (refl, lit< tt);
  is_inside = of_map blocks block inside;
}

proper_grant_ack : {w : ℕ} (blocks sink : ℕ) → IsProper {w = w} blocks (grant_ack sink)
proper_grant_ack blocks sink = record { has_block = tt; is_blank = tt; is_inside = refl }

-- ---- operations

copy_long : {w : ℕ} (e : Endpoint w) (block : ℕ) → HasBytes e → length (copy_at e block) ≡ 64
copy_long e block old = long_or_zeros (e.copies block) (old.long_copies block)

inside_map : (blocks block : ℕ) (formed : Bool) → (leb blocks block || not formed) ≡ false → leb blocks block ≡ false
inside_map blocks block formed e = (or_parts (leb blocks block) (not formed) e).0

proper_load : {w : ℕ} (blocks address size : ℕ) (p : Perm) (e : Endpoint w)
    → IsProperIfAny blocks (load address size p e).message
proper_load blocks address size perm.None e = tt
proper_load blocks address size perm.Branch e = tt
proper_load blocks address size perm.Trunk e = tt

proper_store : {w : ℕ} (blocks address size value : ℕ) (p : Perm) (e : Endpoint w)
    → IsProperIfAny blocks (store address size value p e).message
proper_store blocks address size value perm.None e = tt
proper_store blocks address size value perm.Branch e = tt
proper_store blocks address size value perm.Trunk e = tt

proper_done : {w : ℕ} (terms : EndConfig) (op : Op w) (e : Endpoint w) → IsWidth w → NotBusy terms op e → IsTypedOp op
    → HasBytes e → IsProperIfAny terms.blocks (done terms op e).message
proper_done terms (Load address size) e is free typed old =
    proper_load terms.blocks address size (held_at e (block_at address)) e
proper_done terms (Store address size value) e is free typed old =
    proper_store terms.blocks address size value (held_at e (block_at address)) e
proper_done terms (Acquire block grow) e is free typed old =
    proper_acquire terms.blocks a.AcquireBlock grow (source_or_0 (free_request terms e.past)) block refl
    (inside_map terms.blocks block true free.b5)
proper_done terms (AcquireWhole block bytes) e is free typed old =
    proper_acquire terms.blocks a.AcquirePerm (whole_grow (held_at e block)) (source_or_0 (free_request terms e.past))
    block refl (inside_map terms.blocks block true free.b5)
proper_done terms (Release block prune) e is free typed old =
    let s = source_or_0 (free_release terms e.past) in
    let inside = inside_map terms.blocks block true free.b5 in
    release-cases prune s block (copy_at e block) (λ m. IsProper terms.blocks m)
    (proper_data terms.blocks c.ReleaseData (prune_code prune) s block (copy_at e block) is refl (copy_long e block old)
    inside)
    (proper_bare terms.blocks c.Release (prune_code prune) s block refl inside)
proper_done terms (Access (A m)) e is free typed old =
    let sound = and_parts (is_none (illegal_message terms.level channel.A (A m))) (is_clean m)
    (formed_access terms (A m) free.b5) in
    let clean = and_parts (eqb m.corrupt 0) _ sound.1 in
    record {
      has_block = typed;
      is_blank = to_blank m (eqb-true m.corrupt 0 clean.0) sound.1;
      is_inside = (or_parts (leb terms.blocks (block_at m.address)) _ free.b5).0;
    }
proper_done terms (Access (B m)) e is free typed old = tt
proper_done terms (Access (C m)) e is free typed old = tt
proper_done terms (Access (D m)) e is free typed old = tt
proper_done terms (Access (E m)) e is free typed old = tt

pub asked-proper : {w : ℕ} (terms : EndConfig) (op : Op w) (e : Endpoint w) → IsWidth w → IsTypedOp op → HasBytes e
    → IsProperIfAny terms.blocks (asked terms op e).message
asked-proper terms op e is typed old = asked-cases terms op e (λ o. IsProperIfAny terms.blocks o.message) (λ b. tt)
    (λ free. proper_done terms op e is free typed old)

-- ---- beats

proper_taken : {w : ℕ} (terms : EndConfig) (ch : Channel) (x : Beat w) (e : Endpoint w) → IsWidth w
    → IsPassed terms ch x e → HasBytes e → IsProperAnswer terms.blocks (taken x e).answer
proper_taken terms ch (beat.A x) e is passed old = tt
proper_taken terms ch (beat.C x) e is passed old = tt
proper_taken terms ch (beat.E x) e is passed old = tt
proper_taken terms ch (beat.B x) e is passed old =
    let block = block_at x.address in
    let p = held_at e block in
    let r = report_for x p in
    probe_ack-cases x.opcode p r block (copy_at e block) (λ m. IsProper terms.blocks m)
    (proper_data terms.blocks c.ProbeAckData (report_code r) 0 block (copy_at e block) is refl (copy_long e block old)
    passed.inside)
    (proper_bare terms.blocks c.ProbeAck (report_code r) 0 block refl passed.inside)
proper_taken {w} terms ch (beat.D x) e is passed old =
    go (ends (beat.D x) e.past) _ (ended-cases x.opcode x _ _ (λ o. IsProperAnswer terms.blocks o.answer)
    (λ grant. proper_grant_ack terms.blocks x.sink) (λ other. tt))
  where
    go : (b : Bool) (o : Offered w) → IsProperAnswer terms.blocks o.answer
        → IsProperAnswer terms.blocks (cond b o (silent Taken (with_past (beat.D x ∷ e.past) e))).answer
    go true o h = h
    go false o h = tt

pub offered-proper : {w : ℕ} (terms : EndConfig) (ch : Channel) (x : Beat w) (e : Endpoint w) → IsWidth w → HasBytes e
    → IsProperAnswer terms.blocks (offered terms ch x e).answer
offered-proper terms ch x e is old = offered-cases terms ch x e (λ o. IsProperAnswer terms.blocks o.answer) (λ r. tt) tt
    (λ passed. proper_taken terms ch x e is passed old)
