-- A client keeps blocks of 64 bytes.
use Rattle.tl_client.proofs.Imports.{IsWidth, Beat, BeatA, BeatB, BeatD, Channel, OpD, A, B, C, D, E, History}
use Rattle.tl_client.proofs.Imports.{unfinished, Perm, prune_right, report_right, payload_of, block_at, ends}
use Rattle.tl_client.proofs.Imports.{request_of, Op, Load, Store, Acquire, AcquireWhole, Release, Access, Taken, heard}
use Rattle.tl_client.proofs.Imports.{copy_granted, waiting_granted, asked, done, load, store, copy_stored, EndConfig}
use Rattle.tl_client.proofs.Imports.{Endpoint, fresh, zeros, copy_at, held_at, kept_for, with_past, IsEndpointInvariant}
use Rattle.tl_client.proofs.Imports.{holds, is_acquire_perm, Offered, offered, taken, granted, responded, silent}
use Rattle.tl_client.proofs.Imports.{report_for}
use Rattle.std.proofs.Common.{◌≡◌, ℕ, Bool, true, false, not, cond, leb, ◌&&◌, List, [], ◌∷◌, length, Option, Some}
use Rattle.std.proofs.Common.{None, unwrap_or, refl, sym, subst}
use Rattle.std.specs.Prelude.{◌==◌}
use Rattle.std.proofs.lemmas.Bool.{or_parts, not-false}
use Rattle.tl_beat.specs.declared.beat.Beat.TheVariants as beat
use Rattle.tl_beat.specs.declared.channel.Channel.TheVariants as channel
use Rattle.tl_beat.specs.declared.opcode.OpD.TheVariants as d
use Rattle.tl_params.specs.declared.perm.Perm.TheVariants as perm
use Rattle.tl_rules.specs.laws.Typed.{IsTyped, AreTyped}
use Rattle.tl_rules.proofs.Sizes.{response-small}
use Rattle.tl_client.specs.statement.Ask.{is_word}
use Rattle.tl_client.specs.laws.Bytes.{IsLong, IsTypedOp, IsShort, HasBytes}
use Rattle.tl_client.proofs.endpoint.AfterAsked.{kept_copies}
use Rattle.tl_client.proofs.pending.KeptAsked.{kept_waiting}
use Rattle.tl_client.proofs.endpoint.AfterOffered.{granted_is}
use Rattle.tl_client.proofs.messages.BytesTaken.{fewer-before, payload-last, short-part}
use Rattle.tl_client.proofs.endpoint.Cases.{NotBusy, asked-cases, IsPassed, offered-cases, ended-cases}
use Rattle.tl_client.proofs.pending.KeptOffered.{incoming_only}
use Rattle.tl_client.proofs.pending.Opens.{unfinished-d}
use Rattle.tl_client.proofs.endpoint.Outstanding.{unfinished-asked, unfinished-offered}
use Rattle.tl_client.proofs.caching_client.Stores.{word_room, length-stored}

-- ---- bytes

-- copies and waiting bytes
abbrev AreLong : {w : ℕ} → Endpoint w → Type 0
AreLong e = ((k : ℕ) → IsLong (e.copies k)) × ((k : ℕ) → IsLong (e.waiting k))

one_of_two : (b : Bool) (x y : Option (List ℕ)) → IsLong x → IsLong y → IsLong (cond b x y)
one_of_two true x y p q = p
one_of_two false x y p q = q

pub long_or_zeros : (o : Option (List ℕ)) → IsLong o → length (unwrap_or o zeros) ≡ 64
long_or_zeros None e = refl
long_or_zeros (Some bytes) e = e

long_kept_for : {w : ℕ} (block : ℕ) (p : Perm) (f : Endpoint w) → AreLong f → AreLong (kept_for block p f)
long_kept_for block p f long = (
  λ k. subst (λ o. IsLong o) (sym (kept_copies block p f k))
      (one_of_two ((k == block) && not (holds p)) None (f.copies k) tt (long.0 k)),
  λ k. subst (λ o. IsLong o) (sym (kept_waiting block p f k)) (long.1 k),
)

-- ---- operations

long_load : {w : ℕ} (address size : ℕ) (p : Perm) (e : Endpoint w) → AreLong e → AreLong (load address size p e).after
long_load address size perm.None e long = long
long_load address size perm.Branch e long = long
long_load address size perm.Trunk e long = long

long_store : {w : ℕ} (address size value : ℕ) (p : Perm) (e : Endpoint w) → is_word address size ≡ true → AreLong e
    → AreLong (store address size value p e).after
long_store address size value perm.None e word long = long
long_store address size value perm.Branch e word long = long
long_store address size value perm.Trunk e word long = (
  λ k. one_of_two (k == block_at address) (Some (copy_stored address size value (copy_at e (block_at address))))
      (e.copies k)
      (length-stored address size value (copy_at e (block_at address))
      (long_or_zeros (e.copies (block_at address)) (long.0 (block_at address))) (word_room address size word))
      (long.0 k),
  long.1,
)

long_done : {w : ℕ} (terms : EndConfig) (op : Op w) (e : Endpoint w) → NotBusy terms op e → IsTypedOp op → AreLong e
    → AreLong (done terms op e).after
long_done terms (Load address size) e free typed long = long_load address size (held_at e (block_at address)) e long
long_done terms (Store address size value) e free typed long =
    let formed = (or_parts (leb terms.blocks (block_at address)) (not (is_word address size)) free.b5).1 in
    long_store address size value (held_at e (block_at address)) e (not-false (is_word address size) formed) long
long_done terms (Acquire block grow) e free typed long = long
long_done terms (AcquireWhole block bytes) e free typed long =
    (long.0, λ k. one_of_two (k == block) (Some bytes) (e.waiting k) typed (long.1 k))
long_done terms (Release block prune) e free typed long = long_kept_for block (prune_right prune) _ long
long_done terms (Access (A m)) e free typed long = long
long_done terms (Access (B m)) e free typed long = long
long_done terms (Access (C m)) e free typed long = long
long_done terms (Access (D m)) e free typed long = long
long_done terms (Access (E m)) e free typed long = long

pub bytes-asked : {w : ℕ} (terms : EndConfig) (op : Op w) (e : Endpoint w) → IsWidth w → IsEndpointInvariant e
    → IsTypedOp op → HasBytes e → HasBytes (asked terms op e).after
bytes-asked {w} terms op e is kept typed old =
    let long : AreLong (asked terms op e).after =
    asked-cases terms op e (λ o. AreLong o.after) (λ b. (old.long_copies, old.long_waiting))
    (λ free. long_done terms op e free typed (old.long_copies, old.long_waiting)) in
    let same = unfinished-asked terms op e channel.D is kept in
    record {
      long_copies = long.0;
      long_waiting = long.1;
      typed_burst = subst (λ t. AreTyped t) (sym same) old.typed_burst;
      short_burst = subst (λ t. IsShort t) (sym same) old.short_burst;
    }

-- ---- beats

long_granted : {w : ℕ} (opcode : OpD) (r : Option (BeatA w)) (payload : List ℕ) (k : ℕ) (e : Endpoint w)
    → length payload ≡ 64 → AreLong e
    → IsLong (copy_granted opcode r payload k e) × IsLong (waiting_granted opcode r k (e.waiting k))
long_granted d.Grant None payload k e whole long = (long.0 k, long.1 k)
long_granted d.GrantData None payload k e whole long = (long.0 k, long.1 k)
long_granted d.Grant (Some r) payload k e whole long = (
  one_of_two ((k == block_at r.address) && is_acquire_perm r.opcode) (e.waiting k) (e.copies k) (long.1 k) (long.0 k),
  one_of_two ((k == block_at r.address) && is_acquire_perm r.opcode) None (e.waiting k) tt (long.1 k),
)
long_granted d.GrantData (Some r) payload k e whole long =
    (one_of_two (k == block_at r.address) (Some payload) (e.copies k) whole (long.0 k), long.1 k)
long_granted d.AccessAck r payload k e whole long = (long.0 k, long.1 k)
long_granted d.AccessAckData r payload k e whole long = (long.0 k, long.1 k)
long_granted d.HintAck r payload k e whole long = (long.0 k, long.1 k)
long_granted d.ReleaseAck r payload k e whole long = (long.0 k, long.1 k)

long_responded : {w : ℕ} (x : BeatD w) (r : Option (BeatA w)) (payload : List ℕ) (e : Endpoint w) → length payload ≡ 64
    → AreLong e → AreLong (responded x r payload e).after
long_responded {w} x r payload e whole long = ended-cases x.opcode x _ f (λ o. AreLong o.after) (λ grant. now)
    (λ other. now)
  where
    f : Endpoint w
    f = granted x.opcode r payload (with_past (beat.D x ∷ e.past) e)

    now : AreLong (granted x.opcode r payload (with_past (beat.D x ∷ e.past) e))
    now =
        let g = granted_is x.opcode r payload (with_past (beat.D x ∷ e.past) e) in
        let parts = λ (k : ℕ). long_granted x.opcode r payload k (with_past (beat.D x ∷ e.past) e) whole long in (
          λ k. subst (λ o. IsLong o) (sym (g.new_copies k)) (parts k).0,
          λ k. subst (λ o. IsLong o)
              (sym (g.new_waiting k)) (parts k).1,
        )

long_taken : {w : ℕ} (terms : EndConfig) (ch : Channel) (x : Beat w) (e : Endpoint w) → IsWidth w → IsTyped x
    → IsPassed terms ch x e → HasBytes e → AreLong (taken x e).after
long_taken terms ch (beat.A x) e is typed passed old =
    absurd (incoming_only terms.level ch (beat.A x) passed.comes passed.lawful)
long_taken terms ch (beat.C x) e is typed passed old =
    absurd (incoming_only terms.level ch (beat.C x) passed.comes passed.lawful)
long_taken terms ch (beat.E x) e is typed passed old =
    absurd (incoming_only terms.level ch (beat.E x) passed.comes passed.lawful)
long_taken terms ch (beat.B x) e is typed passed old =
    long_kept_for (block_at x.address) (report_right (report_for x (held_at e (block_at x.address)))) _
    (old.long_copies, old.long_waiting)
long_taken {w} terms ch (beat.D x) e is typed passed old = go (ends (beat.D x) e.past) refl
  where
    go : (b : Bool) → ends (beat.D x) e.past ≡ b
        → AreLong (cond b (responded x (request_of x.source e.past)
        (payload_of (beat.D x ∷ unfinished channel.D e.past)) e)
        (silent Taken (with_past (beat.D x ∷ e.past) e))).after
    go false more = (old.long_copies, old.long_waiting)
    go true last =
        long_responded x (request_of x.source e.past) (payload_of (beat.D x ∷ unfinished channel.D e.past)) e
        (payload-last x e.past is (response-small terms.level ch x is passed.lawful) last typed old.typed_burst)
        (old.long_copies, old.long_waiting)

-- what is unfinished on channel D once the beat was taken
abbrev IsBurstKept : {w : ℕ} → List (Beat w) → Type 0
IsBurstKept burst = AreTyped burst × IsShort burst

pub burst_b : {w : ℕ} (x : BeatB w) (t : History w) → unfinished channel.D (beat.B x ∷ t) ≡ unfinished channel.D t
unfolding unfinished
burst_b x t = refl

burst_d : {w : ℕ} (terms : EndConfig) (ch : Channel) (x : BeatD w) (e : Endpoint w) → IsWidth w → IsTyped (beat.D x)
    → IsPassed terms ch (beat.D x) e → HasBytes e
    → IsBurstKept (unfinished channel.D (beat.D x ∷ e.past))
burst_d {w} terms ch x e is typed passed old =
    subst (λ t. IsBurstKept t) (sym (unfinished-d x e.past).4) (go (ends (beat.D x) e.past) refl)
  where
    go : (b : Bool) → ends (beat.D x) e.past ≡ b → IsBurstKept (cond b [] (beat.D x ∷ unfinished channel.D e.past))
    go true last = (tt, tt)
    go false more = (
      (typed, old.typed_burst),
      short-part x e.past (response-small terms.level ch x is passed.lawful)
          (fewer-before terms.profile x e.past is passed.order old.short_burst) more,
    )

burst_heard : {w : ℕ} (terms : EndConfig) (ch : Channel) (x : Beat w) (e : Endpoint w) → IsWidth w → IsTyped x
    → IsPassed terms ch x e → HasBytes e → IsBurstKept (unfinished channel.D (x ∷ e.past))
burst_heard terms ch (beat.A x) e is typed passed old =
    absurd (incoming_only terms.level ch (beat.A x) passed.comes passed.lawful)
burst_heard terms ch (beat.C x) e is typed passed old =
    absurd (incoming_only terms.level ch (beat.C x) passed.comes passed.lawful)
burst_heard terms ch (beat.E x) e is typed passed old =
    absurd (incoming_only terms.level ch (beat.E x) passed.comes passed.lawful)
burst_heard terms ch (beat.B x) e is typed passed old = subst (λ t. IsBurstKept t) (sym (burst_b x e.past))
    (old.typed_burst, old.short_burst)
burst_heard terms ch (beat.D x) e is typed passed old = burst_d terms ch x e is typed passed old

heard_taken : {w : ℕ} (x : Beat w) (e : Endpoint w) → heard (taken x e).answer x e.past ≡ (x ∷ e.past)
heard_taken (beat.A x) e = refl
heard_taken (beat.B x) e = refl
heard_taken (beat.C x) e = refl
heard_taken (beat.E x) e = refl
heard_taken {w} (beat.D x) e =
    go (ends (beat.D x) e.past) _
    (ended-cases x.opcode x _ _ (λ o. heard o.answer (beat.D x) e.past ≡ (beat.D x ∷ e.past)) (λ grant. refl)
    (λ other. refl))
  where
    go : (b : Bool) (o : Offered w) → heard o.answer (beat.D x) e.past ≡ (beat.D x ∷ e.past)
        → heard (cond b o (silent Taken (with_past (beat.D x ∷ e.past) e))).answer (beat.D x)
        e.past ≡ (beat.D x ∷ e.past)
    go true o h = h
    go false o h = refl

pub bytes-offered : {w : ℕ} (terms : EndConfig) (ch : Channel) (x : Beat w) (e : Endpoint w) → IsWidth w
    → IsEndpointInvariant e → IsTyped x → HasBytes e → HasBytes (offered terms ch x e).after
bytes-offered {w} terms ch x e is kept typed old =
    let long : AreLong (offered terms ch x e).after =
    offered-cases terms ch x e (λ o. AreLong o.after) (λ r. (old.long_copies, old.long_waiting))
    (old.long_copies, old.long_waiting) (λ passed. long_taken terms ch x e is typed passed old) in
    let same = unfinished-offered terms ch x e channel.D is kept in
    let burst : IsBurstKept (unfinished channel.D (heard (offered terms ch x e).answer x e.past)) =
    offered-cases terms ch x e (λ o. IsBurstKept (unfinished channel.D (heard o.answer x e.past)))
    (λ r. (old.typed_burst, old.short_burst)) (old.typed_burst, old.short_burst)
    (λ passed. subst (λ t. IsBurstKept (unfinished channel.D t)) (sym (heard_taken x e))
    (burst_heard terms ch x e is typed passed old)) in
    record {
      long_copies = long.0;
      long_waiting = long.1;
      typed_burst = subst (λ t. AreTyped t) (sym same) burst.0;
      short_burst = subst (λ t. IsShort t) (sym same) burst.1;
    }

pub bytes-fresh : (w : ℕ) → HasBytes (fresh {w = w})
unfolding unfinished
bytes-fresh w = record { long_copies = λ k. tt; long_waiting = λ k. tt; typed_burst = tt; short_burst = tt }
