-- What a client's history says after a call.
use Rattle.tl_client.proofs.Imports.{IsWidth, Beat, BeatB, BeatD, Channel, OpB, OpD, Message, A, B, C, D, E, MessageC}
use Rattle.tl_client.proofs.Imports.{MessageE, History, unfinished, beats-positive, Key, Prune, Report, Perm}
use Rattle.tl_client.proofs.Imports.{report_code, report_right, sent, sent_if_any, payload_of, release_with}
use Rattle.tl_client.proofs.Imports.{request_if_any, release_if_any, block_at, ends, is_release, pending, request_of}
use Rattle.tl_client.proofs.Imports.{release_of, pending-whole, unfinished-whole, request_of-whole, release_of-whole}
use Rattle.tl_client.proofs.Imports.{Op, Load, Store, Acquire, AcquireWhole, Release, Access, Finish, Taken, heard}
use Rattle.tl_client.proofs.Imports.{handed, asked, done, load, store, source_or_0, free_release, EndConfig, Endpoint}
use Rattle.tl_client.proofs.Imports.{zeros, copy_at, held_at, with_past, IsEndpointInvariant, Offered, offered, taken}
use Rattle.tl_client.proofs.Imports.{ended, granted, responded, silent, report_for, about, release, probe_ack}
use Rattle.std.proofs.Common.{◌≡◌, ℕ, Bool, true, false, cond, List, [], ◌∷◌, Option, Some, None, refl, sym, ◌∙◌, ap}
use Rattle.std.proofs.Common.{subst}
use Rattle.std.specs.Prelude.{⊤}
use Rattle.tl_beat.specs.declared.beat.Beat.TheVariants as beat
use Rattle.tl_beat.specs.declared.channel.Channel.TheVariants as channel
use Rattle.tl_beat.specs.declared.opcode.OpB.TheVariants as b
use Rattle.tl_beat.specs.declared.opcode.OpD.TheVariants as d
use Rattle.tl_beat.specs.declared.opcode.OpC.TheVariants as c
use Rattle.tl_burst.specs.statement.Messages.{channel_in}
use Rattle.tl_params.specs.declared.param.Prune.TheVariants as prune
use Rattle.tl_params.specs.declared.perm.Perm.TheVariants as perm
use Rattle.tl_rules.specs.laws.Handed.{pending_if_any}
use Rattle.tl_client.proofs.pending.AccountedResponse.{release_of-d}
use Rattle.tl_client.proofs.pending.AccountedTaken.{names_b}
use Rattle.tl_client.proofs.endpoint.AfterAsked.{past-asked}
use Rattle.tl_client.proofs.endpoint.AfterOffered.{past-offered}
use Rattle.tl_client.proofs.endpoint.Cases.{IsPassed, asked-cases, offered-cases, ended-cases, probe_ack-cases}
use Rattle.tl_client.proofs.endpoint.HeldAfter.{kept_past, granted_past, still_whole}
use Rattle.tl_client.proofs.pending.KeptOffered.{incoming_only}
use Rattle.tl_client.proofs.pending.Opens.{request_of-b, request_of-d, unfinished-d}

-- nothing is unfinished on the channel of the message
abbrev pub IsFree : {w : ℕ} → Option (Message w) → History w → Type 0
IsFree None t = ⊤
IsFree (Some m) t = unfinished (channel_in m) t ≡ []

-- ---- operations

free_load : {w : ℕ} (address size : ℕ) (p : Perm) (e : Endpoint w) → IsFree (load address size p e).message e.past
free_load address size perm.None e = tt
free_load address size perm.Branch e = tt
free_load address size perm.Trunk e = tt

free_store : {w : ℕ} (address size value : ℕ) (p : Perm) (e : Endpoint w)
    → IsFree (store address size value p e).message e.past
free_store address size value perm.None e = tt
free_store address size value perm.Branch e = tt
free_store address size value perm.Trunk e = tt

free_release_c : {w : ℕ} (p : Prune) (source block : ℕ) (copy : List ℕ) (t : History w) → unfinished channel.C t ≡ []
    → IsFree (Some (release p source block copy)) t
free_release_c prune.TtoB source block copy t none = none
free_release_c prune.TtoN source block copy t none = none
free_release_c prune.BtoN source block copy t none = none

free_done : {w : ℕ} (terms : EndConfig) (op : Op w) (e : Endpoint w) → IsEndpointInvariant e
    → IsFree (done terms op e).message e.past
free_done terms (Load address size) e kept = free_load address size (held_at e (block_at address)) e
free_done terms (Store address size value) e kept = free_store address size value (held_at e (block_at address)) e
free_done terms (Acquire block grow) e kept = kept.a_whole
free_done terms (AcquireWhole block bytes) e kept = kept.a_whole
free_done terms (Release block prune) e kept = free_release_c prune (source_or_0 (free_release terms e.past)) block
    (copy_at e block) e.past kept.c_whole
free_done terms (Access (A m)) e kept = kept.a_whole
free_done terms (Access (B m)) e kept = tt
free_done terms (Access (C m)) e kept = tt
free_done terms (Access (D m)) e kept = tt
free_done terms (Access (E m)) e kept = tt

pub free_asked : {w : ℕ} (terms : EndConfig) (op : Op w) (e : Endpoint w) → IsEndpointInvariant e
    → IsFree (asked terms op e).message e.past
free_asked terms op e kept = asked-cases terms op e (λ o. IsFree o.message e.past) (λ b. tt)
    (λ not_busy. free_done terms op e kept)

-- ---- beats

abbrev pub IsFreeAfter : {w : ℕ} → Offered w → Beat w → History w → Type 0
IsFreeAfter o x t = IsFree (handed o.answer) (heard o.answer x t)

free_probe_ack : {w : ℕ} (opcode : OpB) (p : Perm) (r : Report) (block : ℕ) (copy : List ℕ) (t : History w)
    → unfinished channel.C t ≡ [] → IsFree (Some (probe_ack opcode p r block copy)) t
free_probe_ack b.ProbeBlock perm.Trunk r block copy t none = none
free_probe_ack b.ProbeBlock perm.Branch r block copy t none = none
free_probe_ack b.ProbeBlock perm.None r block copy t none = none
free_probe_ack b.ProbePerm p r block copy t none = none
free_probe_ack b.PutFullData p r block copy t none = none
free_probe_ack b.PutPartialData p r block copy t none = none
free_probe_ack b.ArithmeticData p r block copy t none = none
free_probe_ack b.LogicalData p r block copy t none = none
free_probe_ack b.Get p r block copy t none = none
free_probe_ack b.Intent p r block copy t none = none

free_ended : {w : ℕ} (opcode : OpD) (x : BeatD w) (f : Finish) (g : Endpoint w) (t : History w)
    → unfinished channel.E (beat.D x ∷ t) ≡ [] → IsFreeAfter (ended opcode x f g) (beat.D x) t
free_ended d.Grant x f g t none = none
free_ended d.GrantData x f g t none = none
free_ended d.AccessAck x f g t none = tt
free_ended d.AccessAckData x f g t none = tt
free_ended d.HintAck x f g t none = tt
free_ended d.ReleaseAck x f g t none = tt

free_taken : {w : ℕ} (x : Beat w) (e : Endpoint w) → IsEndpointInvariant e → IsFreeAfter (taken x e) x e.past
free_taken (beat.A x) e kept = tt
free_taken (beat.B x) e kept =
    free_probe_ack x.opcode (held_at e (block_at x.address)) (report_for x (held_at e (block_at x.address)))
    (block_at x.address)
    (copy_at e (block_at x.address)) (beat.B x ∷ e.past) (still_whole x e.past ∙ kept.c_whole)
free_taken (beat.C x) e kept = tt
free_taken {w} (beat.D x) e kept =
    go (ends (beat.D x) e.past) _ (free_ended x.opcode x _ _ e.past ((unfinished-d x e.past).3 ∙ kept.e_whole))
  where
    go : (b : Bool) (o : Offered w) → IsFreeAfter o (beat.D x) e.past
        → IsFreeAfter (cond b o (silent Taken (with_past (beat.D x ∷ e.past) e))) (beat.D x) e.past
    go true o free = free
    go false o free = tt
free_taken (beat.E x) e kept = tt

pub free_offered : {w : ℕ} (terms : EndConfig) (ch : Channel) (x : Beat w) (e : Endpoint w) → IsEndpointInvariant e
    → IsFreeAfter (offered terms ch x e) x e.past
free_offered terms ch x e kept = offered-cases terms ch x e (λ o. IsFreeAfter o x e.past) (λ r. tt) tt
    (λ passed. free_taken x e kept)

-- ---- what is said after a message, if there is one

pending_after : {w : ℕ} (k : Key) (o : Option (Message w)) (t : History w) → IsWidth w → IsFree o t
    → pending k (sent_if_any o t) ≡ pending_if_any k o t
pending_after k None t is free = refl
pending_after k (Some m) t is free = pending-whole k m t free (beats-positive m is)

request_after : {w : ℕ} (s : ℕ) (o : Option (Message w)) (t : History w) → IsWidth w → IsFree o t
    → request_of s (sent_if_any o t) ≡ request_if_any s o (request_of s t)
request_after s None t is free = refl
request_after s (Some m) t is free = request_of-whole s m t free (beats-positive m is)

release_after : {w : ℕ} (s : ℕ) (o : Option (Message w)) (t : History w) → IsWidth w → IsFree o t
    → release_of s (sent_if_any o t) ≡ release_if_any s o (release_of s t)
release_after s None t is free = refl
release_after s (Some m) t is free = release_of-whole s m t free (beats-positive m is)

unfinished_after : {w : ℕ} (ch : Channel) (o : Option (Message w)) (t : History w) → IsWidth w → IsFree o t
    → unfinished ch (sent_if_any o t) ≡ unfinished ch t
unfinished_after ch None t is free = refl
unfinished_after ch (Some m) t is free = unfinished-whole ch m t free (beats-positive m is)

-- ---- after an operation

pub pending-asked : {w : ℕ} (terms : EndConfig) (op : Op w) (e : Endpoint w) (k : Key) → IsWidth w
    → IsEndpointInvariant e → pending k (asked terms op e).after.past ≡ pending_if_any k (asked terms op e).message
    e.past
pending-asked terms op e k is kept = ap (λ t. pending k t) (past-asked terms op e) ∙ pending_after k
    (asked terms op e).message e.past is (free_asked terms op e kept)

pub request-asked : {w : ℕ} (terms : EndConfig) (op : Op w) (e : Endpoint w) (s : ℕ) → IsWidth w → IsEndpointInvariant e
    → request_of s (asked terms op e).after.past ≡ request_if_any s (asked terms op e).message (request_of s e.past)
request-asked terms op e s is kept = ap (λ t. request_of s t) (past-asked terms op e) ∙ request_after s
    (asked terms op e).message e.past is (free_asked terms op e kept)

pub release-asked : {w : ℕ} (terms : EndConfig) (op : Op w) (e : Endpoint w) (s : ℕ) → IsWidth w → IsEndpointInvariant e
    → release_of s (asked terms op e).after.past ≡ release_if_any s (asked terms op e).message (release_of s e.past)
release-asked terms op e s is kept = ap (λ t. release_of s t) (past-asked terms op e) ∙ release_after s
    (asked terms op e).message e.past is (free_asked terms op e kept)

pub unfinished-asked : {w : ℕ} (terms : EndConfig) (op : Op w) (e : Endpoint w) (ch : Channel) → IsWidth w
    → IsEndpointInvariant e → unfinished ch (asked terms op e).after.past ≡ unfinished ch e.past
unfinished-asked terms op e ch is kept = ap (λ t. unfinished ch t) (past-asked terms op e) ∙ unfinished_after ch
    (asked terms op e).message e.past is (free_asked terms op e kept)

-- ---- after a beat

pub pending-offered : {w : ℕ} (terms : EndConfig) (ch : Channel) (x : Beat w) (e : Endpoint w) (k : Key) → IsWidth w
    → IsEndpointInvariant e
    → pending k (offered terms ch x e).after.past ≡ pending_if_any k (handed (offered terms ch x e).answer)
    (heard (offered terms ch x e).answer x e.past)
pending-offered terms ch x e k is kept =
    ap (λ t. pending k t) (past-offered terms ch x e)
    ∙ pending_after k (handed (offered terms ch x e).answer) (heard (offered terms ch x e).answer x e.past) is
    (free_offered terms ch x e kept)

pub unfinished-offered : {w : ℕ} (terms : EndConfig) (ch : Channel) (x : Beat w) (e : Endpoint w) (at : Channel)
    → IsWidth w → IsEndpointInvariant e
    → unfinished at (offered terms ch x e).after.past ≡ unfinished at (heard (offered terms ch x e).answer x e.past)
unfinished-offered terms ch x e at is kept =
    ap (λ t. unfinished at t) (past-offered terms ch x e)
    ∙ unfinished_after at (handed (offered terms ch x e).answer) (heard (offered terms ch x e).answer x e.past) is
    (free_offered terms ch x e kept)

-- ---- the requests and Releases after a beat

-- they are as before
abbrev HasSameNames : {w : ℕ} → ℕ → History w → History w → Type 0
HasSameNames s t u = (request_of s u ≡ request_of s t) × (release_of s u ≡ release_of s t)

names_d : {w : ℕ} (s : ℕ) (x : BeatD w) (t : History w) → HasSameNames s t (beat.D x ∷ t)
names_d s x t = (request_of-d s x t, release_of-d s x t)

names_c : {w : ℕ} (s : ℕ) (m : MessageC w) (x : BeatB w) (t : History w) → IsWidth w
    → unfinished channel.C (beat.B x ∷ t) ≡ [] → is_release m.opcode ≡ false
    → HasSameNames s t (sent (C m) (beat.B x ∷ t))
names_c s m x t is none kind = (
  request_of-whole s (C m) (beat.B x ∷ t) none (beats-positive (C m) is) ∙ request_of-b s x t,
  release_of-whole s (C m) (beat.B x ∷ t) none (beats-positive (C m) is) ∙ unnamed kind ∙ (names_b s x t).0,
)
  where
    unnamed : is_release m.opcode ≡ false → release_with s (C m) (release_of s (beat.B x ∷ t)) ≡ release_of s
        (beat.B x ∷ t)
    unnamed e = rw e refl

names_probed : {w : ℕ} (s : ℕ) (x : BeatB w) (e : Endpoint w) → IsWidth w → IsEndpointInvariant e
    → HasSameNames s e.past (taken (beat.B x) e).after.past
names_probed {w} s x e is kept =
    let block = block_at x.address in
    let p = held_at e block in
    let r = report_for x p in
    let none : unfinished channel.C (beat.B x ∷ e.past) ≡ [] = still_whole x e.past ∙ kept.c_whole in
    subst (λ u. HasSameNames s e.past u) (sym (kept_past block (report_right r) _))
    (probe_ack-cases x.opcode p r block (copy_at e block) (λ m. HasSameNames s e.past (sent m (beat.B x ∷ e.past)))
    (names_c s (about c.ProbeAckData (report_code r) 0 block (copy_at e block)) x e.past is none refl)
    (names_c s (about c.ProbeAck (report_code r) 0 block zeros) x e.past is none refl))

names_e : {w : ℕ} (s : ℕ) (m : MessageE) (t u : History w) → IsWidth w → unfinished channel.E u ≡ []
    → HasSameNames s t u → HasSameNames s t (sent (E m) u)
names_e {w} s m t u is none same = (
  request_of-whole s (E m) u none (beats-positive {w = w} (E m) is) ∙ same.0,
  release_of-whole s (E m) u none
      (beats-positive {w = w} (E m) is) ∙ same.1,
)

names_answered : {w : ℕ} (s : ℕ) (x : BeatD w) (e : Endpoint w) → IsWidth w → IsEndpointInvariant e
    → HasSameNames s e.past (taken (beat.D x) e).after.past
names_answered {w} s x e is kept = go (ends (beat.D x) e.past)
  where
    payload : List ℕ
    payload = payload_of (beat.D x ∷ unfinished channel.D e.past)

    same : (granted x.opcode (request_of x.source e.past) payload (with_past (beat.D x ∷ e.past) e)).past
        ≡ (beat.D x ∷ e.past)
    same = granted_past x.opcode (request_of x.source e.past) payload (with_past (beat.D x ∷ e.past) e)

    now : HasSameNames s e.past (granted x.opcode (request_of x.source e.past) payload
        (with_past (beat.D x ∷ e.past) e)).past
    now = subst (λ u. HasSameNames s e.past u) (sym same) (names_d s x e.past)

    none : unfinished channel.E (granted x.opcode (request_of x.source e.past) payload
        (with_past (beat.D x ∷ e.past) e)).past ≡ []
    none = ap (λ u. unfinished channel.E u) same ∙ (unfinished-d x e.past).3 ∙ kept.e_whole

    go : (b : Bool) → HasSameNames s e.past (cond b (responded x (request_of x.source e.past) payload e)
        (silent Taken (with_past (beat.D x ∷ e.past) e))).after.past
    go false = names_d s x e.past
    go true = ended-cases x.opcode x _ (granted x.opcode (request_of x.source e.past) payload
        (with_past (beat.D x ∷ e.past) e)) (λ o. HasSameNames s e.past o.after.past)
        (λ grant. names_e s (record { sink = x.sink }) e.past _ is none now) (λ other. now)

names_taken : {w : ℕ} (terms : EndConfig) (ch : Channel) (x : Beat w) (e : Endpoint w) (s : ℕ) → IsWidth w
    → IsEndpointInvariant e → IsPassed terms ch x e → HasSameNames s e.past (taken x e).after.past
names_taken terms ch (beat.A x) e s is kept passed =
    absurd (incoming_only terms.level ch (beat.A x) passed.comes passed.lawful)
names_taken terms ch (beat.B x) e s is kept passed = names_probed s x e is kept
names_taken terms ch (beat.C x) e s is kept passed =
    absurd (incoming_only terms.level ch (beat.C x) passed.comes passed.lawful)
names_taken terms ch (beat.D x) e s is kept passed = names_answered s x e is kept
names_taken terms ch (beat.E x) e s is kept passed =
    absurd (incoming_only terms.level ch (beat.E x) passed.comes passed.lawful)

names_offered : {w : ℕ} (terms : EndConfig) (ch : Channel) (x : Beat w) (e : Endpoint w) (s : ℕ) → IsWidth w
    → IsEndpointInvariant e → HasSameNames s e.past (offered terms ch x e).after.past
names_offered terms ch x e s is kept = offered-cases terms ch x e (λ o. HasSameNames s e.past o.after.past)
    (λ r. (refl, refl)) (refl, refl) (λ passed. names_taken terms ch x e s is kept passed)

pub request-offered : {w : ℕ} (terms : EndConfig) (ch : Channel) (x : Beat w) (e : Endpoint w) (s : ℕ) → IsWidth w
    → IsEndpointInvariant e → request_of s (offered terms ch x e).after.past ≡ request_of s e.past
request-offered terms ch x e s is kept = (names_offered terms ch x e s is kept).0

pub release-offered : {w : ℕ} (terms : EndConfig) (ch : Channel) (x : Beat w) (e : Endpoint w) (s : ℕ) → IsWidth w
    → IsEndpointInvariant e → release_of s (offered terms ch x e).after.past ≡ release_of s e.past
release-offered terms ch x e s is kept = (names_offered terms ch x e s is kept).1
