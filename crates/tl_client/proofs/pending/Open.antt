-- Which requests and Releases are open after a call.
use Rattle.tl_client.proofs.Imports.{IsWidth, Beat, BeatB, BeatD, Channel, Message, A, B, C, D, E, MessageA, MessageC}
use Rattle.tl_client.proofs.Imports.{MessageE, History, unfinished, beats-positive, ReleaseSource, Perm, prune_code}
use Rattle.tl_client.proofs.Imports.{prune_right, report_code, report_right, sent, payload_of, pending_with}
use Rattle.tl_client.proofs.Imports.{release_with, request_if_any, release_if_any, block_at, ends, is_release, pending}
use Rattle.tl_client.proofs.Imports.{request_of, release_of, pending-whole, release_of-whole, pending-quiet, Op, Load}
use Rattle.tl_client.proofs.Imports.{Store, Acquire, AcquireWhole, Release, Access, Taken, asked, done, load, store}
use Rattle.tl_client.proofs.Imports.{free_request, free_release, source_or_0, whole_grow, EndConfig, Endpoint, zeros}
use Rattle.tl_client.proofs.Imports.{copy_at, held_at, with_past, IsEndpointInvariant, Offered, offered, taken, granted}
use Rattle.tl_client.proofs.Imports.{responded, silent, report_for, open_beat, open_release, about, sourced}
use Rattle.tl_client.proofs.Imports.{acquisition, release}
use Rattle.std.proofs.Common.{◌≡◌, ℕ, Bool, true, false, cond, List, [], ◌∷◌, Option, Some, refl, sym, ◌∙◌, ap, subst}
use Rattle.tl_beat.specs.declared.beat.Beat.TheVariants as beat
use Rattle.tl_beat.specs.declared.channel.Channel.TheVariants as channel
use Rattle.tl_beat.specs.declared.opcode.OpA.TheVariants as a
use Rattle.tl_beat.specs.declared.opcode.OpC.TheVariants as c
use Rattle.tl_params.specs.declared.perm.Perm.TheVariants as perm
use Rattle.tl_client.specs.laws.After.{open_heard, open_by, release_heard, release_by}
use Rattle.tl_client.proofs.pending.AccountedResponse.{open_release-d}
use Rattle.tl_client.proofs.pending.AccountedSent.{open_release-a, open_release-c}
use Rattle.tl_client.proofs.pending.AccountedTaken.{names_b}
use Rattle.tl_client.proofs.endpoint.Cases.{IsPassed, asked-cases, offered-cases, ended-cases, probe_ack-cases}
use Rattle.tl_client.proofs.endpoint.Cases.{release-cases}
use Rattle.tl_client.proofs.endpoint.HeldAfter.{kept_past, granted_past, still_whole}
use Rattle.tl_client.proofs.pending.KeptOffered.{incoming_only}
use Rattle.tl_client.proofs.pending.Opens.{open_beat-a, open_beat-b, open_beat-c, open_beat-d, open_beat-e}
use Rattle.tl_client.proofs.pending.Opens.{unfinished-d}

-- ---- operations

-- what is open after this message
abbrev OpensBy : {w : ℕ} → ℕ → Option (Message w) → History w → History w → Type 0
OpensBy s m t u = (open_beat s u ≡ request_if_any s m (open_beat s t))
    × (open_release s u ≡ release_if_any s m (open_release s t))

opens_load : {w : ℕ} (s address size : ℕ) (p : Perm) (e : Endpoint w) → OpensBy s (load address size p e).message e.past
    (load address size p e).after.past
opens_load s address size perm.None e = (refl, refl)
opens_load s address size perm.Branch e = (refl, refl)
opens_load s address size perm.Trunk e = (refl, refl)

opens_store : {w : ℕ} (s address size value : ℕ) (p : Perm) (e : Endpoint w)
    → OpensBy s (store address size value p e).message e.past (store address size value p e).after.past
opens_store s address size value perm.None e = (refl, refl)
opens_store s address size value perm.Branch e = (refl, refl)
opens_store s address size value perm.Trunk e = (refl, refl)

opens_a : {w : ℕ} (s : ℕ) (m : MessageA w) (t : History w) → IsWidth w → unfinished channel.A t ≡ []
    → OpensBy s (Some (A m)) t (sent (A m) t)
opens_a s m t is none = (open_beat-a s m t is none, open_release-a s m t is none)

opens_done : {w : ℕ} (terms : EndConfig) (op : Op w) (e : Endpoint w) (s : ℕ) → IsWidth w → IsEndpointInvariant e
    → OpensBy s (done terms op e).message e.past (done terms op e).after.past
opens_done terms (Load address size) e s is kept = opens_load s address size (held_at e (block_at address)) e
opens_done terms (Store address size value) e s is kept =
    opens_store s address size value (held_at e (block_at address)) e
opens_done terms (Acquire block grow) e s is kept =
    opens_a s (acquisition a.AcquireBlock grow (source_or_0 (free_request terms e.past)) block) e.past is kept.a_whole
opens_done terms (AcquireWhole block bytes) e s is kept =
    opens_a s (acquisition a.AcquirePerm (whole_grow (held_at e block)) (source_or_0 (free_request terms e.past)) block)
    e.past is kept.a_whole
opens_done terms (Release block prune) e s is kept =
    let source = source_or_0 (free_release terms e.past) in
    subst (λ u. OpensBy s (Some (release prune source block (copy_at e block))) e.past u)
    (sym (kept_past block (prune_right prune) _))
    (release-cases prune source block (copy_at e block) (λ m. OpensBy s (Some m) e.past (sent m e.past)) (
      open_beat-c s (about c.ReleaseData (prune_code prune) source block (copy_at e block)) e.past is kept.c_whole,
      open_release-c s (about c.ReleaseData (prune_code prune) source block (copy_at e block)) e.past is kept.c_whole
          refl,
    ) (
      open_beat-c s (about c.Release (prune_code prune) source block zeros) e.past is kept.c_whole,
      open_release-c s (about c.Release (prune_code prune) source block zeros) e.past is kept.c_whole refl,
    ))
opens_done terms (Access (A m)) e s is kept = opens_a s (sourced (source_or_0 (free_request terms e.past)) m) e.past is
    kept.a_whole
opens_done terms (Access (B m)) e s is kept = (refl, refl)
opens_done terms (Access (C m)) e s is kept = (refl, refl)
opens_done terms (Access (D m)) e s is kept = (refl, refl)
opens_done terms (Access (E m)) e s is kept = (refl, refl)

opens_asked : {w : ℕ} (terms : EndConfig) (op : Op w) (e : Endpoint w) (s : ℕ) → IsWidth w → IsEndpointInvariant e
    → OpensBy s (asked terms op e).message e.past (asked terms op e).after.past
opens_asked terms op e s is kept = asked-cases terms op e (λ o. OpensBy s o.message e.past o.after.past)
    (λ b. (refl, refl)) (λ free. opens_done terms op e s is kept)

pub open-asked : {w : ℕ} (terms : EndConfig) (op : Op w) (e : Endpoint w) (s : ℕ) → IsWidth w → IsEndpointInvariant e
    → open_beat s (asked terms op e).after.past ≡ request_if_any s (asked terms op e).message (open_beat s e.past)
open-asked terms op e s is kept = (opens_asked terms op e s is kept).0

pub open_release-asked : {w : ℕ} (terms : EndConfig) (op : Op w) (e : Endpoint w) (s : ℕ) → IsWidth w
    → IsEndpointInvariant e
    → open_release s (asked terms op e).after.past ≡ release_if_any s (asked terms op e).message (open_release s e.past)
open_release-asked terms op e s is kept = (opens_asked terms op e s is kept).1

-- ---- beats

-- what is open after this beat, where it is taken
abbrev OpensAfter : {w : ℕ} → ℕ → Beat w → History w → History w → Type 0
OpensAfter s x t u = (open_beat s u ≡ open_heard s x t) × (open_release s u ≡ release_heard s x t)

abbrev OpensAs : {w : ℕ} → ℕ → Offered w → Beat w → History w → Type 0
OpensAs s o x t = (open_beat s o.after.past ≡ open_by s o.answer x t)
    × (open_release s o.after.past ≡ release_by s o.answer x t)

opens_b : {w : ℕ} (s : ℕ) (x : BeatB w) (t : History w) → OpensAfter s (beat.B x) t (beat.B x ∷ t)
opens_b s x t = (open_beat-b s x t, rw (pending-quiet (ReleaseSource s) (beat.B x) t refl refl, (names_b s x t).0) refl)

opens_c : {w : ℕ} (s : ℕ) (m : MessageC w) (x : BeatB w) (t : History w) → IsWidth w
    → unfinished channel.C (beat.B x ∷ t) ≡ [] → is_release m.opcode ≡ false
    → OpensAfter s (beat.B x) t (sent (C m) (beat.B x ∷ t))
opens_c {w} s m x t is none kind =
    let before = opens_b s x t in
    (open_beat-c s m (beat.B x ∷ t) is none ∙ before.0, same ∙ before.1)
  where
    same_pending : pending (ReleaseSource s) (sent (C m) (beat.B x ∷ t)) ≡ pending (ReleaseSource s) (beat.B x ∷ t)
    same_pending = pending-whole (ReleaseSource s) (C m) (beat.B x ∷ t) none (beats-positive (C m) is) ∙ unopened kind
      where
        unopened : is_release m.opcode ≡ false → pending_with (ReleaseSource s) (C m) (beat.B x ∷ t) ≡ pending
            (ReleaseSource s) (beat.B x ∷ t)
        unopened e = rw e refl

    same_release : release_of s (sent (C m) (beat.B x ∷ t)) ≡ release_of s (beat.B x ∷ t)
    same_release = release_of-whole s (C m) (beat.B x ∷ t) none (beats-positive (C m) is) ∙ unnamed kind
      where
        unnamed : is_release m.opcode ≡ false → release_with s (C m) (release_of s (beat.B x ∷ t)) ≡ release_of s
            (beat.B x ∷ t)
        unnamed e = rw e refl

    same : open_release s (sent (C m) (beat.B x ∷ t)) ≡ open_release s (beat.B x ∷ t)
    same = rw (same_pending, same_release) refl

opens_probed : {w : ℕ} (s : ℕ) (x : BeatB w) (e : Endpoint w) → IsWidth w → IsEndpointInvariant e
    → OpensAs s (taken (beat.B x) e) (beat.B x) e.past
opens_probed {w} s x e is kept =
    let block = block_at x.address in
    let p = held_at e block in
    let r = report_for x p in
    let none : unfinished channel.C (beat.B x ∷ e.past) ≡ [] = still_whole x e.past ∙ kept.c_whole in
    subst (λ u. OpensAfter s (beat.B x) e.past u) (sym (kept_past block (report_right r) _))
    (probe_ack-cases x.opcode p r block (copy_at e block)
    (λ m. OpensAfter s (beat.B x) e.past (sent m (beat.B x ∷ e.past)))
    (opens_c s (about c.ProbeAckData (report_code r) 0 block (copy_at e block)) x e.past is none refl)
    (opens_c s (about c.ProbeAck (report_code r) 0 block zeros) x e.past is none refl))

opens_d : {w : ℕ} (s : ℕ) (x : BeatD w) (t : History w) → OpensAfter s (beat.D x) t (beat.D x ∷ t)
opens_d s x t = (open_beat-d s x t, open_release-d s x t)

opens_e : {w : ℕ} (s : ℕ) (m : MessageE) (x : Beat w) (t u : History w) → IsWidth w → unfinished channel.E u ≡ []
    → OpensAfter s x t u → OpensAfter s x t (sent (E m) u)
opens_e {w} s m x t u is none before = (
  open_beat-e s m u is none ∙ before.0,
  rw (
    pending-whole (ReleaseSource s) (E m) u none (beats-positive {w = w} (E m) is),
    release_of-whole s (E m) u none (beats-positive {w = w} (E m) is),
  ) before.1,
)

opens_answered : {w : ℕ} (s : ℕ) (x : BeatD w) (e : Endpoint w) → IsWidth w → IsEndpointInvariant e
    → OpensAs s (taken (beat.D x) e) (beat.D x) e.past
opens_answered {w} s x e is kept = go (ends (beat.D x) e.past)
  where
    payload : List ℕ
    payload = payload_of (beat.D x ∷ unfinished channel.D e.past)

    same : (granted x.opcode (request_of x.source e.past) payload (with_past (beat.D x ∷ e.past) e)).past
        ≡ (beat.D x ∷ e.past)
    same = granted_past x.opcode (request_of x.source e.past) payload (with_past (beat.D x ∷ e.past) e)

    now : OpensAfter s (beat.D x) e.past (granted x.opcode (request_of x.source e.past) payload
        (with_past (beat.D x ∷ e.past) e)).past
    now = subst (λ u. OpensAfter s (beat.D x) e.past u) (sym same) (opens_d s x e.past)

    none : unfinished channel.E (granted x.opcode (request_of x.source e.past) payload
        (with_past (beat.D x ∷ e.past) e)).past ≡ []
    none = ap (λ u. unfinished channel.E u) same ∙ (unfinished-d x e.past).3 ∙ kept.e_whole

    go : (b : Bool) → OpensAs s (cond b (responded x (request_of x.source e.past) payload e)
        (silent Taken (with_past (beat.D x ∷ e.past) e))) (beat.D x) e.past
    go false = opens_d s x e.past
    go true = ended-cases x.opcode x _ (granted x.opcode (request_of x.source e.past) payload
        (with_past (beat.D x ∷ e.past) e)) (λ o. OpensAs s o (beat.D x) e.past)
        (λ grant. opens_e s (record { sink = x.sink }) (beat.D x) e.past _ is none now) (λ other. now)

opens_taken : {w : ℕ} (terms : EndConfig) (ch : Channel) (x : Beat w) (e : Endpoint w) (s : ℕ) → IsWidth w
    → IsEndpointInvariant e → IsPassed terms ch x e → OpensAs s (taken x e) x e.past
opens_taken terms ch (beat.A x) e s is kept passed =
    absurd (incoming_only terms.level ch (beat.A x) passed.comes passed.lawful)
opens_taken terms ch (beat.B x) e s is kept passed = opens_probed s x e is kept
opens_taken terms ch (beat.C x) e s is kept passed =
    absurd (incoming_only terms.level ch (beat.C x) passed.comes passed.lawful)
opens_taken terms ch (beat.D x) e s is kept passed = opens_answered s x e is kept
opens_taken terms ch (beat.E x) e s is kept passed =
    absurd (incoming_only terms.level ch (beat.E x) passed.comes passed.lawful)

opens_offered : {w : ℕ} (terms : EndConfig) (ch : Channel) (x : Beat w) (e : Endpoint w) (s : ℕ) → IsWidth w
    → IsEndpointInvariant e → OpensAs s (offered terms ch x e) x e.past
opens_offered terms ch x e s is kept = offered-cases terms ch x e (λ o. OpensAs s o x e.past) (λ r. (refl, refl))
    (refl, refl) (λ passed. opens_taken terms ch x e s is kept passed)

pub open-offered : {w : ℕ} (terms : EndConfig) (ch : Channel) (x : Beat w) (e : Endpoint w) (s : ℕ) → IsWidth w
    → IsEndpointInvariant e
    → open_beat s (offered terms ch x e).after.past ≡ open_by s (offered terms ch x e).answer x e.past
open-offered terms ch x e s is kept = (opens_offered terms ch x e s is kept).0

pub open_release-offered : {w : ℕ} (terms : EndConfig) (ch : Channel) (x : Beat w) (e : Endpoint w) (s : ℕ) → IsWidth w
    → IsEndpointInvariant e
    → open_release s (offered terms ch x e).after.past ≡ release_by s (offered terms ch x e).answer x e.past
open_release-offered terms ch x e s is kept = (opens_offered terms ch x e s is kept).1
