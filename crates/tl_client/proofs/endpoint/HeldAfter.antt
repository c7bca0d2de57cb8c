-- What is held after the calls of a client.
use Rattle.tl_client.proofs.Imports.{IsWidth, Beat, BeatA, BeatB, BeatD, Channel, OpA, OpB, OpC, OpD, History}
use Rattle.tl_client.proofs.Imports.{unfinished, beats-positive, Prune, Report, Perm, Level, Rule, L1, A3, sent}
use Rattle.tl_client.proofs.Imports.{payload_of, block_at, is_probe_ack, is_release, ends, grants, capped, request_of}
use Rattle.tl_client.proofs.Imports.{held, prune_right, report_code, report_right, illegal, breaks_l1, next_rule, Busy}
use Rattle.tl_client.proofs.Imports.{Op, Load, Store, Acquire, AcquireWhole, Release, Access, Finish, Stalled, Taken}
use Rattle.tl_client.proofs.Imports.{asked, asked_given, busy, done, load, store, source_or_0, free_request}
use Rattle.tl_client.proofs.Imports.{free_release, whole_grow, EndConfig, Endpoint, zeros, copy_at, held_at, kept_for}
use Rattle.tl_client.proofs.Imports.{with_past, about, access, acquire, on_c, release, probe_ack, grant_ack, Offered}
use Rattle.tl_client.proofs.Imports.{offered, taken, ended, granted, granted_perm, responded, silent, is_sent_on, waits}
use Rattle.tl_client.proofs.Imports.{broken_before, broken_later, judged, judged_later, report_for, held-sent_unsaid}
use Rattle.tl_client.proofs.Imports.{held_unsaid}
use Rattle.std.proofs.Common.{◌≡◌, ℕ, ◌*◌, Bool, true, false, cond, ◌&&◌, ◌||◌, List, [], ◌∷◌, Option, Some, None, refl}
use Rattle.std.proofs.Common.{sym, ◌∙◌, ap, arith}
use Rattle.std.specs.Prelude.{◌==◌, unwrap_or, ⊤}
use Rattle.std.proofs.lemmas.Bool.Decides.{nat_tests}
use Rattle.tl_beat.specs.declared.beat.Beat.TheVariants as beat
use Rattle.tl_beat.specs.declared.channel.Channel.TheVariants as channel
use Rattle.tl_beat.specs.declared.opcode.OpA.TheVariants as a
use Rattle.tl_beat.specs.declared.opcode.OpB.TheVariants as b
use Rattle.tl_beat.specs.declared.opcode.OpC.TheVariants as c
use Rattle.tl_beat.specs.declared.opcode.OpD.TheVariants as d
use Rattle.tl_burst.specs.declared.message.Message.TheVariants as message
use Rattle.tl_params.specs.declared.param.Prune.TheVariants as prune
use Rattle.tl_params.specs.declared.param.Report.TheVariants as report
use Rattle.tl_params.specs.declared.perm.Perm.TheVariants as perm
use Rattle.tl_rules.specs.statement.History.{reported}
use Rattle.tl_client.specs.laws.Held.{left_by, held_with, held_by}
use Rattle.tl_rules.proofs.Sent.{held-sent_c}

pub same_block : (block : ℕ) → block_at (64 * block) ≡ block
same_block block = omega arith

said : (b d : Bool) (p q : Perm) → b ≡ d → unwrap_or (cond b (Some p) None) q ≡ cond d p q
said true d p q e = rw (← e) refl
said false d p q e = rw (← e) refl

pub swapped : (a b : ℕ) → (a == b) ≡ (b == a)
swapped a b = grind (arith, nat_tests)

-- a message of a block on channel C
held-on_c : {w : ℕ} (k : ℕ) (opcode : OpC) (param source block : ℕ) (payload : List ℕ) (t : History w) → IsWidth w
    → unfinished channel.C t ≡ [] → (is_probe_ack opcode || is_release opcode) ≡ true
    → held k (sent (on_c opcode param source block payload) t) ≡ cond (k == block) (reported param) (held k t)
held-on_c k opcode param source block payload t is none tells =
    held-sent_c k (about opcode param source block payload) t none
    (beats-positive (on_c opcode param source block payload) is)
    ∙ said ((is_probe_ack opcode || is_release opcode) && (block_at (64 * block) == k)) (k == block) (reported param)
    (held k t) (rw (tells, same_block block) (swapped block k))

-- ---- operations

pub reported-report : (r : Report) → reported (report_code r) ≡ report_right r
reported-report report.TtoB = refl
reported-report report.TtoN = refl
reported-report report.BtoN = refl
reported-report report.TtoT = refl
reported-report report.BtoB = refl
reported-report report.NtoN = refl

pub held-release : {w : ℕ} (k : ℕ) (p : Prune) (source block : ℕ) (copy : List ℕ) (t : History w) → IsWidth w
    → unfinished channel.C t ≡ []
    → held k (sent (release p source block copy) t) ≡ cond (k == block) (prune_right p) (held k t)
held-release k prune.TtoB source block copy t is none = held-on_c k c.ReleaseData 0 source block copy t is none refl
held-release k prune.TtoN source block copy t is none = held-on_c k c.ReleaseData 1 source block copy t is none refl
held-release k prune.BtoN source block copy t is none = held-on_c k c.Release 2 source block zeros t is none refl

pub held-probe_ack : {w : ℕ} (k : ℕ) (opcode : OpB) (p : Perm) (r : Report) (block : ℕ) (copy : List ℕ) (t : History w)
    → IsWidth w → unfinished channel.C t ≡ []
    → held k (sent (probe_ack opcode p r block copy) t) ≡ cond (k == block) (report_right r) (held k t)
held-probe_ack k opcode p r block copy t is none = go opcode p
  where
    with_data : held k (sent (on_c c.ProbeAckData (report_code r) 0 block copy) t) ≡ cond (k == block) (report_right r)
        (held k t)
    with_data = held-on_c k c.ProbeAckData (report_code r) 0 block copy t is none refl ∙ ap
        (λ q. cond (k == block) q (held k t)) (reported-report r)

    without_data : held k (sent (on_c c.ProbeAck (report_code r) 0 block zeros) t) ≡ cond (k == block) (report_right r)
        (held k t)
    without_data = held-on_c k c.ProbeAck (report_code r) 0 block zeros t is none refl ∙ ap
        (λ q. cond (k == block) q (held k t)) (reported-report r)

    go : (opcode : OpB) (p : Perm) → held k (sent (probe_ack opcode p r block copy) t) ≡ cond (k == block)
        (report_right r) (held k t)
    go b.ProbeBlock perm.Trunk = with_data
    go b.ProbeBlock perm.Branch = without_data
    go b.ProbeBlock perm.None = without_data
    go b.ProbePerm q = without_data
    go b.PutFullData q = without_data
    go b.PutPartialData q = without_data
    go b.ArithmeticData q = without_data
    go b.LogicalData q = without_data
    go b.Get q = without_data
    go b.Intent q = without_data

pub kept_past : {w : ℕ} (block : ℕ) (p : Perm) (e : Endpoint w) → (kept_for block p e).past ≡ e.past
kept_past block perm.None e = refl
kept_past block perm.Branch e = refl
kept_past block perm.Trunk e = refl

held-load : {w : ℕ} (k address size : ℕ) (p : Perm) (e : Endpoint w) → held k (load address size p e).after.past ≡ held
    k e.past
held-load k address size perm.None e = refl
held-load k address size perm.Branch e = refl
held-load k address size perm.Trunk e = refl

held-store : {w : ℕ} (k address size value : ℕ) (p : Perm) (e : Endpoint w)
    → held k (store address size value p e).after.past ≡ held k e.past
held-store k address size value perm.None e = refl
held-store k address size value perm.Branch e = refl
held-store k address size value perm.Trunk e = refl

held-done : {w : ℕ} (terms : EndConfig) (op : Op w) (e : Endpoint w) (k : ℕ) → IsWidth w
    → unfinished channel.C e.past ≡ [] → held k (done terms op e).after.past ≡ left_by None op k (held k e.past)
held-done terms (Load address size) e k is none = held-load k address size (held_at e (block_at address)) e
held-done terms (Store address size value) e k is none = held-store k address size value (held_at e (block_at address))
    e
held-done terms (Acquire block grow) e k is none =
    held-sent_unsaid k (acquire a.AcquireBlock grow (source_or_0 (free_request terms e.past)) block) e.past
    (λ i t. refl)
held-done terms (AcquireWhole block bytes) e k is none =
    held-sent_unsaid k (acquire a.AcquirePerm (whole_grow (held_at e block)) (source_or_0 (free_request terms e.past))
    block) e.past (λ i t. refl)
held-done terms (Release block prune) e k is none =
    ap (λ t. held k t) (kept_past block (prune_right prune) _)
    ∙ held-release k prune (source_or_0 (free_release terms e.past)) block (copy_at e block) e.past is none
held-done terms (Access (message.A m)) e k is none =
    held-sent_unsaid k (access (source_or_0 (free_request terms e.past)) m) e.past (λ i t. refl)
held-done terms (Access (message.B m)) e k is none = refl
held-done terms (Access (message.C m)) e k is none = refl
held-done terms (Access (message.D m)) e k is none = refl
held-done terms (Access (message.E m)) e k is none = refl

held-asked_given : {w : ℕ} (b : Option Busy) (terms : EndConfig) (op : Op w) (e : Endpoint w) (k : ℕ) → IsWidth w
    → unfinished channel.C e.past ≡ []
    → held k (asked_given b terms op e).after.past ≡ left_by b op k (held k e.past)
held-asked_given None terms op e k is none = held-done terms op e k is none
held-asked_given (Some b) terms op e k is none = refl

-- what is held after an operation
pub held-asked : {w : ℕ} (terms : EndConfig) (op : Op w) (e : Endpoint w) (k : ℕ) → IsWidth w
    → unfinished channel.C e.past ≡ []
    → held k (asked terms op e).after.past ≡ left_by (busy terms op e) op k (held k e.past)
unfolding asked
held-asked terms op e k is none = held-asked_given (busy terms op e) terms op e k is none

-- ---- beats

held-beat_b : {w : ℕ} (k : ℕ) (x : BeatB w) (t : History w) → held k (beat.B x ∷ t) ≡ held k t
held-beat_b k x t = held_unsaid k (beat.B x) t refl

pub still_whole : {w : ℕ} (x : BeatB w) (t : History w) → unfinished channel.C (beat.B x ∷ t) ≡ unfinished channel.C t
unfolding unfinished
still_whole x t = refl

held-probed : {w : ℕ} (x : BeatB w) (e : Endpoint w) (k : ℕ) → IsWidth w → unfinished channel.C e.past ≡ []
    → held k (taken (beat.B x) e).after.past ≡ held_with (beat.B x) e.past k
held-probed x e k is none =
    let p = held_at e (block_at x.address) in
    ap (λ t. held k t) (kept_past (block_at x.address) (report_right (report_for x p)) _)
    ∙ held-probe_ack k x.opcode p (report_for x p) (block_at x.address) (copy_at e (block_at x.address))
    (beat.B x ∷ e.past) is (still_whole x e.past ∙ none)
    ∙ ap (λ q. cond (k == block_at x.address) (report_right (report_for x p)) q) (held-beat_b k x e.past)

pub held-beat_d : {w : ℕ} (k : ℕ) (x : BeatD w) (t : History w) → held k (beat.D x ∷ t) ≡ held_with (beat.D x) t k
unfolding held
held-beat_d k x t = go (ends (beat.D x) t) (grants k x t)
  where
    go : (a b : Bool) → cond a (unwrap_or (cond b (Some (capped x.param)) None) (held k t)) (held k t) ≡ cond (a && b)
        (capped x.param) (held k t)
    go true true = refl
    go true false = refl
    go false b = refl

perm_past : {w : ℕ} (opcode : OpA) (block : ℕ) (e : Endpoint w) → (granted_perm opcode block e).past ≡ e.past
perm_past a.PutFullData block e = refl
perm_past a.PutPartialData block e = refl
perm_past a.ArithmeticData block e = refl
perm_past a.LogicalData block e = refl
perm_past a.Get block e = refl
perm_past a.Intent block e = refl
perm_past a.AcquireBlock block e = refl
perm_past a.AcquirePerm block e = refl

pub granted_past : {w : ℕ} (opcode : OpD) (r : Option (BeatA w)) (payload : List ℕ) (e : Endpoint w)
    → (granted opcode r payload e).past ≡ e.past
granted_past d.AccessAck r payload e = refl
granted_past d.AccessAckData r payload e = refl
granted_past d.HintAck r payload e = refl
granted_past d.Grant None payload e = refl
granted_past d.Grant (Some r) payload e = perm_past r.opcode (block_at r.address) e
granted_past d.GrantData None payload e = refl
granted_past d.GrantData (Some r) payload e = refl
granted_past d.ReleaseAck r payload e = refl

held-ended : {w : ℕ} (opcode : OpD) (x : BeatD w) (f : Finish) (e : Endpoint w) (k : ℕ)
    → held k (ended opcode x f e).after.past ≡ held k e.past
held-ended d.AccessAck x f e k = refl
held-ended d.AccessAckData x f e k = refl
held-ended d.HintAck x f e k = refl
held-ended d.Grant x f e k = held-sent_unsaid k (grant_ack x.sink) e.past (λ i t. refl)
held-ended d.GrantData x f e k = held-sent_unsaid k (grant_ack x.sink) e.past (λ i t. refl)
held-ended d.ReleaseAck x f e k = refl

held-responded : {w : ℕ} (x : BeatD w) (r : Option (BeatA w)) (payload : List ℕ) (e : Endpoint w) (k : ℕ)
    → held k (responded x r payload e).after.past ≡ held k (beat.D x ∷ e.past)
held-responded x r payload e k =
    held-ended x.opcode x _ _ k ∙ ap (λ t. held k t) (granted_past x.opcode r payload (with_past (beat.D x ∷ e.past) e))

-- ---- any beat

-- the answer isn't a refusal or a stall, and what is held is as it says
abbrev IsHeldBy : {w : ℕ} → Offered w → Beat w → History w → ℕ → Type 0
IsHeldBy o x t k = held k o.after.past ≡ held_by o.answer x t k

answered_done : {w : ℕ} (opcode : OpD) (x : BeatD w) (f : Finish) (e : Endpoint w) (y : Beat w) (t : History w) (k : ℕ)
    → held_by (ended opcode x f e).answer y t k ≡ held_with y t k
answered_done d.AccessAck x f e y t k = refl
answered_done d.AccessAckData x f e y t k = refl
answered_done d.HintAck x f e y t k = refl
answered_done d.Grant x f e y t k = refl
answered_done d.GrantData x f e y t k = refl
answered_done d.ReleaseAck x f e y t k = refl

held-taken_d : {w : ℕ} (x : BeatD w) (e : Endpoint w) (k : ℕ) → IsHeldBy (taken (beat.D x) e) (beat.D x) e.past k
held-taken_d {w} x e k = go (ends (beat.D x) e.past)
  where
    r : Option (BeatA w)
    r = request_of x.source e.past

    payload : List ℕ
    payload = payload_of (beat.D x ∷ unfinished channel.D e.past)

    go : (b : Bool) → IsHeldBy (cond b (responded x r payload e) (silent Taken (with_past (beat.D x ∷ e.past) e)))
        (beat.D x) e.past k
    go true = held-responded x r payload e k ∙ held-beat_d k x e.past ∙ sym
        (answered_done x.opcode x _ _ (beat.D x) e.past k)
    go false = held-beat_d k x e.past

-- the beat comes to a client
abbrev pub IsIncoming : {w : ℕ} → Beat w → Type 0
IsIncoming (beat.B x) = ⊤
IsIncoming (beat.D x) = ⊤
IsIncoming _ = ⊥

pub comes : {w : ℕ} (l : Level) (ch : Channel) (x : Beat w) → is_sent_on ch ≡ false → breaks_l1 l ch x ≡ false
    → IsIncoming x
comes l channel.A x e f = absurd cc
comes l channel.C x e f = absurd cc
comes l channel.E x e f = absurd cc
comes l channel.B (beat.A x) e f = absurd cc
comes l channel.B (beat.B x) e f = tt
comes l channel.B (beat.C x) e f = absurd cc
comes l channel.B (beat.D x) e f = tt
comes l channel.B (beat.E x) e f = absurd cc
comes l channel.D (beat.A x) e f = absurd cc
comes l channel.D (beat.B x) e f = tt
comes l channel.D (beat.C x) e f = absurd cc
comes l channel.D (beat.D x) e f = tt
comes l channel.D (beat.E x) e f = absurd cc

pub incoming : {w : ℕ} (terms : EndConfig) (ch : Channel) (x : Beat w) (e : Endpoint w)
    → broken_before terms ch x e ≡ None → IsIncoming x
unfolding illegal
incoming terms ch x e none =
    let live = next_rule e.closed A3 _ none in
    let way = next_rule (is_sent_on ch) L1 _ live.1 in
    let named = next_rule (breaks_l1 terms.level ch x) L1 _ way.1 in
    comes terms.level ch x way.0 named.0

held-taken : {w : ℕ} (x : Beat w) (e : Endpoint w) (k : ℕ) → IsWidth w → unfinished channel.C e.past ≡ [] → IsIncoming x
    → IsHeldBy (taken x e) x e.past k
held-taken (beat.A x) e k is none comes_in = absurd comes_in
held-taken (beat.B x) e k is none comes_in = held-probed x e k is none
held-taken (beat.C x) e k is none comes_in = absurd comes_in
held-taken (beat.D x) e k is none comes_in = held-taken_d x e k
held-taken (beat.E x) e k is none comes_in = absurd comes_in

held-judged_later : {w : ℕ} (o : Option Rule) (x : Beat w) (e : Endpoint w) (k : ℕ) → IsWidth w
    → unfinished channel.C e.past ≡ [] → IsIncoming x → IsHeldBy (judged_later o x e) x e.past k
held-judged_later (Some r) x e k is none comes_in = refl
held-judged_later None x e k is none comes_in = held-taken x e k is none comes_in

held-judged : {w : ℕ} (o : Option Rule) (terms : EndConfig) (x : Beat w) (e : Endpoint w) (k : ℕ) → IsWidth w
    → unfinished channel.C e.past ≡ [] → (o ≡ None → IsIncoming x)
    → IsHeldBy (judged o terms x e) x e.past k
held-judged (Some r) terms x e k is none comes_in = refl
held-judged {w} None terms x e k is none comes_in = go (waits x e.past)
  where
    go : (b : Bool) → IsHeldBy (cond b (silent Stalled e) (judged_later (broken_later terms x e) x e)) x e.past k
    go true = refl
    go false = held-judged_later (broken_later terms x e) x e k is none (comes_in refl)

-- what is held after a beat
pub held-offered : {w : ℕ} (terms : EndConfig) (ch : Channel) (x : Beat w) (e : Endpoint w) (k : ℕ) → IsWidth w
    → unfinished channel.C e.past ≡ []
    → held k (offered terms ch x e).after.past ≡ held_by (offered terms ch x e).answer x e.past k
unfolding offered
held-offered terms ch x e k is none = held-judged (broken_before terms ch x e) terms x e k is none
    (incoming terms ch x e)
