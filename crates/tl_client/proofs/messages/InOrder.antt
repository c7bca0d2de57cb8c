-- The messages that a client hands out break no rule of order.
use Rattle.tl_client.proofs.Imports.{IsWidth, Beat, BeatB, BeatD, Channel, OpB, first_if, Message, A, B, C, D, E}
use Rattle.tl_client.proofs.Imports.{MessageA, beat_of, History, unfinished, RequestSource, ReleaseSource, AcquireOf}
use Rattle.tl_client.proofs.Imports.{ReleaseOf, GrantSink, ProbeOf, Level, Cap, Grow, Prune, Perm, Profile, Rule, L1}
use Rattle.tl_client.proofs.Imports.{L7, cap_of, prune_code, prune_left, report_at, report_code, same_perm}
use Rattle.tl_client.proofs.Imports.{broken_order, broken_in_order, comes_in_grant, block_at, is_acquire, is_grant}
use Rattle.tl_client.proofs.Imports.{is_probe, ends, pending, held, illegal, breaks_l1, next_rule, pending-quiet}
use Rattle.tl_client.proofs.Imports.{held_unsaid, Op, Load, Store, Acquire, AcquireWhole, Release, Access, Verdict}
use Rattle.tl_client.proofs.Imports.{Stalled, Taken, Done, heard, handed, asked, done, load, store, free_request}
use Rattle.tl_client.proofs.Imports.{free_release, is_access_of, source_or_0, whole_grow, EndConfig, Endpoint, zeros}
use Rattle.tl_client.proofs.Imports.{copy_at, held_at, with_past, IsEndpointInvariant, Offered, offered, taken, silent}
use Rattle.tl_client.proofs.Imports.{report_for, sourced, acquisition, on_c, release, probe_ack, grant_ack}
use Rattle.std.proofs.Common.{◌≡◌, ℕ, ◌*◌, Bool, true, false, not, cond, ◌&&◌, ◌||◌, List, [], ◌∷◌, Option, Some, None}
use Rattle.std.proofs.Common.{refl, ◌∙◌}
use Rattle.std.specs.Prelude.{◌==◌, is_some, Result, Ok, Err, unwrap_or}
use Rattle.std.proofs.lemmas.Bool.{and_parts, or_parts, not-false, eq-eqb, both_ways}
use Rattle.tl_beat.specs.declared.beat.Beat.TheVariants as beat
use Rattle.tl_beat.specs.declared.channel.Channel.TheVariants as channel
use Rattle.tl_beat.specs.declared.opcode.OpA.TheVariants as a
use Rattle.tl_beat.specs.declared.opcode.OpB.TheVariants as b
use Rattle.tl_beat.specs.declared.opcode.OpC.TheVariants as c
use Rattle.tl_params.specs.declared.param.Cap.TheVariants as cap
use Rattle.tl_params.specs.declared.param.Grow.TheVariants as grow
use Rattle.tl_params.specs.declared.param.Prune.TheVariants as prune
use Rattle.tl_params.specs.declared.perm.Perm.TheVariants as perm
use Rattle.tl_params.specs.declared.rule.Rule.TheVariants.{L2, H4, H5, H10, H11, H12}
use Rattle.tl_params.specs.statement.Param.{grow_code, grow_left, prune_of}
use Rattle.tl_rules.specs.statement.Conformance.{grows_from, is_probe_block, is_report_at}
use Rattle.tl_rules.specs.statement.History.{probe_of}
use Rattle.tl_rules.specs.statement.Legality.{is_forwarded}
use Rattle.tl_rules.proofs.Later.{message-legal}
use Rattle.tl_client.specs.laws.Accounted.{IsAccounted}
use Rattle.tl_client.specs.laws.Sound.{IsSoundIfAny, IsSoundAnswer, IsInOrder, IsLegalAfter}
use Rattle.tl_client.proofs.pending.AccountedResponse.{sink_now}
use Rattle.tl_client.proofs.pending.AccountedTaken.{IsFit, fit}
use Rattle.tl_client.proofs.endpoint.Cases.{NotBusy, asked-cases, IsPassed, offered-cases, ended-cases, release-cases}
use Rattle.tl_client.proofs.pending.Free.{least_free-some}
use Rattle.tl_client.proofs.endpoint.HeldAfter.{same_block, still_whole}
use Rattle.tl_client.proofs.pending.KeptAsked.{no_acquire}
use Rattle.tl_client.proofs.pending.Opens.{unfinished-d}
use Rattle.tl_client.proofs.endpoint.Outstanding.{IsFree, free_asked, free_offered}
use Rattle.tl_client.proofs.messages.Sound.{asked-sound, offered-sound}

-- ---- requests: H1, H4 and H5

rules_a : (acquires before released grows : Bool)
    → (acquires ≡ true → (before ≡ false) × (released ≡ false) × (grows ≡ true))
    → first_if (acquires && (before || released)) H4 (first_if (acquires && not grows) H5 None) ≡ None
rules_a false before released grows fine = refl
rules_a true before released grows fine = let p = fine refl in rw (p.0, p.1, p.2) refl

in_order_a : {w : ℕ} (p : Profile) (m : MessageA w) (t : History w) → unfinished channel.A t ≡ []
    → pending (RequestSource m.source) t ≡ false
    → (is_acquire m.opcode ≡ true → (pending (AcquireOf (block_at m.address)) t ≡ false)
    × (pending (ReleaseOf (block_at m.address)) t ≡ false)
    × (grows_from m.param (held (block_at m.address) t) ≡ true))
    → broken_in_order p (beat_of (A m) 0) t ≡ None
unfolding broken_order
in_order_a p m t none free fine =
    rw (none, free) (rules_a (is_acquire m.opcode) (pending (AcquireOf (block_at m.address)) t)
    (pending (ReleaseOf (block_at m.address)) t) (grows_from m.param (held (block_at m.address) t)) fine)

grown_from : (g : Grow) (p : Perm) → same_perm (grow_left g) p ≡ true → grows_from (grow_code g) p ≡ true
grown_from grow.NtoB perm.None e = refl
grown_from grow.NtoT perm.None e = refl
grown_from grow.BtoT perm.Branch e = refl
grown_from grow.NtoB perm.Branch e = absurd cc
grown_from grow.NtoB perm.Trunk e = absurd cc
grown_from grow.NtoT perm.Branch e = absurd cc
grown_from grow.NtoT perm.Trunk e = absurd cc
grown_from grow.BtoT perm.None e = absurd cc
grown_from grow.BtoT perm.Trunk e = absurd cc

grown_whole : (p : Perm) → same_perm perm.Trunk p ≡ false → grows_from (grow_code (whole_grow p)) p ≡ true
grown_whole perm.None e = refl
grown_whole perm.Branch e = refl
grown_whole perm.Trunk e = absurd cc

at_block : {w : ℕ} (block param : ℕ) (t : History w) → pending (AcquireOf block) t ≡ false
    → pending (ReleaseOf block) t ≡ false → grows_from param (held block t) ≡ true
    → (pending (AcquireOf (block_at (64 * block))) t ≡ false) × (pending (ReleaseOf (block_at (64 * block))) t ≡ false)
    × (grows_from param (held (block_at (64 * block)) t) ≡ true)
at_block block param t before released grows = rw (same_block block) (before, released, grows)

-- ---- Releases: H1 and H13

pub prune_again : (p : Prune) → prune_of (prune_code p) ≡ Some p
prune_again prune.TtoB = refl
prune_again prune.TtoN = refl
prune_again prune.BtoN = refl

in_order_release : {w : ℕ} (profile : Profile) (p : Prune) (source block : ℕ) (copy : List ℕ) (t : History w)
    → unfinished channel.C t ≡ [] → pending (ReleaseSource source) t ≡ false
    → pending (AcquireOf block) t ≡ false → pending (ReleaseOf block) t ≡ false
    → same_perm (prune_left p) (held block t) ≡ true → IsInOrder profile (Some (release p source block copy)) t
unfolding broken_order
in_order_release {w} profile p source block copy t none free before released left =
    release-cases p source block copy (λ m. broken_in_order profile (beat_of m 0) t ≡ None)
    (rw (none, free, same_block block, before, released, prune_again p, left) refl)
    (rw (none, free, same_block block, before, released, prune_again p, left) refl)

-- ---- operations

in_order_load : {w : ℕ} (profile : Profile) (address size : ℕ) (p : Perm) (e : Endpoint w)
    → IsInOrder profile (load address size p e).message e.past
in_order_load profile address size perm.None e = tt
in_order_load profile address size perm.Branch e = tt
in_order_load profile address size perm.Trunk e = tt

in_order_store : {w : ℕ} (profile : Profile) (address size value : ℕ) (p : Perm) (e : Endpoint w)
    → IsInOrder profile (store address size value p e).message e.past
in_order_store profile address size value perm.None e = tt
in_order_store profile address size value perm.Branch e = tt
in_order_store profile address size value perm.Trunk e = tt

in_order_done : {w : ℕ} (terms : EndConfig) (op : Op w) (e : Endpoint w) → IsEndpointInvariant e → NotBusy terms op e
    → IsInOrder terms.profile (done terms op e).message e.past
in_order_done terms (Load address size) e kept free =
    in_order_load terms.profile address size (held_at e (block_at address)) e
in_order_done terms (Store address size value) e kept free =
    in_order_store terms.profile address size value (held_at e (block_at address)) e
in_order_done {w} terms (Acquire block grow) e kept free =
    let idle = or_parts (pending (AcquireOf block) e.past) (pending (ReleaseOf block) e.past) free.b2 in
    let left = not-false (same_perm (grow_left grow) (held_at e block)) free.b3 in
    in_order_a terms.profile (acquisition {w = w} a.AcquireBlock grow (source_or_0 (free_request terms e.past)) block)
    e.past kept.a_whole
    (least_free-some (λ s. pending (RequestSource s) e.past) 0 terms.sources free.b1).0
    (λ acquires. at_block block (grow_code grow) e.past idle.0 idle.1 (grown_from grow (held_at e block) left))
in_order_done {w} terms (AcquireWhole block bytes) e kept free =
    let idle = or_parts (pending (AcquireOf block) e.past) (pending (ReleaseOf block) e.past) free.b2 in
    in_order_a terms.profile (acquisition {w = w} a.AcquirePerm (whole_grow (held_at e block))
    (source_or_0 (free_request terms e.past)) block) e.past
    kept.a_whole (least_free-some (λ s. pending (RequestSource s) e.past) 0 terms.sources free.b1).0
    (λ acquires. at_block block (grow_code (whole_grow (held_at e block))) e.past idle.0 idle.1
    (grown_whole (held_at e block) free.b3))
in_order_done terms (Release block prune) e kept free =
    let idle = or_parts (pending (AcquireOf block) e.past) (pending (ReleaseOf block) e.past) free.b2 in
    in_order_release terms.profile prune (source_or_0 (free_release terms e.past)) block (copy_at e block) e.past
    kept.c_whole
    (least_free-some (λ s. pending (ReleaseSource s) e.past) 0 terms.sources free.b1).0 idle.0 idle.1
    (not-false (same_perm (prune_left prune) (held_at e block)) free.b3)
in_order_done terms (Access (A m)) e kept free =
    let plain = (no_acquire terms.level m.opcode (not-false (is_access_of terms.level m.opcode) free.b4)).0 in
    in_order_a terms.profile (sourced (source_or_0 (free_request terms e.past)) m) e.past kept.a_whole
    (least_free-some (λ s. pending (RequestSource s) e.past) 0 terms.sources free.b1).0
    (λ acquires. absurd (both_ways (is_acquire m.opcode) plain acquires))
in_order_done terms (Access (B m)) e kept free = tt
in_order_done terms (Access (C m)) e kept free = tt
in_order_done terms (Access (D m)) e kept free = tt
in_order_done terms (Access (E m)) e kept free = tt

pub asked-in_order : {w : ℕ} (terms : EndConfig) (op : Op w) (e : Endpoint w) → IsEndpointInvariant e
    → IsInOrder terms.profile (asked terms op e).message e.past
asked-in_order terms op e kept = asked-cases terms op e (λ o. IsInOrder terms.profile o.message e.past) (λ b. tt)
    (λ free. in_order_done terms op e kept free)

-- ---- a ProbeAck: H10, H11 and H12

probe_kind : (opcode : OpB) → is_forwarded opcode ≡ false → is_probe opcode ≡ true
probe_kind b.ProbeBlock e = refl
probe_kind b.ProbePerm e = refl
probe_kind b.Get e = absurd (let bad : true ≡ false = e in cc)
probe_kind b.Intent e = absurd (let bad : true ≡ false = e in cc)
probe_kind b.PutFullData e = absurd (let bad : true ≡ false = e in cc)
probe_kind b.PutPartialData e = absurd (let bad : true ≡ false = e in cc)
probe_kind b.ArithmeticData e = absurd (let bad : true ≡ false = e in cc)
probe_kind b.LogicalData e = absurd (let bad : true ≡ false = e in cc)

lawful_probe : {w : ℕ} (l : Level) (ch : Channel) (x : BeatB w) → illegal l ch (beat.B x) ≡ None
    → (is_probe x.opcode ≡ true) × (is_some (cap_of x.param) ≡ true)
unfolding illegal
lawful_probe l ch x e =
    let one = next_rule (breaks_l1 l ch (beat.B x)) L1 _ e in
    let seven = next_rule (is_forwarded x.opcode) L7 _ one.1 in
    let two = next_rule (not (is_some (cap_of x.param) && (x.source == 0))) L2 _ seven.1 in (
      probe_kind x.opcode seven.0,
      (and_parts (is_some (cap_of x.param)) (x.source == 0)
          (not-false (is_some (cap_of x.param) && (x.source == 0)) two.0)).0,
    )

probe_now : {w : ℕ} (x : BeatB w) (t : History w) → unfinished channel.B t ≡ [] → is_probe x.opcode ≡ true
    → (pending (ProbeOf (block_at x.address)) (beat.B x ∷ t) ≡ true)
    × (probe_of (block_at x.address) (beat.B x ∷ t) ≡ Some x)
unfolding pending probe_of
probe_now x t none kind = (
  rw (none, kind, eq-eqb (block_at x.address) (block_at x.address) refl) refl,
  rw
      (none, kind, eq-eqb (block_at x.address) (block_at x.address) refl) refl,
)

rules_c : (probed wrong late bad : Bool) → probed ≡ true → wrong ≡ false → late ≡ false → bad ≡ false
    → first_if (not probed || wrong) H10 (first_if late H11 (first_if bad H12 None)) ≡ None
rules_c probed wrong late bad e f g h = rw (e, f, g, h) refl

reported_so : (o : Option Cap) (p : Perm) → is_some o ≡ true
    → is_report_at (report_code (report_at (unwrap_or o cap.ToN) p)) o p ≡ true
reported_so None p e = absurd cc
reported_so (Some k) p e = eq-eqb (report_code (report_at k p)) (report_code (report_at k p)) refl

not_so : (b : Bool) → b ≡ true → not b ≡ false
not_so b e = rw e refl

-- what is known of the Probe of a block, of which p is held, once it was taken
record IsProbed {w : ℕ} (x : BeatB w) (p : Perm) (u : History w) : Type 0 where
  whole : unfinished channel.C u ≡ []
  probed : pending (ProbeOf (block_at (64 * block_at x.address))) u ≡ true
  found : probe_of (block_at (64 * block_at x.address)) u ≡ Some x
  unreleased : pending (ReleaseOf (block_at (64 * block_at x.address))) u ≡ false
  held_is : held (block_at (64 * block_at x.address)) u ≡ p
  named : is_some (cap_of x.param) ≡ true

bare_report : {w : ℕ} (profile : Profile) (x : BeatB w) (p : Perm) (u : History w) → IsProbed x p u
    → IsInOrder profile (Some (on_c c.ProbeAck (report_code (report_for x p)) 0 (block_at x.address) zeros)) u
unfolding broken_order
bare_report {w} profile x p u is =
    rw (is.whole, is.found, is.held_is) (rules_c (pending (ProbeOf (block_at (64 * block_at x.address))) u) false
    (pending (ReleaseOf (block_at (64 * block_at x.address))) u)
    (not (is_report_at (report_code (report_for x p)) (cap_of x.param) p)) is.probed refl is.unreleased
    (not_so (is_report_at (report_code (report_for x p)) (cap_of x.param) p) (reported_so (cap_of x.param) p is.named)))

data_report : {w : ℕ} (profile : Profile) (x : BeatB w) (p : Perm) (copy : List ℕ) (u : History w)
    → is_probe_block x.opcode ≡ true → IsProbed x p u
    → IsInOrder profile (Some (on_c c.ProbeAckData (report_code (report_for x p)) 0 (block_at x.address) copy)) u
unfolding broken_order
data_report {w} profile x p copy u kind is =
    rw (is.whole, is.found, is.held_is) (rules_c (pending (ProbeOf (block_at (64 * block_at x.address))) u)
    (not (is_probe_block x.opcode)) (pending (ReleaseOf (block_at (64 * block_at x.address))) u)
    (not (is_report_at (report_code (report_for x p)) (cap_of x.param) p)) is.probed
    (not_so (is_probe_block x.opcode) kind) is.unreleased
    (not_so (is_report_at (report_code (report_for x p)) (cap_of x.param) p) (reported_so (cap_of x.param) p is.named)))

in_order_ack : {w : ℕ} (profile : Profile) (opcode : OpB) (q : Perm) (x : BeatB w) (p : Perm) (copy : List ℕ)
    (u : History w) → x.opcode ≡ opcode → IsProbed x p u
    → IsInOrder profile (Some (probe_ack opcode q (report_for x p) (block_at x.address) copy)) u
in_order_ack profile b.ProbeBlock perm.Trunk x p copy u code is = data_report profile x p copy u (rw code refl) is
in_order_ack profile b.ProbeBlock perm.Branch x p copy u code is = bare_report profile x p u is
in_order_ack profile b.ProbeBlock perm.None x p copy u code is = bare_report profile x p u is
in_order_ack profile b.ProbePerm q x p copy u code is = bare_report profile x p u is
in_order_ack profile b.PutFullData q x p copy u code is = bare_report profile x p u is
in_order_ack profile b.PutPartialData q x p copy u code is = bare_report profile x p u is
in_order_ack profile b.ArithmeticData q x p copy u code is = bare_report profile x p u is
in_order_ack profile b.LogicalData q x p copy u code is = bare_report profile x p u is
in_order_ack profile b.Get q x p copy u code is = bare_report profile x p u is
in_order_ack profile b.Intent q x p copy u code is = bare_report profile x p u is

waits_not : (kind late : Bool) → kind ≡ true → (kind && late) ≡ false → late ≡ false
waits_not true late e f = f
waits_not false late e f = absurd cc

probed_so : {w : ℕ} (terms : EndConfig) (ch : Channel) (x : BeatB w) (e : Endpoint w) → IsEndpointInvariant e
    → IsPassed terms ch (beat.B x) e → IsProbed x (held_at e (block_at x.address)) (beat.B x ∷ e.past)
probed_so {w} terms ch x e kept passed =
    let block = block_at x.address in
    let lawful = lawful_probe terms.level ch x passed.lawful in
    let now = probe_now x e.past kept.b_whole lawful.0 in
    let late = waits_not (is_probe x.opcode) (pending (ReleaseOf block) e.past) lawful.0 passed.moves in
    record {
      whole = still_whole x e.past ∙ kept.c_whole;
      probed = rw (same_block block) now.0;
      found = rw (same_block block) now.1;
      unreleased = rw (same_block block) (pending-quiet (ReleaseOf block) (beat.B x) e.past refl refl ∙ late);
      held_is = rw (same_block block) (held_unsaid block (beat.B x) e.past refl);
      named = lawful.1;
    }

-- ---- a GrantAck: H8

in_order_grant_ack : {w : ℕ} (profile : Profile) (x : BeatD w) (t : History w) → unfinished channel.E t ≡ []
    → ends (beat.D x) t ≡ true → is_grant x.opcode ≡ true → IsFit x t
    → ((s : ℕ) → pending (GrantSink s) t ≡ comes_in_grant s (unfinished channel.D t))
    → IsInOrder profile (Some (grant_ack x.sink)) (beat.D x ∷ t)
unfolding broken_order
in_order_grant_ack {w} profile x t none last grants fits sinks =
    let whole : unfinished channel.E (beat.D x ∷ t) ≡ [] = (unfinished-d x t).3 ∙ none in
    let over : unfinished channel.D (beat.D x ∷ t) ≡ [] = (unfinished-d x t).4 ∙ rw last refl in
    let opened = sink_now x.sink x t (unfinished channel.D t) refl fits.goes_on (sinks x.sink) in
    rw (whole, over, opened, grants, eq-eqb x.sink x.sink refl) refl

-- ---- beats

in_order_taken : {w : ℕ} (terms : EndConfig) (ch : Channel) (x : Beat w) (e : Endpoint w) → IsEndpointInvariant e
    → IsAccounted e.past → IsPassed terms ch x e
    → IsInOrder terms.profile (handed (taken x e).answer) (heard (taken x e).answer x e.past)
in_order_taken terms ch (beat.A x) e kept account passed = tt
in_order_taken terms ch (beat.C x) e kept account passed = tt
in_order_taken terms ch (beat.E x) e kept account passed = tt
in_order_taken terms ch (beat.B x) e kept account passed =
    in_order_ack terms.profile x.opcode (held_at e (block_at x.address)) x (held_at e (block_at x.address))
    (copy_at e (block_at x.address))
    (beat.B x ∷ e.past) refl (probed_so terms ch x e kept passed)
in_order_taken {w} terms ch (beat.D x) e kept account passed =
    go (ends (beat.D x) e.past) refl _
    (λ last. ended-cases x.opcode x _ _
    (λ o. IsInOrder terms.profile (handed o.answer) (heard o.answer (beat.D x) e.past))
    (λ grants. in_order_grant_ack terms.profile x e.past kept.e_whole last grants
    (fit terms.profile x e.past account.acked passed.order) account.acked.sinks) (λ other. tt))
  where
    go : (b : Bool) → ends (beat.D x) e.past ≡ b → (o : Offered w)
        → (ends (beat.D x) e.past ≡ true → IsInOrder terms.profile (handed o.answer) (heard o.answer (beat.D x) e.past))
        → IsInOrder terms.profile (handed (cond b o (silent Taken (with_past (beat.D x ∷ e.past) e))).answer)
        (heard (cond b o (silent Taken (with_past (beat.D x ∷ e.past) e))).answer (beat.D x) e.past)
    go true last o h = h last
    go false more o h = tt

pub offered-in_order : {w : ℕ} (terms : EndConfig) (ch : Channel) (x : Beat w) (e : Endpoint w) → IsEndpointInvariant e
    → IsAccounted e.past
    → IsInOrder terms.profile (handed (offered terms ch x e).answer) (heard (offered terms ch x e).answer x e.past)
offered-in_order terms ch x e kept account =
    offered-cases terms ch x e (λ o. IsInOrder terms.profile (handed o.answer) (heard o.answer x e.past)) (λ r. tt) tt
    (λ passed. in_order_taken terms ch x e kept account passed)

-- ---- whole messages

legal_after : {w : ℕ} (l : Level) (p : Profile) (o : Option (Message w)) (t : History w) → IsSoundIfAny l o
    → IsInOrder p o t → IsFree o t → IsLegalAfter l p o t
legal_after l p None t sound order free = tt
legal_after l p (Some m) t sound order free = λ i lt. message-legal l p m i t sound.is_legal order free lt

pub asked-legal : {w : ℕ} (terms : EndConfig) (op : Op w) (e : Endpoint w) → IsWidth w → IsEndpointInvariant e
    → IsLegalAfter terms.level terms.profile (asked terms op e).message e.past
asked-legal terms op e is kept = legal_after terms.level terms.profile (asked terms op e).message e.past
    (asked-sound terms op e is) (asked-in_order terms op e kept) (free_asked terms op e kept)

sound_handed : {w : ℕ} (l : Level) (r : Result (Verdict × Option (Message w)) Rule) → IsSoundAnswer l r
    → IsSoundIfAny l (handed r)
sound_handed l (Err rule) sound = tt
sound_handed l (Ok (Stalled, m)) sound = tt
sound_handed l (Ok (Taken, m)) sound = sound
sound_handed l (Ok (Done s f, m)) sound = sound

pub offered-legal : {w : ℕ} (terms : EndConfig) (ch : Channel) (x : Beat w) (e : Endpoint w) → IsEndpointInvariant e
    → IsAccounted e.past
    → IsLegalAfter terms.level terms.profile (handed (offered terms ch x e).answer)
    (heard (offered terms ch x e).answer x e.past)
offered-legal terms ch x e kept account =
    legal_after terms.level terms.profile (handed (offered terms ch x e).answer)
    (heard (offered terms ch x e).answer x e.past)
    (sound_handed terms.level (offered terms ch x e).answer (offered-sound terms ch x e))
    (offered-in_order terms ch x e kept account) (free_offered terms ch x e kept)
