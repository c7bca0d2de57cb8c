-- What is pending as a client is called.
use Rattle.tl_client.proofs.Imports.{IsWidth, Beat, BeatB, BeatD, Channel, OpB, OpD, A, B, C, D, E, MessageA, MessageC}
use Rattle.tl_client.proofs.Imports.{History, unfinished, ReleaseSource, AcquireOf, ReleaseOf, Prune, Report, Perm}
use Rattle.tl_client.proofs.Imports.{Rule, L1, A3, prune_right, report_code, report_right, sent, payload_of}
use Rattle.tl_client.proofs.Imports.{broken_in_order, block_at, ends, is_acquire, is_grant, is_probe_ack, is_release}
use Rattle.tl_client.proofs.Imports.{pending, request_of, illegal, next_rule, both_none, Busy, Op, Load, Store, Acquire}
use Rattle.tl_client.proofs.Imports.{AcquireWhole, Release, Access, Finish, Stalled, Taken, asked, asked_given, busy}
use Rattle.tl_client.proofs.Imports.{breaks_b1, breaks_b2, breaks_b4, is_access_of, done, load, store, free_request}
use Rattle.tl_client.proofs.Imports.{free_release, source_or_0, whole_grow, EndConfig, Endpoint, zeros, copy_at}
use Rattle.tl_client.proofs.Imports.{held_at, with_past, IsEndpointInvariant, offered, taken, ended, granted, responded}
use Rattle.tl_client.proofs.Imports.{silent, is_sent_on, waits, broken_before, broken_later, judged, judged_later}
use Rattle.tl_client.proofs.Imports.{report_for, about, sourced, acquisition, release, probe_ack}
use Rattle.std.proofs.Common.{◌≡◌, ℕ, Bool, true, false, cond, List, [], ◌∷◌, Option, Some, None, refl, sym, ◌∙◌, subst}
use Rattle.std.proofs.lemmas.Bool.{or_parts, not-false, both_ways}
use Rattle.tl_beat.specs.declared.beat.Beat.TheVariants as beat
use Rattle.tl_beat.specs.declared.channel.Channel.TheVariants as channel
use Rattle.tl_beat.specs.declared.opcode.OpA.TheVariants as a
use Rattle.tl_beat.specs.declared.opcode.OpB.TheVariants as b
use Rattle.tl_beat.specs.declared.opcode.OpC.TheVariants as c
use Rattle.tl_beat.specs.declared.opcode.OpD.TheVariants as d
use Rattle.tl_params.specs.declared.param.Prune.TheVariants as prune
use Rattle.tl_params.specs.declared.perm.Perm.TheVariants as perm
use Rattle.tl_client.specs.laws.Accounted.{IsAccounted}
use Rattle.tl_client.proofs.pending.AccountedSent.{MayAsk, MayRelease, claimed-a, acked-a, claimed-c, acked-c}
use Rattle.tl_client.proofs.pending.AccountedTaken.{IsFit, fit, claimed-probe, acked-probe}
use Rattle.tl_client.proofs.pending.AccountedResponse.{claimed-d, claimed-e, acked-part, acked-last, acked-grant}
use Rattle.tl_client.proofs.pending.Free.{least_free-some}
use Rattle.tl_client.proofs.endpoint.HeldAfter.{same_block, kept_past, granted_past}
use Rattle.tl_client.proofs.endpoint.Cases.{NotBusy, not_busy}
use Rattle.tl_client.proofs.pending.KeptAsked.{no_acquire}
use Rattle.tl_client.proofs.pending.KeptOffered.{incoming_only}
use Rattle.tl_client.proofs.pending.Opens.{unfinished-d}
use Rattle.tl_client.proofs.messages.Calls.{free_source}

-- ---- operations

accounted_a : {w : ℕ} (m : MessageA w) (t : History w) → IsWidth w → unfinished channel.A t ≡ [] → MayAsk m t
    → IsAccounted t → IsAccounted (sent (A m) t)
accounted_a m t is none may old = record {
  claimed = claimed-a m t is none may old.claimed;
  acked =
      acked-a m t is none may old.acked;
}

accounted_c : {w : ℕ} (m : MessageC w) (t : History w) → IsWidth w → unfinished channel.C t ≡ [] → MayRelease m t
    → IsAccounted t → IsAccounted (sent (C m) t)
accounted_c m t is none may old = record {
  claimed = claimed-c m t is none may old.claimed;
  acked =
      acked-c m t is none old.acked;
}

accounted_release : {w : ℕ} (p : Prune) (source block : ℕ) (copy : List ℕ) (t : History w) → IsWidth w
    → unfinished channel.C t ≡ [] → pending (ReleaseSource source) t ≡ false
    → pending (AcquireOf block) t ≡ false → pending (ReleaseOf block) t ≡ false
    → IsAccounted t → IsAccounted (sent (release p source block copy) t)
accounted_release prune.TtoB source block copy t is none free a r old =
    accounted_c (about c.ReleaseData 0 source block copy) t is none (record {
      releases = refl;
      free = free;
      unacquired =
          rw (same_block block) a;
      unreleased = rw (same_block block) r;
    }) old
accounted_release prune.TtoN source block copy t is none free a r old =
    accounted_c (about c.ReleaseData 1 source block copy) t is none (record {
      releases = refl;
      free = free;
      unacquired =
          rw (same_block block) a;
      unreleased = rw (same_block block) r;
    }) old
accounted_release prune.BtoN source block copy t is none free a r old =
    accounted_c (about c.Release 2 source block zeros) t is none (record {
      releases = refl;
      free = free;
      unacquired =
          rw (same_block block) a;
      unreleased = rw (same_block block) r;
    }) old

accounted_load : {w : ℕ} (address size : ℕ) (p : Perm) (e : Endpoint w) → IsAccounted e.past
    → IsAccounted (load address size p e).after.past
accounted_load address size perm.None e old = old
accounted_load address size perm.Branch e old = old
accounted_load address size perm.Trunk e old = old

accounted_store : {w : ℕ} (address size value : ℕ) (p : Perm) (e : Endpoint w) → IsAccounted e.past
    → IsAccounted (store address size value p e).after.past
accounted_store address size value perm.None e old = old
accounted_store address size value perm.Branch e old = old
accounted_store address size value perm.Trunk e old = old

accounted_done : {w : ℕ} (terms : EndConfig) (op : Op w) (e : Endpoint w) → IsWidth w → IsEndpointInvariant e
    → breaks_b4 terms.level op ≡ false → breaks_b2 op e.past ≡ false → breaks_b1 terms op e.past ≡ false
    → IsAccounted e.past → IsAccounted (done terms op e).after.past
accounted_done terms (Load address size) e is kept four two one old =
    accounted_load address size (held_at e (block_at address)) e old
accounted_done terms (Store address size value) e is kept four two one old =
    accounted_store address size value (held_at e (block_at address)) e old
accounted_done {w} terms (Acquire block grow) e is kept four two one old =
    let idle = or_parts (pending (AcquireOf block) e.past) (pending (ReleaseOf block) e.past) two in
    accounted_a (acquisition a.AcquireBlock grow (source_or_0 (free_request terms e.past)) block) e.past is kept.a_whole
    (record {
      free = free_source terms e.past one;
      unacquired = λ acquires. rw (same_block block) idle.0;
      unreleased =
          λ acquires. rw (same_block block) idle.1;
    }) old
accounted_done {w} terms (AcquireWhole block bytes) e is kept four two one old =
    let idle = or_parts (pending (AcquireOf block) e.past) (pending (ReleaseOf block) e.past) two in
    accounted_a (acquisition a.AcquirePerm (whole_grow (held_at e block)) (source_or_0 (free_request terms e.past))
    block) e.past is kept.a_whole
    (record {
      free = free_source terms e.past one;
      unacquired = λ acquires. rw (same_block block) idle.0;
      unreleased =
          λ acquires. rw (same_block block) idle.1;
    }) old
accounted_done terms (Release block prune) e is kept four two one old =
    let idle = or_parts (pending (AcquireOf block) e.past) (pending (ReleaseOf block) e.past) two in
    let free = (least_free-some (λ s. pending (ReleaseSource s) e.past) 0 terms.sources one).0 in
    subst (λ t. IsAccounted t) (sym (kept_past block (prune_right prune) _))
    (accounted_release prune (source_or_0 (free_release terms e.past)) block (copy_at e block) e.past is kept.c_whole
    free idle.0 idle.1 old)
accounted_done {w} terms (Access (A x)) e is kept four two one old =
    let plain = (no_acquire terms.level x.opcode (not-false (is_access_of terms.level x.opcode) four)).0 in
    accounted_a (sourced (source_or_0 (free_request terms e.past)) x) e.past is kept.a_whole
    (record {
      free = free_source terms e.past one;
      unacquired = λ acquires. absurd (both_ways (is_acquire x.opcode) plain acquires);
      unreleased = λ acquires.
          absurd (both_ways (is_acquire x.opcode) plain acquires);
    }) old
accounted_done terms (Access (B m)) e is kept four two one old = old
accounted_done terms (Access (C m)) e is kept four two one old = old
accounted_done terms (Access (D m)) e is kept four two one old = old
accounted_done terms (Access (E m)) e is kept four two one old = old

accounted_given : {w : ℕ} (o : Option Busy) (terms : EndConfig) (op : Op w) (e : Endpoint w) → IsWidth w
    → IsEndpointInvariant e → (o ≡ None → NotBusy terms op e) → IsAccounted e.past
    → IsAccounted (asked_given o terms op e).after.past
accounted_given (Some b) terms op e is kept free old = old
accounted_given None terms op e is kept free old = let n = free refl in
    accounted_done terms op e is kept n.b4 n.b2 n.b1 old

pub accounted-asked : {w : ℕ} (terms : EndConfig) (op : Op w) (e : Endpoint w) → IsWidth w → IsEndpointInvariant e
    → IsAccounted e.past → IsAccounted (asked terms op e).after.past
unfolding asked
accounted-asked terms op e is kept old = accounted_given (busy terms op e) terms op e is kept (not_busy terms op e) old

-- ---- a Probe

accounted_report : {w : ℕ} (m : MessageC w) (x : BeatB w) (t : History w) → IsWidth w → unfinished channel.C t ≡ []
    → is_probe_ack m.opcode ≡ true → is_release m.opcode ≡ false
    → block_at m.address ≡ block_at x.address → IsAccounted t → IsAccounted (sent (C m) (beat.B x ∷ t))
accounted_report m x t is none ack other block old =
    record {
      claimed = claimed-probe m x t is none other old.claimed;
      acked =
          acked-probe m x t is none ack block old.acked;
    }

accounted_probe : {w : ℕ} (opcode : OpB) (p : Perm) (r : Report) (copy : List ℕ) (x : BeatB w) (t : History w)
    → IsWidth w → unfinished channel.C t ≡ [] → IsAccounted t
    → IsAccounted (sent (probe_ack opcode p r (block_at x.address) copy) (beat.B x ∷ t))
accounted_probe {w} opcode p r copy x t is none old = go opcode p
  where
    with_data : IsAccounted (sent (C (about c.ProbeAckData (report_code r) 0 (block_at x.address) copy)) (beat.B x ∷ t))
    with_data = accounted_report (about c.ProbeAckData (report_code r) 0 (block_at x.address) copy) x t is none refl
        refl (same_block (block_at x.address)) old

    without_data : IsAccounted (sent (C (about c.ProbeAck (report_code r) 0 (block_at x.address) zeros)) (beat.B x ∷ t))
    without_data = accounted_report (about c.ProbeAck (report_code r) 0 (block_at x.address) zeros) x t is none refl
        refl (same_block (block_at x.address)) old

    go : (opcode : OpB) (p : Perm) → IsAccounted (sent (probe_ack opcode p r (block_at x.address) copy) (beat.B x ∷ t))
    go b.ProbeBlock perm.Trunk = with_data
    go b.ProbeBlock perm.Branch = without_data
    go b.ProbeBlock perm.None = without_data
    go b.ProbePerm q = without_data
    go b.PutFullData q = without_data
    go b.PutPartialData q = without_data
    go b.ArithmeticData q = without_data
    go b.LogicalData q = without_data
    go b.Get q = without_data
    go b.Intent q = without_data

accounted_probed : {w : ℕ} (x : BeatB w) (e : Endpoint w) → IsWidth w → IsEndpointInvariant e → IsAccounted e.past
    → IsAccounted (taken (beat.B x) e).after.past
accounted_probed x e is kept old =
    let block = block_at x.address in
    let p = held_at e block in
    subst (λ t. IsAccounted t) (sym (kept_past block (report_right (report_for x p)) _))
    (accounted_probe x.opcode p (report_for x p) (copy_at e block) x e.past is kept.c_whole old)

-- ---- a response

accounted_grant : {w : ℕ} (x : BeatD w) (t : History w) → IsWidth w → IsFit x t → ends (beat.D x) t ≡ true
    → unfinished channel.E t ≡ [] → IsAccounted t
    → IsAccounted (sent (E (record { sink = x.sink })) (beat.D x ∷ t))
accounted_grant x t is fits last none old = record {
  claimed = claimed-e (record { sink = x.sink }) (beat.D x ∷ t) is ((unfinished-d x t).3 ∙ none)
      (claimed-d x t fits old.claimed);
  acked = acked-grant x (record { sink = x.sink }) t is fits last refl none old.acked;
}

accounted_last : {w : ℕ} (x : BeatD w) (t : History w) → IsFit x t → ends (beat.D x) t ≡ true
    → is_grant x.opcode ≡ false → IsAccounted t → IsAccounted (beat.D x ∷ t)
accounted_last x t fits last other old = record {
  claimed = claimed-d x t fits old.claimed;
  acked =
      acked-last x t fits last other old.acked;
}

-- f is the end without the GrantAck
accounted_ended : {w : ℕ} (opcode : OpD) (x : BeatD w) (finish : Finish) (t : History w) (f : Endpoint w) → IsWidth w
    → x.opcode ≡ opcode → f.past ≡ (beat.D x ∷ t) → IsFit x t
    → ends (beat.D x) t ≡ true → unfinished channel.E t ≡ [] → IsAccounted t
    → IsAccounted (ended opcode x finish f).after.past
accounted_ended d.Grant x finish t f is code past fits last none old =
    rw past (accounted_grant x t is fits last none old)
accounted_ended d.GrantData x finish t f is code past fits last none old =
    rw past (accounted_grant x t is fits last none old)
accounted_ended d.AccessAck x finish t f is code past fits last none old =
    rw past (accounted_last x t fits last (rw code refl) old)
accounted_ended d.AccessAckData x finish t f is code past fits last none old =
    rw past (accounted_last x t fits last (rw code refl) old)
accounted_ended d.HintAck x finish t f is code past fits last none old =
    rw past (accounted_last x t fits last (rw code refl) old)
accounted_ended d.ReleaseAck x finish t f is code past fits last none old =
    rw past (accounted_last x t fits last (rw code refl) old)

accounted_d : {w : ℕ} (x : BeatD w) (e : Endpoint w) → IsWidth w → IsFit x e.past → unfinished channel.E e.past ≡ []
    → IsAccounted e.past → IsAccounted (taken (beat.D x) e).after.past
accounted_d {w} x e is fits none old = go (ends (beat.D x) e.past) refl
  where
    go : (b : Bool) → ends (beat.D x) e.past ≡ b
        → IsAccounted (cond b (responded x (request_of x.source e.past)
        (payload_of (beat.D x ∷ unfinished channel.D e.past)) e)
        (silent Taken (with_past (beat.D x ∷ e.past) e))).after.past
    go true last = accounted_ended x.opcode x _ e.past
        (granted x.opcode (request_of x.source e.past) (payload_of (beat.D x ∷ unfinished channel.D e.past))
        (with_past (beat.D x ∷ e.past) e)) is refl
        (granted_past x.opcode (request_of x.source e.past) (payload_of (beat.D x ∷ unfinished channel.D e.past))
        (with_past (beat.D x ∷ e.past) e)) fits last none old
    go false more = record {
      claimed = claimed-d x e.past fits old.claimed;
      acked =
          acked-part x e.past fits more old.acked;
    }

-- ---- any beat

accounted_taken : {w : ℕ} (terms : EndConfig) (ch : Channel) (x : Beat w) (e : Endpoint w) → IsWidth w
    → IsEndpointInvariant e → is_sent_on ch ≡ false → illegal terms.level ch x ≡ None
    → broken_in_order terms.profile x e.past ≡ None → IsAccounted e.past → IsAccounted (taken x e).after.past
accounted_taken terms ch (beat.A x) e is kept way legal none old =
    absurd (incoming_only terms.level ch (beat.A x) way legal)
accounted_taken terms ch (beat.B x) e is kept way legal none old = accounted_probed x e is kept old
accounted_taken terms ch (beat.C x) e is kept way legal none old =
    absurd (incoming_only terms.level ch (beat.C x) way legal)
accounted_taken terms ch (beat.D x) e is kept way legal none old =
    accounted_d x e is (fit terms.profile x e.past old.acked none) kept.e_whole old
accounted_taken terms ch (beat.E x) e is kept way legal none old =
    absurd (incoming_only terms.level ch (beat.E x) way legal)

accounted_later : {w : ℕ} (o : Option Rule) (x : Beat w) (e : Endpoint w) → IsAccounted e.past
    → (o ≡ None → IsAccounted (taken x e).after.past) → IsAccounted (judged_later o x e).after.past
accounted_later (Some r) x e old more = old
accounted_later None x e old more = more refl

accounted_judged : {w : ℕ} (o : Option Rule) (terms : EndConfig) (x : Beat w) (e : Endpoint w) → IsAccounted e.past
    → (o ≡ None → broken_later terms x e ≡ None → IsAccounted (taken x e).after.past)
    → IsAccounted (judged o terms x e).after.past
accounted_judged (Some r) terms x e old more = old
accounted_judged {w} None terms x e old more = go (waits x e.past)
  where
    go : (b : Bool) → IsAccounted (cond b (silent Stalled e) (judged_later (broken_later terms x e) x e)).after.past
    go true = old
    go false = accounted_later (broken_later terms x e) x e old (more refl)

pub accounted-offered : {w : ℕ} (terms : EndConfig) (ch : Channel) (x : Beat w) (e : Endpoint w) → IsWidth w
    → IsEndpointInvariant e → IsAccounted e.past → IsAccounted (offered terms ch x e).after.past
unfolding offered
accounted-offered terms ch x e is kept old = accounted_judged (broken_before terms ch x e) terms x e old
    (λ before later.
    let live = next_rule e.closed A3 _ before in
    let way = next_rule (is_sent_on ch) L1 _ live.1 in
    let order = both_none (broken_in_order terms.profile x e.past) _ later in
    accounted_taken terms ch x e is kept way.0 way.1 order.0 old)

pub accounted-fresh : (w : ℕ) → IsAccounted {w = w} []
unfolding unfinished pending
accounted-fresh w = record {
  claimed = record {
    acquired = λ k e. absurd (let bad : false ≡ true = e in cc);
    released = λ k e. absurd (let bad : false ≡ true = e in cc);
    releasing = λ s k e. e;
    release_once = λ s r k e f. absurd (let bad : false ≡ true = e in cc);
    apart = λ k e. refl;
  };
  acked = record {
    probes = λ k. refl;
    sinks = λ s. refl;
    acks = λ k. refl;
    ack_sinks = λ k e. absurd (let bad : false ≡ true = e in cc);
    answering = tt;
  };
}
