-- What is kept as a client takes a beat.
use Rattle.tl_client.proofs.Imports.{IsWidth, Beat, BeatB, BeatD, Channel, OpB, MessageC, History, unfinished, Profile}
use Rattle.tl_client.proofs.Imports.{broken_in_order, block_at, is_grant, pending, held, Level, Cap, Report, Perm, Rule}
use Rattle.tl_client.proofs.Imports.{L1, L7, A3, sent, illegal, breaks_l1, cap_of, report_at, report_code, report_right}
use Rattle.tl_client.proofs.Imports.{next_rule, both_none, Stalled, about, probe_ack, EndConfig, Endpoint, fresh, zeros}
use Rattle.tl_client.proofs.Imports.{copy_at, held_at, kept_for, sending, with_past, IsEndpointInvariant, holds}
use Rattle.tl_client.proofs.Imports.{offered, silent, taken, is_sent_on, waits, broken_before, broken_later, judged}
use Rattle.tl_client.proofs.Imports.{judged_later, report_for, held_unsaid}
use Rattle.std.proofs.Common.{◌≡◌, ℕ, Bool, true, false, cond, List, [], ◌∷◌, Option, Some, None, refl, sym, ◌∙◌, ap}
use Rattle.std.specs.Prelude.{unwrap_or}
use Rattle.tl_beat.specs.declared.beat.Beat.TheVariants as beat
use Rattle.tl_beat.specs.declared.channel.Channel.TheVariants as channel
use Rattle.tl_beat.specs.declared.opcode.OpB.TheVariants as b
use Rattle.tl_beat.specs.declared.opcode.OpC.TheVariants as c
use Rattle.tl_beat.specs.statement.Opcode.{b_carries_data}
use Rattle.tl_burst.specs.declared.message.Message.TheVariants as message
use Rattle.tl_params.specs.declared.param.Cap.TheVariants as cap
use Rattle.tl_params.specs.declared.perm.Perm.TheVariants as perm
use Rattle.tl_rules.specs.statement.Legality.{is_forwarded}
use Rattle.tl_client.proofs.pending.KeptAsked.{copies_kept_for, kept_waiting}
use Rattle.tl_client.specs.statement.Endpoint.{shut}
use Rattle.tl_client.proofs.messages.Grants.{good_grant}
use Rattle.tl_client.proofs.endpoint.HeldAfter.{IsIncoming, comes, held-probe_ack, kept_past}
use Rattle.tl_client.proofs.pending.Kept.{kept-c, kept-same}
use Rattle.tl_client.proofs.pending.Opens.{open_beat-b, acquire_of-b}
use Rattle.tl_client.proofs.pending.KeptGranted.{IsGoodBeat, next_burst, kept_taken_d}
use Rattle.tl_rules.proofs.Checks.{probe_has_no_data}

-- ---- a Probe

single_b : {w : ℕ} (x : BeatB w) (t : History w) → b_carries_data x.opcode ≡ false → unfinished channel.B t ≡ []
    → unfinished channel.B (beat.B x ∷ t) ≡ []
unfolding unfinished
single_b x t bare none = rw (none, bare) refl

other_b : {w : ℕ} (x : BeatB w) (t : History w)
    → (unfinished channel.A (beat.B x ∷ t) ≡ unfinished channel.A t)
    × (unfinished channel.C (beat.B x ∷ t) ≡ unfinished channel.C t)
    × (unfinished channel.D (beat.B x ∷ t) ≡ unfinished channel.D t)
    × (unfinished channel.E (beat.B x ∷ t) ≡ unfinished channel.E t)
unfolding unfinished
other_b x t = (refl, refl, refl, refl)

kept_b : {w : ℕ} (e : Endpoint w) (x : BeatB w) → b_carries_data x.opcode ≡ false → IsEndpointInvariant e
    → IsEndpointInvariant (with_past (beat.B x ∷ e.past) e)
kept_b e x bare kept =
    let others = other_b x e.past in
    kept-same e (with_past (beat.B x ∷ e.past) e) kept
    (record { same_open = λ s. open_beat-b s x e.past; same_acquires = λ k. acquire_of-b k x e.past })
    (others.0 ∙ kept.a_whole) (single_b x e.past bare kept.b_whole) (others.1 ∙ kept.c_whole) (others.3 ∙ kept.e_whole)
    others.2 (λ k. refl)
    (λ k. kept.copies_held k ∙ ap holds (sym (held_unsaid k (beat.B x) e.past refl)))

pub probe_ack_is : {w : ℕ} (opcode : OpB) (p : Perm) (r : Report) (block : ℕ) (copy : List ℕ)
    → (m : MessageC w) × (probe_ack opcode p r block copy ≡ message.C m)
probe_ack_is b.ProbeBlock perm.Trunk r block copy = (about c.ProbeAckData (report_code r) 0 block copy, refl)
probe_ack_is b.ProbeBlock perm.Branch r block copy = (about c.ProbeAck (report_code r) 0 block zeros, refl)
probe_ack_is b.ProbeBlock perm.None r block copy = (about c.ProbeAck (report_code r) 0 block zeros, refl)
probe_ack_is b.ProbePerm p r block copy = (about c.ProbeAck (report_code r) 0 block zeros, refl)
probe_ack_is b.PutFullData p r block copy = (about c.ProbeAck (report_code r) 0 block zeros, refl)
probe_ack_is b.PutPartialData p r block copy = (about c.ProbeAck (report_code r) 0 block zeros, refl)
probe_ack_is b.ArithmeticData p r block copy = (about c.ProbeAck (report_code r) 0 block zeros, refl)
probe_ack_is b.LogicalData p r block copy = (about c.ProbeAck (report_code r) 0 block zeros, refl)
probe_ack_is b.Get p r block copy = (about c.ProbeAck (report_code r) 0 block zeros, refl)
probe_ack_is b.Intent p r block copy = (about c.ProbeAck (report_code r) 0 block zeros, refl)

pub reports_held : (k : Cap) (p : Perm) → holds (report_right (report_at k p)) ≡ true → holds p ≡ true
reports_held k perm.Trunk e = refl
reports_held k perm.Branch e = refl
reports_held cap.ToT perm.None e = e
reports_held cap.ToB perm.None e = e
reports_held cap.ToN perm.None e = e

kept_probed : {w : ℕ} (e : Endpoint w) (x : BeatB w) → IsWidth w → b_carries_data x.opcode ≡ false
    → IsEndpointInvariant e → IsEndpointInvariant (taken (beat.B x) e).after
kept_probed {w} e x is bare kept =
    let block = block_at x.address in
    let p = held_at e block in
    let r = report_for x p in
    let t : History w = beat.B x ∷ e.past in
    let e1 = with_past t e in
    let kept1 = kept_b e x bare kept in
    let f = sending (probe_ack x.opcode p r block (copy_at e block)) e1 in
    let m = probe_ack_is x.opcode p r block (copy_at e block) in
    kept-c e1 (kept_for block (report_right r) f) m.0 is kept1
    (kept_past block (report_right r) f ∙ ap (λ n. sent n t) m.1)
    (kept_waiting block (report_right r) f)
    (λ k. copies_kept_for e1 f block k (report_right r) kept1 (λ j. refl)
    (λ h. rw (held_unsaid block (beat.B x) e.past refl) (reports_held (unwrap_or (cap_of x.param) cap.ToN) p h))
    ∙ ap holds (sym (held-probe_ack k x.opcode p r block (copy_at e block) t is kept1.c_whole) ∙ ap (λ u. held k u)
    (sym (kept_past block (report_right r) f))))

legal_probe : {w : ℕ} (l : Level) (ch : Channel) (x : BeatB w) → illegal l ch (beat.B x) ≡ None
    → b_carries_data x.opcode ≡ false
unfolding illegal
legal_probe l ch x e =
    let one = next_rule (breaks_l1 l ch (beat.B x)) L1 _ e in
    let seven = next_rule (is_forwarded x.opcode) L7 _ one.1 in
    probe_has_no_data x.opcode seven.0

-- ---- any beat

pub good_beat : {w : ℕ} (p : Profile) (e : Endpoint w) (x : BeatD w) → IsEndpointInvariant e
    → broken_in_order p (beat.D x) e.past ≡ None → IsGoodBeat x e.past
good_beat p e x kept none =
    let good = λ (g : is_grant x.opcode ≡ true). good_grant p x e.past (unfinished channel.D e.past) refl kept.granting
    g none in
    record { good = λ g. (good g).0; next = next_burst x e.past (unfinished channel.D e.past) refl good }

pub incoming_only : {w : ℕ} (l : Level) (ch : Channel) (x : Beat w) → is_sent_on ch ≡ false → illegal l ch x ≡ None
    → IsIncoming x
unfolding illegal
incoming_only l ch x way legal = comes l ch x way (next_rule (breaks_l1 l ch x) L1 _ legal).0

kept_taken : {w : ℕ} (terms : EndConfig) (ch : Channel) (x : Beat w) (e : Endpoint w) → IsWidth w
    → IsEndpointInvariant e → is_sent_on ch ≡ false → illegal terms.level ch x ≡ None
    → broken_in_order terms.profile x e.past ≡ None → IsEndpointInvariant (taken x e).after
kept_taken terms ch (beat.A x) e is kept way legal none = absurd (incoming_only terms.level ch (beat.A x) way legal)
kept_taken terms ch (beat.B x) e is kept way legal none = kept_probed e x is (legal_probe terms.level ch x legal) kept
kept_taken terms ch (beat.C x) e is kept way legal none = absurd (incoming_only terms.level ch (beat.C x) way legal)
kept_taken terms ch (beat.D x) e is kept way legal none =
    kept_taken_d e x is kept (good_beat terms.profile e x kept none)
kept_taken terms ch (beat.E x) e is kept way legal none = absurd (incoming_only terms.level ch (beat.E x) way legal)

kept_shut : {w : ℕ} (e : Endpoint w) → IsEndpointInvariant e → IsEndpointInvariant (shut e)
kept_shut e kept =
    record {
      a_whole = kept.a_whole;
      b_whole = kept.b_whole;
      c_whole = kept.c_whole;
      e_whole = kept.e_whole;
      copies_held = kept.copies_held;
      awaited =
          kept.awaited;
      once = kept.once;
      outstanding = kept.outstanding;
      granting = kept.granting;
    }

kept_later : {w : ℕ} (o : Option Rule) (x : Beat w) (e : Endpoint w) → IsEndpointInvariant e
    → (o ≡ None → IsEndpointInvariant (taken x e).after) → IsEndpointInvariant (judged_later o x e).after
kept_later (Some r) x e kept more = kept_shut e kept
kept_later None x e kept more = more refl

kept_judged : {w : ℕ} (o : Option Rule) (terms : EndConfig) (x : Beat w) (e : Endpoint w) → IsEndpointInvariant e
    → (o ≡ None → broken_later terms x e ≡ None → IsEndpointInvariant (taken x e).after)
    → IsEndpointInvariant (judged o terms x e).after
kept_judged (Some r) terms x e kept more = kept_shut e kept
kept_judged {w} None terms x e kept more = go (waits x e.past)
  where
    go : (b : Bool) → IsEndpointInvariant (cond b (silent Stalled e) (judged_later (broken_later terms x e) x e)).after
    go true = kept
    go false = kept_later (broken_later terms x e) x e kept (more refl)

-- a beat keeps what is kept
pub kept-offered : {w : ℕ} (terms : EndConfig) (ch : Channel) (x : Beat w) (e : Endpoint w) → IsWidth w
    → IsEndpointInvariant e → IsEndpointInvariant (offered terms ch x e).after
unfolding offered
kept-offered terms ch x e is kept = kept_judged (broken_before terms ch x e) terms x e kept (λ before later.
    let live = next_rule e.closed A3 _ before in
    let way = next_rule (is_sent_on ch) L1 _ live.1 in
    let order = both_none (broken_in_order terms.profile x e.past) _ later in
    kept_taken terms ch x e is kept way.0 way.1 order.0)

-- and a new client has it
pub kept-fresh : (w : ℕ) → IsEndpointInvariant (fresh {w = w})
unfolding unfinished pending held
kept-fresh w = record {
  a_whole = refl;
  b_whole = refl;
  c_whole = refl;
  e_whole = refl;
  copies_held = λ k. refl;
  awaited = λ s k h. h;
  once = λ s r k h i. absurd (let no : false ≡ true = h in cc);
  outstanding = λ s k h. h;
  granting = tt;
}
