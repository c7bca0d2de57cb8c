-- The reason of a rule.
use Rattle.std.proofs.Common.{◌≡◌, ℕ, true, false, Bool}
use Rattle.std.proofs.Common.{refl, subst}
use Rattle.std.specs.Prelude.{Option, Some, None, if◌then◌else◌}
use Rattle.tl_beat.specs.declared.beat.Beat.{Beat}
use Rattle.tl_beat.specs.declared.beat.Beat.TheVariants as beat
use Rattle.tl_beat.specs.declared.beat.BeatA.{BeatA}
use Rattle.tl_beat.specs.declared.beat.BeatB.{BeatB}
use Rattle.tl_beat.specs.declared.beat.BeatC.{BeatC}
use Rattle.tl_beat.specs.declared.beat.BeatD.{BeatD}
use Rattle.tl_beat.specs.declared.beat.BeatE.{BeatE}
use Rattle.tl_beat.specs.declared.beat.Link.{Link}
use Rattle.tl_beat.specs.declared.channel.Channel.TheVariants as channel
use Rattle.tl_params.specs.declared.key.Key.TheVariants.{RequestSource, ReleaseSource, AcquireOf, ReleaseOf, GrantSink}
use Rattle.tl_params.specs.declared.key.Key.TheVariants.{GrantAckOf, ProbeOf}
use Rattle.tl_params.specs.declared.liberties.Liberties.{Liberties}
use Rattle.tl_params.specs.declared.rule.Rule.{Rule}
use Rattle.tl_params.specs.declared.rule.Rule.TheVariants.{A1, A2, A3, L1, L2, L3, L4, L5, L6, L7, S1, H1, H2, H3, H4}
use Rattle.tl_params.specs.declared.rule.Rule.TheVariants.{H5, H6, H7, H8, H9, H10, H11, H12, H13}
use Rattle.tl_rules.specs.statement.Conformance.{Trace}
use Rattle.tl_rules.specs.statement.Liberties.{grows_from_under, releases_from}
use Rattle.tl_rules.specs.statement.History.{block_at, is_acquire, is_grant, is_probe}
use Rattle.tl_rules.specs.statement.History.{is_probe_ack, is_release, is_release_ack}
use Rattle.tl_beat.specs.statement.Control.{control_of}
use Rattle.tl_explain.specs.declared.reason.Reason.{Reason}
use Rattle.tl_explain.specs.declared.recorder.Recorder.{Recorder}
use Rattle.tl_explain.specs.declared.told.Told.{Told}
use Rattle.tl_explain.specs.code.Chosen.{awaited, first_reason}
use Rattle.tl_explain.specs.code.Chosen.{where_pending, where_missing, unless_held, kind_by}
use Rattle.tl_explain.specs.code.Chosen.{size_by, grant_by, probe_by}
use Rattle.tl_explain.specs.code.Chosen.{report_by, for_request, for_probe, for_release, for_probe_ack, for_message_c}
use Rattle.tl_explain.specs.code.Chosen.{for_answer, for_acknowledgement, for_message}
use Rattle.tl_explain.specs.code.Recorded.{IsHeld, IsRecordUnder, IsTurn, begun_on, open_message}
use Rattle.tl_explain.specs.declared.held.Held.{Held}
use Rattle.tl_explain.specs.statement.Reasons.{IsSubject}
use Rattle.tl_explain.specs.statement.Reasons.{block_named}
use Rattle.tl_explain.specs.statement.Reasons.{rule_of_held}
use Rattle.tl_explain.proofs.sound.Openings.{open_since}
use Rattle.tl_explain.proofs.Sayings.{held_told}
use Rattle.tl_explain.proofs.sound.Keys.{IsSound, awaited_sound, first_sound, missing_sound, pending_sound}
use Rattle.tl_explain.proofs.sound.Messages.{grant_sound, kind_sound, probe_sound, release_size_sound, report_sound, request_size_sound}
use Rattle.tl_explain.proofs.Plain.{same_true}

pub by_flag : {A : Type 0} (P : A → Type 0) (b : Bool) (u v : A) → (b ≡ true → P u) → (b ≡ false → P v)
    → P (if b then u else v)
by_flag P true u v f g = f refl
by_flag P false u v f g = g refl

holds_sound : {w : ℕ} (lib base : Liberties) (rule : Rule) (x : Beat w) (n : ℕ) (t : Trace w) (k : ℕ) (fits : Bool)
    (held : Held) → block_named (control_of x) ≡ Some k
    → IsHeld held base n k t → (fits ≡ false → rule_of_held lib x held.perm ≡ Some rule)
    → IsSound lib base rule x n t (unless_held fits held)
holds_sound lib base rule x n t k true held named is broken = tt
holds_sound lib base rule x n t k false held named is broken = ((k, named, held_told held base n k t is), broken refl)

module _ {w : ℕ} (lib base : Liberties) (r : Recorder) (t : Trace w) (rec : IsRecordUnder base r t) where
  abbrev n : ℕ
  n = r.subject.link.0

  abbrev Sound : Rule → Beat w → Option Reason → Type 0
  Sound rule x o = IsSound lib base rule x n t o

  pub source_turn : (s : ℕ) → r.subject.source ≡ s → IsTurn r.turns.request n (RequestSource s) t
  source_turn s e = subst (λ (i : ℕ). IsTurn r.turns.request n (RequestSource i) t) e rec.turns_are.request_is

  pub release_turn : (s : ℕ) → r.subject.source ≡ s → IsTurn r.turns.release_with_source n (ReleaseSource s) t
  release_turn s e = subst (λ (i : ℕ). IsTurn r.turns.release_with_source n (ReleaseSource i) t) e
      rec.turns_are.release_with_source_is

  pub acquire_turn : (k : ℕ) → r.subject.block ≡ k → IsTurn r.turns.acquire n (AcquireOf k) t
  acquire_turn k e = subst (λ (i : ℕ). IsTurn r.turns.acquire n (AcquireOf i) t) e rec.turns_are.acquire_is

  pub release_of_turn : (k : ℕ) → r.subject.block ≡ k → IsTurn r.turns.release n (ReleaseOf k) t
  release_of_turn k e = subst (λ (i : ℕ). IsTurn r.turns.release n (ReleaseOf i) t) e rec.turns_are.release_is

  pub probe_turn : (k : ℕ) → r.subject.block ≡ k → IsTurn r.turns.probe n (ProbeOf k) t
  probe_turn k e = subst (λ (i : ℕ). IsTurn r.turns.probe n (ProbeOf i) t) e rec.turns_are.probe_is

  pub ack_turn : (k : ℕ) → r.subject.block ≡ k → IsTurn r.turns.grant_ack n (GrantAckOf k) t
  ack_turn k e = subst (λ (i : ℕ). IsTurn r.turns.grant_ack n (GrantAckOf i) t) e rec.turns_are.grant_ack_is

  pub sink_turn : (s : ℕ) → r.subject.sink ≡ s → IsTurn r.turns.sink n (GrantSink s) t
  sink_turn s e = subst (λ (i : ℕ). IsTurn r.turns.sink n (GrantSink i) t) e rec.turns_are.sink_is

  holding : (k : ℕ) → r.subject.block ≡ k → IsHeld r.held base n k t
  holding k e = subst (λ (i : ℕ). IsHeld r.held base n i t) e rec.held_is

  request_sound : (rule : Rule) (x : BeatA w) → r.subject.source ≡ x.source → r.subject.block ≡ block_at x.address
      → Sound rule (beat.A x) (for_request lib rule x r)
  request_sound H1 x source block = pending_sound lib base H1 (beat.A x) n t (RequestSource x.source) r.turns.request
      (source_turn x.source source) (rw (same_true x.source x.source refl) refl)
  request_sound H4 x source block =
      by_flag (Sound H4 (beat.A x)) (is_acquire x.opcode)
      (first_reason (where_pending (AcquireOf (block_at x.address)) r.turns.acquire)
      (where_pending (ReleaseOf (block_at x.address)) r.turns.release)) None
      (λ acquire. first_sound lib base H4 (beat.A x) n t (where_pending (AcquireOf (block_at x.address)) r.turns.acquire)
      (where_pending (ReleaseOf (block_at x.address)) r.turns.release)
      (pending_sound lib base H4 (beat.A x) n t (AcquireOf (block_at x.address)) r.turns.acquire
      (acquire_turn (block_at x.address) block)
      (rw (acquire, same_true (block_at x.address) (block_at x.address) refl) refl))
      (pending_sound lib base H4 (beat.A x) n t (ReleaseOf (block_at x.address)) r.turns.release
      (release_of_turn (block_at x.address) block)
      (rw (acquire, same_true (block_at x.address) (block_at x.address) refl) refl)))
      (λ e. tt)
  request_sound H5 x source block =
      by_flag (Sound H5 (beat.A x)) (is_acquire x.opcode) (unless_held (grows_from_under lib x.param r.held.perm) r.held)
      None
      (λ acquire. holds_sound lib base H5 (beat.A x) n t (block_at x.address) (grows_from_under lib x.param r.held.perm)
      r.held refl (holding (block_at x.address) block)
      (λ e. rw (acquire, e) refl))
      (λ e. tt)
  request_sound L1 x source block = tt
  request_sound L2 x source block = tt
  request_sound L3 x source block = tt
  request_sound L4 x source block = tt
  request_sound L5 x source block = tt
  request_sound L6 x source block = tt
  request_sound L7 x source block = tt
  request_sound A1 x source block = tt
  request_sound A2 x source block = tt
  request_sound A3 x source block = tt
  request_sound S1 x source block = tt
  request_sound H2 x source block = tt
  request_sound H3 x source block = tt
  request_sound H6 x source block = tt
  request_sound H7 x source block = tt
  request_sound H8 x source block = tt
  request_sound H9 x source block = tt
  request_sound H10 x source block = tt
  request_sound H11 x source block = tt
  request_sound H12 x source block = tt
  request_sound H13 x source block = tt

  probing_sound : (rule : Rule) (x : BeatB w) → r.subject.block ≡ block_at x.address
      → Sound rule (beat.B x) (for_probe rule x r)
  probing_sound H9 x block =
      by_flag (Sound H9 (beat.B x)) (is_probe x.opcode)
      (first_reason (where_pending (ProbeOf (block_at x.address)) r.turns.probe)
      (where_pending (GrantAckOf (block_at x.address)) r.turns.grant_ack)) None
      (λ probe. first_sound lib base H9 (beat.B x) n t (where_pending (ProbeOf (block_at x.address)) r.turns.probe)
      (where_pending (GrantAckOf (block_at x.address)) r.turns.grant_ack)
      (pending_sound lib base H9 (beat.B x) n t (ProbeOf (block_at x.address)) r.turns.probe
      (probe_turn (block_at x.address) block) (rw (probe, same_true (block_at x.address) (block_at x.address) refl)
      refl))
      (pending_sound lib base H9 (beat.B x) n t (GrantAckOf (block_at x.address)) r.turns.grant_ack
      (ack_turn (block_at x.address) block) (rw (probe, same_true (block_at x.address) (block_at x.address) refl)
      refl)))
      (λ e. tt)
  probing_sound L1 x block = tt
  probing_sound L2 x block = tt
  probing_sound L3 x block = tt
  probing_sound L4 x block = tt
  probing_sound L5 x block = tt
  probing_sound L6 x block = tt
  probing_sound L7 x block = tt
  probing_sound A1 x block = tt
  probing_sound A2 x block = tt
  probing_sound A3 x block = tt
  probing_sound S1 x block = tt
  probing_sound H1 x block = tt
  probing_sound H2 x block = tt
  probing_sound H3 x block = tt
  probing_sound H4 x block = tt
  probing_sound H5 x block = tt
  probing_sound H6 x block = tt
  probing_sound H7 x block = tt
  probing_sound H8 x block = tt
  probing_sound H10 x block = tt
  probing_sound H11 x block = tt
  probing_sound H12 x block = tt
  probing_sound H13 x block = tt

  giving_sound : (rule : Rule) (x : BeatC w) → r.subject.source ≡ x.source → r.subject.block ≡ block_at x.address
      → is_release x.opcode ≡ true → Sound rule (beat.C x) (for_release lib rule x r)
  giving_sound H1 x source block release =
      pending_sound lib base H1 (beat.C x) n t (ReleaseSource x.source) r.turns.release_with_source
      (release_turn x.source source) (rw (release, same_true x.source x.source refl) refl)
  giving_sound H13 x source block release =
      first_sound lib base H13 (beat.C x) n t (first_reason (where_pending (AcquireOf (block_at x.address)) r.turns.acquire)
      (where_pending (ReleaseOf (block_at x.address)) r.turns.release))
      (unless_held (releases_from lib x.param r.held.perm) r.held)
      (first_sound lib base H13 (beat.C x) n t (where_pending (AcquireOf (block_at x.address)) r.turns.acquire)
      (where_pending (ReleaseOf (block_at x.address)) r.turns.release)
      (pending_sound lib base H13 (beat.C x) n t (AcquireOf (block_at x.address)) r.turns.acquire
      (acquire_turn (block_at x.address) block)
      (rw (release, same_true (block_at x.address) (block_at x.address) refl) refl))
      (pending_sound lib base H13 (beat.C x) n t (ReleaseOf (block_at x.address)) r.turns.release
      (release_of_turn (block_at x.address) block)
      (rw (release, same_true (block_at x.address) (block_at x.address) refl) refl)))
      (holds_sound lib base H13 (beat.C x) n t (block_at x.address)
      (releases_from lib x.param r.held.perm) r.held refl
      (holding (block_at x.address) block)
      (λ e. rw (release, e) refl))
  giving_sound L1 x source block release = tt
  giving_sound L2 x source block release = tt
  giving_sound L3 x source block release = tt
  giving_sound L4 x source block release = tt
  giving_sound L5 x source block release = tt
  giving_sound L6 x source block release = tt
  giving_sound L7 x source block release = tt
  giving_sound A1 x source block release = tt
  giving_sound A2 x source block release = tt
  giving_sound A3 x source block release = tt
  giving_sound S1 x source block release = tt
  giving_sound H2 x source block release = tt
  giving_sound H3 x source block release = tt
  giving_sound H4 x source block release = tt
  giving_sound H5 x source block release = tt
  giving_sound H6 x source block release = tt
  giving_sound H7 x source block release = tt
  giving_sound H8 x source block release = tt
  giving_sound H9 x source block release = tt
  giving_sound H10 x source block release = tt
  giving_sound H11 x source block release = tt
  giving_sound H12 x source block release = tt

  ack_sound : (rule : Rule) (x : BeatC w) → r.subject.block ≡ block_at x.address → is_release x.opcode ≡ false
      → is_probe_ack x.opcode ≡ true → Sound rule (beat.C x) (for_probe_ack lib rule x r)
  ack_sound H10 x block other ack = go (open_message r.turns.probe) refl
    where
      go : (o : Option Told) → open_message r.turns.probe ≡ o → Sound H10 (beat.C x) (probe_by lib x r.turns.probe o)
      go None e = missing_sound lib base H10 (beat.C x) n t (ProbeOf (block_at x.address)) r.turns.probe None
          (probe_turn (block_at x.address) block)
          (rw (ack, same_true (block_at x.address) (block_at x.address) refl) refl) (λ opening since. tt)
      go (Some m) e = probe_sound lib base x n t m (open_since r.turns.probe n (ProbeOf (block_at x.address)) t
          (probe_turn (block_at x.address) block) m e) ack
  ack_sound H11 x block other ack =
      pending_sound lib base H11 (beat.C x) n t (ReleaseOf (block_at x.address)) r.turns.release
      (release_of_turn (block_at x.address) block)
      (rw (other, ack, same_true (block_at x.address) (block_at x.address) refl) refl)
  ack_sound H12 x block other ack = go (open_message r.turns.probe) refl
    where
      go : (o : Option Told) → open_message r.turns.probe ≡ o
          → Sound H12 (beat.C x) (report_by lib x o r.held)
      go None e = tt
      go (Some m) e = report_sound lib base x n t m (open_since r.turns.probe n (ProbeOf (block_at x.address)) t
          (probe_turn (block_at x.address) block) m e) ack r.held
          (holding (block_at x.address) block)
  ack_sound L1 x block other ack = tt
  ack_sound L2 x block other ack = tt
  ack_sound L3 x block other ack = tt
  ack_sound L4 x block other ack = tt
  ack_sound L5 x block other ack = tt
  ack_sound L6 x block other ack = tt
  ack_sound L7 x block other ack = tt
  ack_sound A1 x block other ack = tt
  ack_sound A2 x block other ack = tt
  ack_sound A3 x block other ack = tt
  ack_sound S1 x block other ack = tt
  ack_sound H1 x block other ack = tt
  ack_sound H2 x block other ack = tt
  ack_sound H3 x block other ack = tt
  ack_sound H4 x block other ack = tt
  ack_sound H5 x block other ack = tt
  ack_sound H6 x block other ack = tt
  ack_sound H7 x block other ack = tt
  ack_sound H8 x block other ack = tt
  ack_sound H9 x block other ack = tt
  ack_sound H13 x block other ack = tt

  c_sound : (rule : Rule) (x : BeatC w) → r.subject.source ≡ x.source → r.subject.block ≡ block_at x.address
      → Sound rule (beat.C x) (for_message_c lib rule x r)
  c_sound rule x source block =
      by_flag (Sound rule (beat.C x)) (is_release x.opcode) (for_release lib rule x r)
      (if is_probe_ack x.opcode then for_probe_ack lib rule x r else None)
      (λ release. giving_sound rule x source block release)
      (λ other. by_flag (Sound rule (beat.C x)) (is_probe_ack x.opcode) (for_probe_ack lib rule x r) None
      (λ ack. ack_sound rule x block other ack) (λ e. tt))

  answer_sound : (rule : Rule) (x : BeatD w) → r.subject.source ≡ x.source → r.subject.sink ≡ x.sink
      → Sound rule (beat.D x) (for_answer lib rule x r)
  answer_sound H2 x source sink =
      by_flag (Sound H2 (beat.D x)) (is_release_ack x.opcode)
      (where_missing (ReleaseSource x.source) r.turns.release_with_source (awaited lib (begun_on r channel.C)))
      (first_reason (where_missing (RequestSource x.source) r.turns.request (awaited lib (begun_on r channel.A)))
      (kind_by x (open_message r.turns.request)))
      (λ ack. missing_sound lib base H2 (beat.D x) n t (ReleaseSource x.source) r.turns.release_with_source (awaited lib (begun_on r channel.C))
      (release_turn x.source source)
      (rw (ack, same_true x.source x.source refl) refl)
      (awaited_sound lib base H2 (beat.D x) n t (ReleaseSource x.source) (begun_on r channel.C) (rec.begun_are channel.C)
      (λ early. rw (early, ack, same_true x.source x.source refl) refl)))
      (λ other. first_sound lib base H2 (beat.D x) n t (where_missing (RequestSource x.source) r.turns.request (awaited lib (begun_on r channel.A)))
      (kind_by x (open_message r.turns.request))
      (missing_sound lib base H2 (beat.D x) n t (RequestSource x.source) r.turns.request (awaited lib (begun_on r channel.A))
      (source_turn x.source source)
      (rw (other, same_true x.source x.source refl) refl)
      (awaited_sound lib base H2 (beat.D x) n t (RequestSource x.source) (begun_on r channel.A) (rec.begun_are channel.A)
      (λ early. rw (early, other, same_true x.source x.source refl) refl)))
      (kind_sound lib base x n t (open_message r.turns.request) (λ m e. open_since r.turns.request n (RequestSource x.source) t
      (source_turn x.source source) m e) other))
  answer_sound H3 x source sink = go (is_release_ack x.opcode) refl
    where
      go : (b : Bool) → is_release_ack x.opcode ≡ b
          → Sound H3 (beat.D x) (size_by x (if b then open_message r.turns.release_with_source else open_message
          r.turns.request))
      go true ack = release_size_sound lib base x n t (open_message r.turns.release_with_source)
          (λ m e. open_since r.turns.release_with_source n (ReleaseSource x.source) t (release_turn x.source source) m
          e) ack
      go false other = request_size_sound lib base x n t (open_message r.turns.request)
          (λ m e. open_since r.turns.request n (RequestSource x.source) t (source_turn x.source source) m e) other
  answer_sound H6 x source sink =
      by_flag (Sound H6 (beat.D x)) (is_grant x.opcode) (grant_by lib x (open_message r.turns.request) r) None
      (λ grant. grant_sound lib base x n t r (open_message r.turns.request)
      (λ m e. open_since r.turns.request n (RequestSource x.source) t (source_turn x.source source) m e) grant
      (holding r.subject.block refl) (λ m e. open_since r.turns.probe n (ProbeOf r.subject.block) t
      (probe_turn r.subject.block refl) m e))
      (λ e. tt)
  answer_sound H7 x source sink =
      by_flag (Sound H7 (beat.D x)) (is_grant x.opcode) (where_pending (GrantSink x.sink) r.turns.sink) None
      (λ grant. pending_sound lib base H7 (beat.D x) n t (GrantSink x.sink) r.turns.sink (sink_turn x.sink sink)
      (rw (grant, same_true x.sink x.sink refl) refl))
      (λ e. tt)
  answer_sound L1 x source sink = tt
  answer_sound L2 x source sink = tt
  answer_sound L3 x source sink = tt
  answer_sound L4 x source sink = tt
  answer_sound L5 x source sink = tt
  answer_sound L6 x source sink = tt
  answer_sound L7 x source sink = tt
  answer_sound A1 x source sink = tt
  answer_sound A2 x source sink = tt
  answer_sound A3 x source sink = tt
  answer_sound S1 x source sink = tt
  answer_sound H1 x source sink = tt
  answer_sound H4 x source sink = tt
  answer_sound H5 x source sink = tt
  answer_sound H8 x source sink = tt
  answer_sound H9 x source sink = tt
  answer_sound H10 x source sink = tt
  answer_sound H11 x source sink = tt
  answer_sound H12 x source sink = tt
  answer_sound H13 x source sink = tt

  acknowledged_sound : (rule : Rule) (x : BeatE) → r.subject.sink ≡ x.sink
      → Sound rule (beat.E x) (for_acknowledgement lib rule x r)
  acknowledged_sound H8 x sink =
      missing_sound lib base H8 (beat.E x) n t (GrantSink x.sink) r.turns.sink (awaited lib (begun_on r channel.D)) (sink_turn x.sink sink)
      (rw (same_true x.sink x.sink refl) refl)
      (awaited_sound lib base H8 (beat.E x) n t (GrantSink x.sink) (begun_on r channel.D) (rec.begun_are channel.D)
      (λ early. rw (early, same_true x.sink x.sink refl) refl))
  acknowledged_sound L1 x sink = tt
  acknowledged_sound L2 x sink = tt
  acknowledged_sound L3 x sink = tt
  acknowledged_sound L4 x sink = tt
  acknowledged_sound L5 x sink = tt
  acknowledged_sound L6 x sink = tt
  acknowledged_sound L7 x sink = tt
  acknowledged_sound A1 x sink = tt
  acknowledged_sound A2 x sink = tt
  acknowledged_sound A3 x sink = tt
  acknowledged_sound S1 x sink = tt
  acknowledged_sound H1 x sink = tt
  acknowledged_sound H2 x sink = tt
  acknowledged_sound H3 x sink = tt
  acknowledged_sound H4 x sink = tt
  acknowledged_sound H5 x sink = tt
  acknowledged_sound H6 x sink = tt
  acknowledged_sound H7 x sink = tt
  acknowledged_sound H9 x sink = tt
  acknowledged_sound H10 x sink = tt
  acknowledged_sound H11 x sink = tt
  acknowledged_sound H12 x sink = tt
  acknowledged_sound H13 x sink = tt

  pub message_sound : (rule : Rule) (link : Link) (x : Beat w) → IsSubject r.subject link x
      → Sound rule x (for_message lib rule x r)
  message_sound rule link (beat.A x) is = request_sound rule x is.1 is.2
  message_sound rule link (beat.B x) is = probing_sound rule x is.1
  message_sound rule link (beat.C x) is = c_sound rule x is.1 is.2
  message_sound rule link (beat.D x) is = answer_sound rule x is.1 is.2
  message_sound rule link (beat.E x) is = acknowledged_sound rule x is.1
