-- The rules.
use Rattle.std.proofs.Common.{◌≡◌, ℕ, ◌==◌, ◌&&◌, ◌||◌, true, false, Bool, not, refl, sym, ap, ap₂, ◌∙◌}
use Rattle.std.proofs.Common.{subst, inl, inr, ◌⊎◌}
use Rattle.std.specs.Prelude.{Option, Some, None, is_none, is_some, if◌then◌else◌}
use Rattle.tl_beat.specs.declared.beat.Beat.{Beat}
use Rattle.tl_beat.specs.declared.beat.Beat.TheVariants as beat
use Rattle.tl_beat.specs.declared.beat.BeatA.{BeatA}
use Rattle.tl_beat.specs.declared.beat.BeatB.{BeatB}
use Rattle.tl_beat.specs.declared.beat.BeatC.{BeatC}
use Rattle.tl_beat.specs.declared.beat.BeatD.{BeatD}
use Rattle.tl_beat.specs.declared.beat.BeatE.{BeatE}
use Rattle.tl_beat.specs.declared.beat.Link.{Link}
use Rattle.tl_beat.specs.declared.channel.Channel.TheVariants as channel
use Rattle.tl_beat.specs.statement.Control.{control_of, has_control}
use Rattle.tl_beat.specs.statement.First.{first_if}
use Rattle.tl_beat.specs.statement.Opcode.{c_carries_data}
use Rattle.tl_burst.specs.statement.Messages.{History, breaks_burst, channel_of, unfinished}
use Rattle.tl_burst.specs.statement.Part.{is_empty}
use Rattle.tl_params.specs.declared.key.Key.TheVariants.{RequestSource, ReleaseSource, AcquireOf, ReleaseOf, GrantSink}
use Rattle.tl_params.specs.declared.key.Key.TheVariants.{GrantAckOf, ProbeOf}
use Rattle.tl_params.specs.declared.level.Level.{Level}
use Rattle.tl_params.specs.declared.liberties.Liberties.{Liberties}
use Rattle.tl_params.specs.declared.rule.Rule.{Rule}
use Rattle.tl_params.specs.declared.rule.Rule.TheVariants.{S1, H1, H2, H3, H4}
use Rattle.tl_params.specs.declared.rule.Rule.TheVariants.{H5, H6, H7, H8, H9, H10, H11, H12, H13}
use Rattle.tl_rules.specs.statement.Conformance.{Trace, admits, answers, answers_wrong_probe, comes_in_grant}
use Rattle.tl_rules.specs.statement.Conformance.{comes_in_release, comes_in_request, is_probe_block, on_link, size_asked}
use Rattle.tl_rules.specs.statement.History.{begins, block_at, is_acquire, is_grant, is_probe, is_probe_ack}
use Rattle.tl_rules.specs.statement.History.{is_release, is_release_ack, pending, probe_of, request_of}
use Rattle.tl_rules.specs.statement.Liberties.{broken_in_order_under, broken_order_under, grows_from_under}
use Rattle.tl_rules.specs.statement.Liberties.{has_other_source, has_request_under, held_under, is_legal_under}
use Rattle.tl_rules.specs.statement.Liberties.{misgrants_under, misreports_under, releases_from}
use Rattle.tl_explain.specs.declared.bursts.Begun.{Begun}
use Rattle.tl_explain.specs.declared.recorder.Recorder.{Recorder}
use Rattle.tl_explain.specs.declared.reason.Reason.{Reason}
use Rattle.tl_explain.specs.declared.reason.Reason.TheVariants.{OtherSource, WrongProbe}
use Rattle.tl_explain.specs.code.Chosen.{awaited, differs_by, first_reason, for_acknowledgement, for_answer, for_message}
use Rattle.tl_explain.specs.code.Chosen.{for_message_c, for_probe, for_probe_ack, for_release, for_request}
use Rattle.tl_explain.specs.code.Chosen.{kind_by, probe_by, reason_by, unless_held}
use Rattle.tl_explain.specs.code.Chosen.{where_missing, where_pending}
use Rattle.tl_explain.specs.code.Recorded.{IsBegun, IsRecordUnder, IsTurn, begun_on, open_message}
use Rattle.tl_explain.specs.statement.Evidence.{is_open}
use Rattle.tl_explain.specs.statement.Reasons.{HasBlockAsked, IsSubject, is_always_told}
use Rattle.tl_explain.proofs.Found.{decides, grant_told, not_false, perm_is}
use Rattle.tl_explain.proofs.Found.{probe_told, report_told, request_told, size_told}
use Rattle.tl_explain.proofs.Rests.{pending_open}
use Rattle.tl_explain.proofs.sound.Rules.{ack_turn, acquire_turn, probe_turn, release_of_turn, release_turn}
use Rattle.tl_explain.proofs.sound.Rules.{sink_turn, source_turn}
use Rattle.tl_explain.proofs.first.Keys.{and_false, awaited_told, either_told, free_told, not_of_bursts, or_three, or_true, pending_told}
use Rattle.tl_explain.proofs.Plain.{is_one, both_true, not_true}

one_of : (a b : Bool) (u v : Reason) → (a || b) ≡ true
    → is_some (if a then Some u else if b then Some v else None) ≡ true
one_of true b u v e = refl
one_of false true u v e = refl
one_of false false u v e = absurd cc

module _ {w : ℕ} (lib base : Liberties) (as_much : (k : ℕ) (h : History w) → held_under base k h ≡ held_under lib k h)
    (r : Recorder) (t : Trace w) (rec : IsRecordUnder base r t) where
  abbrev l : ℕ
  l = r.subject.link.0

  abbrev h : History w
  h = on_link l t

  -- the rule is one of which a reason is told always, or no beat before is at fault
  abbrev IsToldOf : Rule → Type 0
  IsToldOf rule = (is_always_told rule ≡ true) ⊎ ((v : Level) × (is_legal_under lib v h ≡ true))

  either_pending : (k : ℕ) → r.subject.block ≡ k → (pending (AcquireOf k) h || pending (ReleaseOf k) h) ≡ true
      → is_some (first_reason (where_pending (AcquireOf k) r.turns.acquire) (where_pending (ReleaseOf k)
      r.turns.release)) ≡ true
  either_pending k of some =
      either_told (where_pending (AcquireOf k) r.turns.acquire) (where_pending (ReleaseOf k) r.turns.release)
      (elim (or_true (pending (AcquireOf k) h) (pending (ReleaseOf k) h) some) [
        | inl one ↦ inl (pending_told l t (AcquireOf k) r.turns.acquire (acquire_turn lib base r t rec k of) one)
        | inr other ↦ inr (pending_told l t (ReleaseOf k) r.turns.release (release_of_turn lib base r t rec k of) other)
      ])

  of_a : (rule : Rule) (x : BeatA w) → r.subject.source ≡ x.source → r.subject.block ≡ block_at x.address
      → broken_order_under lib (beat.A x) h ≡ Some rule → is_some (for_request lib rule x r) ≡ true
  unfolding broken_order_under
  of_a rule x source block e = elim (decides (pending (RequestSource x.source) h) H1 _ rule e) [
    | inl one ↦ subst (λ (q : Rule). is_some (for_request lib q x r) ≡ true) one.1
        (pending_told l t (RequestSource x.source) r.turns.request (source_turn lib base r t rec x.source source) one.0)
    | inr two ↦ elim (decides (is_acquire x.opcode && (pending (AcquireOf (block_at x.address)) h || pending
        (ReleaseOf (block_at x.address)) h)) H4 _ rule two.1) [
          | inl four ↦
              let both = both_true (is_acquire x.opcode) (pending (AcquireOf (block_at x.address)) h || pending
              (ReleaseOf (block_at x.address)) h) four.0 in
              subst (λ (q : Rule). is_some (for_request lib q x r) ≡ true) four.1
              (rw both.0 (either_pending (block_at x.address) block both.1))
          | inr five ↦ elim (decides (is_acquire x.opcode && not (grows_from_under lib x.param (held_under lib (block_at x.address) h))) H5
              None
              rule five.1) [
                | inl bad ↦
                    let both = both_true (is_acquire x.opcode) (not (grows_from_under lib x.param (held_under lib (block_at x.address) h)))
                    bad.0 in
                    let fits = not_true (grows_from_under lib x.param (held_under lib (block_at x.address) h)) both.1 in
                    subst (λ (q : Rule). is_some (for_request lib q x r) ≡ true) bad.1
                    (rw (both.0, perm_is lib base as_much r t rec (block_at x.address) block, fits) refl)
                | inr none ↦ absurd cc
              ]
        ]
  ]

  of_b : (rule : Rule) (x : BeatB w) → r.subject.block ≡ block_at x.address
      → broken_order_under lib (beat.B x) h ≡ Some rule → is_some (for_probe rule x r) ≡ true
  unfolding broken_order_under
  of_b rule x block e = elim (decides (is_probe x.opcode && (pending (ProbeOf (block_at x.address)) h || pending
      (GrantAckOf (block_at x.address)) h)) H9 None rule e) [
        | inl bad ↦
            let both = both_true (is_probe x.opcode) (pending (ProbeOf (block_at x.address)) h || pending
            (GrantAckOf (block_at x.address)) h) bad.0 in
            subst (λ (q : Rule). is_some (for_probe q x r) ≡ true) bad.1
            (rw both.0 (either_told (where_pending (ProbeOf (block_at x.address)) r.turns.probe)
            (where_pending (GrantAckOf (block_at x.address)) r.turns.grant_ack)
            (elim (or_true (pending (ProbeOf (block_at x.address)) h) (pending (GrantAckOf (block_at x.address)) h)
            both.1) [
              | inl one ↦ inl (pending_told l t (ProbeOf (block_at x.address)) r.turns.probe
                  (probe_turn lib base r t rec (block_at x.address) block) one)
              | inr other ↦ inr (pending_told l t (GrantAckOf (block_at x.address)) r.turns.grant_ack
                  (ack_turn lib base r t rec (block_at x.address) block) other)
            ])))
        | inr none ↦ absurd cc
      ]

  of_release : (rule : Rule) (x : BeatC w) → r.subject.source ≡ x.source → r.subject.block ≡ block_at x.address
      → first_if (pending (ReleaseSource x.source) h) H1
      (first_if (pending (AcquireOf (block_at x.address)) h
      || (pending (ReleaseOf (block_at x.address)) h || not
      (releases_from lib x.param (held_under lib (block_at x.address) h)))) H13 None) ≡ Some rule
      → is_some (for_release lib rule x r) ≡ true
  of_release rule x source block e = elim (decides (pending (ReleaseSource x.source) h) H1 _ rule e) [
    | inl one ↦ subst (λ (q : Rule). is_some (for_release lib q x r) ≡ true) one.1
        (pending_told l t (ReleaseSource x.source) r.turns.release_with_source
        (release_turn lib base r t rec x.source source) one.0)
    | inr two ↦ elim (decides (pending (AcquireOf (block_at x.address)) h
        || (pending (ReleaseOf (block_at x.address)) h || not
        (releases_from lib x.param (held_under lib (block_at x.address) h)))) H13 None rule two.1) [
          | inl bad ↦ subst (λ (q : Rule). is_some (for_release lib q x r) ≡ true) bad.1
              (either_told (first_reason (where_pending (AcquireOf (block_at x.address)) r.turns.acquire)
              (where_pending (ReleaseOf (block_at x.address)) r.turns.release))
              (unless_held (releases_from lib x.param r.held.perm) r.held)
              (pruned bad.0))
          | inr none ↦ absurd cc
        ]
  ]
    where
      pruned : (pending (AcquireOf (block_at x.address)) h
          || (pending (ReleaseOf (block_at x.address)) h || not
          (releases_from lib x.param (held_under lib (block_at x.address) h)))) ≡ true
          → (is_some (first_reason (where_pending (AcquireOf (block_at x.address)) r.turns.acquire)
          (where_pending (ReleaseOf (block_at x.address)) r.turns.release)) ≡ true)
          ⊎ (is_some (unless_held (releases_from lib x.param r.held.perm) r.held) ≡ true)
      pruned bad = elim (or_three (pending (AcquireOf (block_at x.address)) h)
          (pending (ReleaseOf (block_at x.address)) h)
          (not (releases_from lib x.param (held_under lib (block_at x.address) h))) bad) [
            | inl some ↦ inl (either_pending (block_at x.address) block some)
            | inr other ↦
                let fits = not_true (releases_from lib x.param (held_under lib (block_at x.address) h)) other in
                inr (rw (perm_is lib base as_much r t rec (block_at x.address) block, fits) refl)
          ]

  of_probe_ack : (rule : Rule) (x : BeatC w) → r.subject.block ≡ block_at x.address
      → first_if (not (pending (ProbeOf (block_at x.address)) h)
      || ((lib.ids && has_other_source x (probe_of (block_at x.address) h)) || answers_wrong_probe x
      (probe_of (block_at x.address) h))) H10
      (first_if (pending (ReleaseOf (block_at x.address)) h) H11
      (first_if (misreports_under lib x (probe_of (block_at x.address) h) (held_under lib (block_at x.address) h)) H12 None)) ≡ Some rule
      → is_some (for_probe_ack lib rule x r) ≡ true
  of_probe_ack rule x block e = go (pending (ProbeOf (block_at x.address)) h) refl e
    where
      turn : IsTurn r.turns.probe l (ProbeOf (block_at x.address)) t
      turn = probe_turn lib base r t rec (block_at x.address) block

      none_open : pending (ProbeOf (block_at x.address)) h ≡ false → open_message r.turns.probe ≡ None
      none_open off =
          rw (ap₂ is_open turn.opening_is turn.closing_is ∙ sym (pending_open l (ProbeOf (block_at x.address)) t) ∙ off)
          refl

      wrong : ((lib.ids && has_other_source x (probe_of (block_at x.address) h)) || answers_wrong_probe x
          (probe_of (block_at x.address) h)) ≡ true → pending (ProbeOf (block_at x.address)) h ≡ true
          → is_some (probe_by lib x r.turns.probe (open_message r.turns.probe)) ≡ true
      wrong bad on =
          let m = probe_told lib base as_much r t rec (block_at x.address) block on in
          let asked : ((lib.ids && not (x.source == m.4.0.source))
          || (c_carries_data x.opcode && not (is_probe_block m.4.0.opcode))) ≡ true = rw m.4.1 at bad in
          let own : ((lib.ids && not (x.source == m.2.source))
          || (c_carries_data x.opcode && not (is_probe_block m.2.opcode))) ≡ true = rw (m.4.4, m.4.2) asked in
          rw (m.1, m.3) (one_of (lib.ids && not (x.source == m.2.source))
          (c_carries_data x.opcode && not (is_probe_block m.2.opcode)) (OtherSource m.0) (WrongProbe m.0) own)

      go : (b : Bool) → pending (ProbeOf (block_at x.address)) h ≡ b
          → first_if (not b || ((lib.ids && has_other_source x (probe_of (block_at x.address) h)) || answers_wrong_probe x
          (probe_of (block_at x.address) h))) H10
          (first_if (pending (ReleaseOf (block_at x.address)) h) H11
          (first_if (misreports_under lib x (probe_of (block_at x.address) h) (held_under lib (block_at x.address) h)) H12 None)) ≡ Some
          rule
          → is_some (for_probe_ack lib rule x r) ≡ true
      go false off f = subst (λ (q : Rule). is_some (for_probe_ack lib q x r) ≡ true) (is_one f)
          (rw (none_open off) (free_told l t (ProbeOf (block_at x.address)) r.turns.probe turn None off))
      go true on f = elim (decides ((lib.ids && has_other_source x (probe_of (block_at x.address) h))
          || answers_wrong_probe x (probe_of (block_at x.address) h)) H10 _ rule f) [
            | inl ten ↦ subst (λ (q : Rule). is_some (for_probe_ack lib q x r) ≡ true) ten.1 (wrong ten.0 on)
            | inr rest ↦ elim (decides (pending (ReleaseOf (block_at x.address)) h) H11 _ rule rest.1) [
              | inl eleven ↦ subst (λ (q : Rule). is_some (for_probe_ack lib q x r) ≡ true) eleven.1
                  (pending_told l t (ReleaseOf (block_at x.address)) r.turns.release
                  (release_of_turn lib base r t rec (block_at x.address) block) eleven.0)
              | inr last ↦ elim (decides (misreports_under lib x (probe_of (block_at x.address) h) (held_under lib (block_at x.address) h)) H12
                  None rule last.1) [
                    | inl twelve ↦ subst (λ (q : Rule). is_some (for_probe_ack lib q x r) ≡ true) twelve.1
                        (report_told lib base as_much r t rec x block on twelve.0)
                    | inr none ↦ absurd cc
                  ]
            ]
          ]

  of_c : (rule : Rule) (x : BeatC w) → r.subject.source ≡ x.source → r.subject.block ≡ block_at x.address
      → broken_order_under lib (beat.C x) h ≡ Some rule → is_some (for_message_c lib rule x r) ≡ true
  unfolding broken_order_under
  of_c rule x source block e = go (is_release x.opcode) refl (is_probe_ack x.opcode) refl
    where
      go : (b : Bool) → is_release x.opcode ≡ b → (c : Bool) → is_probe_ack x.opcode ≡ c
          → is_some (for_message_c lib rule x r) ≡ true
      go true f c g = rw f (of_release rule x source block (rw f at e))
      go false f true g = rw (f, g) (of_probe_ack rule x block (rw (f, g) at e))
      go false f false g = let none : None ≡ Some rule = rw (f, g) at e in absurd cc

  -- the request or Release isn't pending, isn't complete, or isn't answered so
  unasked : (x : BeatD w) → r.subject.source ≡ x.source → has_request_under lib x h ≡ false
      → (v : Level) → is_legal_under lib v h ≡ true → is_some (for_answer lib H2 x r) ≡ true
  unasked x source e v clean = go (is_release_ack x.opcode) refl
    where
      asked : IsTurn r.turns.request l (RequestSource x.source) t
      asked = source_turn lib base r t rec x.source source

      released : IsTurn r.turns.release_with_source l (ReleaseSource x.source) t
      released = release_turn lib base r t rec x.source source

      of_release_source : (b : Bool) → pending (ReleaseSource x.source) h ≡ b
          → (b && not (not lib.early && comes_in_release x.source (unfinished channel.C h))) ≡ false
          → is_some (where_missing (ReleaseSource x.source) r.turns.release_with_source
          (awaited lib (begun_on r channel.C))) ≡ true
      of_release_source false off f = free_told l t (ReleaseSource x.source) r.turns.release_with_source released
          (awaited lib (begun_on r channel.C)) off
      of_release_source true on f =
          awaited_told l t (ReleaseSource x.source) r.turns.release_with_source released lib (begun_on r channel.C)
          (rec.begun_are channel.C) on (not_false (not lib.early && comes_in_release x.source (unfinished channel.C h)) f)
          v clean

      other_kind : pending (RequestSource x.source) h ≡ true → admits x.opcode (request_of x.source h) ≡ false
          → is_some (kind_by x (open_message r.turns.request)) ≡ true
      other_kind on bad =
          let m = request_told lib base as_much r t rec x.source source on in
          let asked : answers x.opcode m.4.0.opcode ≡ false = rw m.4.1 at bad in
          let own : answers x.opcode m.2.opcode ≡ false = rw m.4.2 asked in
          rw (m.1, m.3, own) refl

      of_request_source : (b : Bool) → pending (RequestSource x.source) h ≡ b
          → (b && (not (not lib.early && comes_in_request x.source (unfinished channel.A h)) && admits x.opcode
          (request_of x.source h))) ≡ false
          → (is_some (where_missing (RequestSource x.source) r.turns.request (awaited lib (begun_on r channel.A))) ≡ true)
          ⊎ (is_some (kind_by x (open_message r.turns.request)) ≡ true)
      of_request_source false off f = inl (free_told l t (RequestSource x.source) r.turns.request asked
          (awaited lib (begun_on r channel.A)) off)
      of_request_source true on f =
          elim (and_false (not (not lib.early && comes_in_request x.source (unfinished channel.A h)))
          (admits x.opcode (request_of x.source h)) f) [
            | inl late ↦ inl (awaited_told l t (RequestSource x.source) r.turns.request asked lib (begun_on r channel.A)
                (rec.begun_are channel.A) on
                (not_false (not lib.early && comes_in_request x.source (unfinished channel.A h)) late) v clean)
            | inr bad ↦ inr (other_kind on bad)
          ]

      go : (b : Bool) → is_release_ack x.opcode ≡ b → is_some (for_answer lib H2 x r) ≡ true
      go true ack = rw ack (of_release_source (pending (ReleaseSource x.source) h) refl (rw ack at e))
      go false ack = rw ack (either_told
          (where_missing (RequestSource x.source) r.turns.request (awaited lib (begun_on r channel.A)))
          (kind_by x (open_message r.turns.request))
          (of_request_source (pending (RequestSource x.source) h) refl (rw ack at e)))

  of_d : (rule : Rule) (x : BeatD w) → r.subject.source ≡ x.source → r.subject.sink ≡ x.sink
      → HasBlockAsked r.subject (beat.D x) t → IsToldOf rule
      → broken_order_under lib (beat.D x) h ≡ Some rule → is_some (for_answer lib rule x r) ≡ true
  unfolding broken_order_under
  of_d rule x source sink asked told e = elim (decides (not (has_request_under lib x h)) H2 _ rule e) [
    | inl two ↦ subst (λ (q : Rule). is_some (for_answer lib q x r) ≡ true) two.1
        (missing (not_true (has_request_under lib x h) two.0) (subst IsToldOf (sym two.1) told))
    | inr one ↦
        let has = not_false (has_request_under lib x h) one.0 in
        elim (decides (not (x.size == size_asked x h)) H3 _ rule one.1) [
          | inl size ↦ subst (λ (q : Rule). is_some (for_answer lib q x r) ≡ true) size.1
              (size_told lib base as_much r t rec x source has (not_true (x.size == size_asked x h) size.0))
          | inr rest ↦ elim (decides (is_grant x.opcode && misgrants_under lib x (request_of x.source h) h) H6 _ rule rest.1) [
            | inl grant ↦
                let both = both_true (is_grant x.opcode) (misgrants_under lib x (request_of x.source h) h) grant.0 in
                subst (λ (q : Rule). is_some (for_answer lib q x r) ≡ true) grant.1
                (rw both.0 (grant_told lib base as_much r t rec x source asked has both.0 both.1))
            | inr last ↦ elim (decides (is_grant x.opcode && pending (GrantSink x.sink) h) H7 None rule last.1) [
              | inl seven ↦
                  let both = both_true (is_grant x.opcode) (pending (GrantSink x.sink) h) seven.0 in
                  subst (λ (q : Rule). is_some (for_answer lib q x r) ≡ true) seven.1
                  (rw both.0 (pending_told l t (GrantSink x.sink) r.turns.sink
                  (sink_turn lib base r t rec x.sink sink) both.1))
              | inr none ↦ absurd cc
            ]
          ]
        ]
  ]
    where
      missing : has_request_under lib x h ≡ false → IsToldOf H2 → is_some (for_answer lib H2 x r) ≡ true
      missing not_there (inl never) = absurd cc
      missing not_there (inr clean) = unasked x source not_there clean.0 clean.1

  of_e : (rule : Rule) (x : BeatE) → r.subject.sink ≡ x.sink → IsToldOf rule
      → broken_order_under lib (beat.E x) h ≡ Some rule → is_some (for_acknowledgement lib rule x r) ≡ true
  unfolding broken_order_under
  of_e rule x sink told e = elim (decides (not (pending (GrantSink x.sink) h) || (not lib.early && comes_in_grant x.sink
      (unfinished channel.D h))) H8 None rule e) [
        | inl bad ↦ subst (λ (q : Rule). is_some (for_acknowledgement lib q x r) ≡ true) bad.1
            (ungranted (subst IsToldOf (sym bad.1) told) (pending (GrantSink x.sink) h) refl bad.0)
        | inr none ↦ absurd cc
      ]
    where
      turn : IsTurn r.turns.sink l (GrantSink x.sink) t
      turn = sink_turn lib base r t rec x.sink sink

      ungranted : IsToldOf H8 → (b : Bool) → pending (GrantSink x.sink) h ≡ b
          → (not b || (not lib.early && comes_in_grant x.sink (unfinished channel.D h))) ≡ true
          → is_some (where_missing (GrantSink x.sink) r.turns.sink (awaited lib (begun_on r channel.D))) ≡ true
      ungranted (inl never) b f bad = absurd cc
      ungranted (inr clean) false off bad =
          free_told l t (GrantSink x.sink) r.turns.sink turn (awaited lib (begun_on r channel.D)) off
      ungranted (inr clean) true on bad = awaited_told l t (GrantSink x.sink) r.turns.sink turn lib (begun_on r channel.D)
          (rec.begun_are channel.D) on bad clean.0 clean.1

  of_order : (rule : Rule) (link : Link) (x : Beat w) → IsSubject r.subject link x → HasBlockAsked r.subject x t
      → IsToldOf rule → broken_order_under lib x h ≡ Some rule → is_some (for_message lib rule x r) ≡ true
  of_order rule link (beat.A x) is asked told e = of_a rule x is.1 is.2 e
  of_order rule link (beat.B x) is asked told e = of_b rule x is.1 e
  of_order rule link (beat.C x) is asked told e = of_c rule x is.1 is.2 e
  of_order rule link (beat.D x) is asked told e = of_d rule x is.1 is.2 asked told e
  of_order rule link (beat.E x) is asked told e = of_e rule x is.1 told e

  no_burst : (b : Option Begun) (x : Beat w) → begins x h ≡ true → IsBegun b l (channel_of x) t → is_none b ≡ true
  no_burst None x e begun = refl
  no_burst (Some b) x e begun = let no : false ≡ true = sym (ap is_empty begun.2) ∙ e in absurd cc

  differs_told : (x : Beat w) (b : Option Begun) → IsBegun b l (channel_of x) t
      → breaks_burst x (unfinished (channel_of x) h) ≡ true → is_some (differs_by x b) ≡ true
  differs_told x None begun bad = let no : false ≡ true = sym (ap (breaks_burst x) begun) ∙ bad in absurd cc
  differs_told x (Some b) begun bad =
      let other : has_control x b.newest ≡ false =
      ap (has_control x) begun.3 ∙ not_true (has_control x (control_of begun.0))
      (sym (ap (breaks_burst x) begun.2) ∙ bad) in
      rw other refl

  pub told_where_first : (rule : Rule) (link : Link) (x : Beat w) → IsSubject r.subject link x
      → HasBlockAsked r.subject x t → IsToldOf rule
      → broken_in_order_under lib x h ≡ Some rule → is_some (reason_by lib rule x r) ≡ true
  told_where_first rule link x is asked told e = go (begins x h) refl e
    where
      of_first : is_some (for_message lib rule x r) ≡ true → begins x h ≡ true → is_some (reason_by lib rule x r) ≡ true
      of_first some first = rw (
        not_of_bursts lib r rule x some,
        no_burst (begun_on r (channel_of x)) x first
            (rec.begun_are (channel_of x)),
      ) some

      go : (b : Bool) → begins x h ≡ b
          → (if b then broken_order_under lib x h else first_if (breaks_burst x (unfinished (channel_of x) h)) S1 None) ≡ Some
          rule
          → is_some (reason_by lib rule x r) ≡ true
      go true first f = of_first (of_order rule link x is asked told f) first
      go false later f = elim (decides (breaks_burst x (unfinished (channel_of x) h)) S1 None rule f) [
        | inl bad ↦ subst (λ (q : Rule). is_some (reason_by lib q x r) ≡ true) bad.1
            (differs_told x (begun_on r (channel_of x)) (rec.begun_are (channel_of x)) bad.0)
        | inr none ↦ absurd cc
      ]
