-- Each reason breaks its rule.
use Rattle.std.proofs.Common.{◌≡◌, ℕ, ◌==◌, ◌&&◌, ◌||◌, List, ◌∷◌, true, false, Bool}
use Rattle.std.proofs.Common.{not, refl, sym, ap, ap₂, ◌∙◌}
use Rattle.std.specs.Prelude.{Some, None}
use Rattle.std.proofs.lemmas.Bool.{eqb-true}
use Rattle.tl_beat.specs.declared.beat.Beat.{Beat}
use Rattle.tl_beat.specs.declared.beat.Beat.TheVariants as beat
use Rattle.tl_beat.specs.declared.beat.BeatA.{BeatA}
use Rattle.tl_beat.specs.declared.beat.BeatC.{BeatC}
use Rattle.tl_beat.specs.declared.beat.BeatD.{BeatD}
use Rattle.tl_beat.specs.declared.channel.Channel.TheVariants as channel
use Rattle.tl_beat.specs.declared.opcode.OpA.{OpA}
use Rattle.tl_beat.specs.declared.opcode.OpB.{OpB}
use Rattle.tl_beat.specs.declared.opcode.OpD.{OpD}
use Rattle.tl_beat.specs.declared.opcode.OpD.TheVariants as d
use Rattle.tl_beat.specs.statement.First.{first_if}
use Rattle.tl_beat.specs.statement.Opcode.{c_carries_data}
use Rattle.tl_burst.specs.statement.Messages.{History, breaks_burst, channel_of, unfinished}
use Rattle.tl_params.specs.declared.key.Key.TheVariants.{RequestSource, AcquireOf, ReleaseOf}
use Rattle.tl_params.specs.declared.key.Key.TheVariants.{ProbeOf}
use Rattle.tl_params.specs.declared.perm.Perm.{Perm}
use Rattle.tl_params.specs.declared.perm.Perm.TheVariants as perm
use Rattle.tl_params.specs.declared.liberties.Liberties.{Liberties}
use Rattle.tl_params.specs.declared.rule.Rule.{Rule}
use Rattle.tl_params.specs.declared.rule.Rule.TheVariants.{S1, H2, H3, H5, H6, H10, H12, H13}
use Rattle.tl_rules.specs.statement.Conformance.{Trace, on_link, answers, comes_in_request, fits_grow}
use Rattle.tl_rules.specs.statement.Conformance.{is_acquire_block, is_grant_without_data, is_probe_block, same_perm}
use Rattle.tl_rules.specs.statement.History.{begins, block_at, pending}
use Rattle.tl_rules.specs.statement.History.{is_acquire, is_grant, is_probe_ack, is_release, is_release_ack}
use Rattle.tl_rules.specs.statement.Liberties.{grows_from_under, held_under, misgrants_under, profile_under}
use Rattle.tl_rules.specs.statement.Liberties.{releases_from}
use Rattle.tl_beat.specs.statement.Control.{control_of, has_control}
use Rattle.tl_beat.specs.declared.control.Control.{Control}
use Rattle.tl_beat.specs.declared.control.Control.TheVariants as control
use Rattle.tl_explain.specs.declared.held.Held.{Held}
use Rattle.tl_explain.specs.declared.reason.Reason.{Reason}
use Rattle.tl_explain.specs.declared.reason.Reason.TheVariants.{Pending, Never, Closed, Unfinished, OtherKind}
use Rattle.tl_explain.specs.declared.reason.Reason.TheVariants.{OtherSize, WrongCap, WithoutData, Probed, Holds}
use Rattle.tl_explain.specs.declared.reason.Reason.TheVariants.{OtherSource, WrongProbe, Misreport, Differs}
use Rattle.tl_explain.specs.declared.told.Mention.{Mention}
use Rattle.tl_explain.specs.statement.OrderRules.{BreaksUnder}
use Rattle.tl_explain.specs.statement.Reasons.{IsEvidenceUnder, IsHeldOf, IsUnanswered}
use Rattle.tl_explain.specs.statement.Reasons.{block_named, comes_in, convicted_under, gives_nothing, has_wrong_cap}
use Rattle.tl_explain.specs.statement.Reasons.{is_misreport, lacks_data, rule_of_source}
use Rattle.tl_explain.specs.statement.Reasons.{rule_of_kind, rule_of_size, rule_of_cap, rule_of_data, rule_of_probed}
use Rattle.tl_explain.specs.statement.Reasons.{rule_of_held, rule_of_probe, rule_of_report}
use Rattle.tl_explain.proofs.Places.{pending_told}
use Rattle.tl_explain.proofs.convicts.Pending.{by_rule, closed_free, missing_breaks, never_pending, or_true, pending_breaks, unfinished_breaks}
use Rattle.tl_explain.proofs.convicts.Waiting.{held_named, probe_waits, release_waits, request_waits}
use Rattle.tl_explain.proofs.Plain.{both_true, not_true, same_test}

either_true : (a b : Bool) → a ≡ true → (a || b) ≡ true
either_true true b e = refl
either_true false b e = absurd cc

not_asked : (a c : Bool) → not (a && (c && false)) ≡ true
not_asked true true = refl
not_asked true false = refl
not_asked false c = refl

three_true : (a b c : Bool) → (a && (b && c)) ≡ true → (a ≡ true) × (b ≡ true) × (c ≡ true)
three_true a b c e = let one = both_true a (b && c) e in let two = both_true b c one.1 in (one.0, two.0, two.1)

-- the rules are judged by some liberties, the evidence is given by others, under which as much is held
module _ {w : ℕ} (lib base : Liberties) (as_much : (k : ℕ) (h : History w) → held_under base k h ≡ held_under lib k h)
    (rule : Rule) (n : ℕ) (t : Trace w) where
  abbrev now : History w
  now = on_link n t

  abbrev Broken : Beat w → Rule → Type 0
  Broken x r = BreaksUnder lib r x now

  held_now : (c : Control) (h : Held) (k : ℕ) → block_named c ≡ Some k → IsHeldOf base n c h t
      → h.perm ≡ held_under lib k now
  held_now c h k e is = held_named base n c h t k e is ∙ as_much k now

  kind_breaks : (x : BeatD w) (m : Mention) (c : Control) → m.control ≡ c → begins (beat.D x) now ≡ true
      → IsUnanswered n m t → rule_of_kind (beat.D x) c ≡ Some rule → Broken (beat.D x) rule
  kind_breaks x m (control.A r) e first waits f =
      by_rule rule (Broken (beat.D x))
      (not (is_release_ack x.opcode) && ((x.source == r.source) && not (answers x.opcode r.opcode))) H2 f (λ all.
      let three = three_true (not (is_release_ack x.opcode)) (x.source == r.source) (not (answers x.opcode r.opcode))
      all in
      let waiting = request_waits n m t r x.source e (eqb-true x.source r.source three.1) waits in
      let other : answers x.opcode waiting.1.0.opcode ≡ false = ap (answers x.opcode) (sym waiting.1.2) ∙ not_true
      (answers x.opcode r.opcode) three.2 in (
        first,
        rw (not_true (is_release_ack x.opcode) three.0, waiting.1.1, other)
            (not_asked (pending (RequestSource x.source) now)
            (not (not lib.early && comes_in_request x.source (unfinished channel.A now)))),
      ))
  kind_breaks x m (control.B r) e first waits f = absurd cc
  kind_breaks x m (control.C r) e first waits f = absurd cc
  kind_breaks x m (control.D r) e first waits f = absurd cc
  kind_breaks x m (control.E r) e first waits f = absurd cc

  size_breaks : (x : BeatD w) (m : Mention) (c : Control) → m.control ≡ c → begins (beat.D x) now ≡ true
      → IsUnanswered n m t → rule_of_size (beat.D x) c ≡ Some rule → Broken (beat.D x) rule
  size_breaks x m (control.A r) e first waits f =
      by_rule rule (Broken (beat.D x))
      (not (is_release_ack x.opcode) && ((x.source == r.source) && not (x.size == r.size))) H3 f (λ all.
      let three = three_true (not (is_release_ack x.opcode)) (x.source == r.source) (not (x.size == r.size)) all in
      let waiting = request_waits n m t r x.source e (eqb-true x.source r.source three.1) waits in
      let other : (x.size == waiting.1.0.size) ≡ false = ap (λ (s : ℕ). x.size == s) (sym waiting.1.4) ∙ not_true
      (x.size == r.size) three.2 in
      (first, rw (not_true (is_release_ack x.opcode) three.0, waiting.1.1, other) refl))
  size_breaks x m (control.C r) e first waits f =
      by_rule rule (Broken (beat.D x)) (is_release_ack x.opcode && ((x.source == r.source) && not (x.size == r.size)))
      H3 f (λ all.
      let three = three_true (is_release_ack x.opcode) (x.source == r.source) (not (x.size == r.size)) all in
      let waiting = release_waits n m t r x.source e (eqb-true x.source r.source three.1) waits in
      let other : (x.size == waiting.1.0.size) ≡ false = ap (λ (s : ℕ). x.size == s) (sym waiting.1.2) ∙ not_true
      (x.size == r.size) three.2 in
      (first, rw (three.0, waiting.1.1, other) refl))
  size_breaks x m (control.B r) e first waits f = absurd cc
  size_breaks x m (control.D r) e first waits f = absurd cc
  size_breaks x m (control.E r) e first waits f = absurd cc

  -- a Grant that isn't one that is denied: its cap, and its data
  misgrants_by : (x : BeatD w) (z : BeatA w) (a b : Bool) → a ≡ not (fits_grow (profile_under lib) z.opcode z.param x.param)
      → b ≡ (is_grant_without_data x.opcode
      && (is_acquire_block z.opcode && not (same_perm (held_under lib (block_at z.address) now) perm.Branch)))
      → gives_nothing lib x ≡ false → (a || b) ≡ true → misgrants_under lib x (Some z) now ≡ true
  misgrants_by x z true b cap wants judged some = rw (judged, ← cap) refl
  misgrants_by x z false true cap wants judged some = rw (judged, ← cap, ← wants) refl
  misgrants_by x z false false cap wants judged some = absurd cc

  cap_breaks : (x : BeatD w) (m : Mention) (c : Control) → m.control ≡ c → begins (beat.D x) now ≡ true
      → IsUnanswered n m t → rule_of_cap lib (beat.D x) c ≡ Some rule → Broken (beat.D x) rule
  cap_breaks x m (control.A r) e first waits f =
      by_rule rule (Broken (beat.D x))
      (is_grant x.opcode && ((x.source == r.source) && has_wrong_cap lib x r)) H6 f (λ all.
      let three = three_true (is_grant x.opcode) (x.source == r.source) (has_wrong_cap lib x r) all in
      let wrong = both_true (not (gives_nothing lib x)) (not (fits_grow (profile_under lib) r.opcode r.param x.param))
      three.2 in
      let waiting = request_waits n m t r x.source e (eqb-true x.source r.source three.1) waits in
      let other : true ≡ not (fits_grow (profile_under lib) waiting.1.0.opcode waiting.1.0.param x.param) =
      rw (← waiting.1.2, ← waiting.1.3) (sym wrong.1) in (
        first,
        rw (three.0, waiting.1.1)
            (misgrants_by x waiting.1.0 true _ other refl (not_true (gives_nothing lib x) wrong.0) refl),
      ))
  cap_breaks x m (control.B r) e first waits f = absurd cc
  cap_breaks x m (control.C r) e first waits f = absurd cc
  cap_breaks x m (control.D r) e first waits f = absurd cc
  cap_breaks x m (control.E r) e first waits f = absurd cc

  grant_is : (o : OpD) → is_grant_without_data o ≡ true → is_grant o ≡ true
  grant_is d.AccessAck e = absurd cc
  grant_is d.AccessAckData e = absurd cc
  grant_is d.HintAck e = absurd cc
  grant_is d.Grant e = refl
  grant_is d.GrantData e = absurd cc
  grant_is d.ReleaseAck e = absurd cc

  data_breaks : (x : BeatD w) (m : Mention) (h : Held) (c : Control) → m.control ≡ c → begins (beat.D x) now ≡ true
      → IsUnanswered n m t → IsHeldOf base n m.control h t
      → rule_of_data lib (beat.D x) c h.perm ≡ Some rule → Broken (beat.D x) rule
  data_breaks x m h (control.A r) e first waits holds f =
      by_rule rule (Broken (beat.D x)) ((x.source == r.source) && lacks_data lib x r h.perm) H6 f (λ all.
      let two = both_true (x.source == r.source) (lacks_data lib x r h.perm) all in
      let judged = both_true (not (gives_nothing lib x))
      (is_grant_without_data x.opcode && (is_acquire_block r.opcode && not (same_perm h.perm perm.Branch))) two.1 in
      let lacks = both_true (is_grant_without_data x.opcode)
      (is_acquire_block r.opcode && not (same_perm h.perm perm.Branch)) judged.1 in
      let waiting = request_waits n m t r x.source e (eqb-true x.source r.source two.0) waits in
      let of : h.perm ≡ held_under lib (block_at waiting.1.0.address) now =
      held_now m.control h (block_at waiting.1.0.address)
      (ap block_named e ∙ ap (λ (a : ℕ). Some (block_at a)) waiting.1.5) holds in
      let wants : true ≡ (is_grant_without_data x.opcode && (is_acquire_block waiting.1.0.opcode
      && not (same_perm (held_under lib (block_at waiting.1.0.address) now) perm.Branch))) =
      sym judged.1 ∙ ap₂ (λ (o : OpA) (q : Perm). is_grant_without_data x.opcode
      && (is_acquire_block o && not (same_perm q perm.Branch))) waiting.1.2 of in (
        first,
        rw (grant_is x.opcode lacks.0, waiting.1.1)
            (misgrants_by x waiting.1.0 _ true refl wants (not_true (gives_nothing lib x) judged.0)
            (or_true _ true refl)),
      ))
  data_breaks x m h (control.B r) e first waits holds f = absurd cc
  data_breaks x m h (control.C r) e first waits holds f = absurd cc
  data_breaks x m h (control.D r) e first waits holds f = absurd cc
  data_breaks x m h (control.E r) e first waits holds f = absurd cc

  misgrants_probed : (x : BeatD w) (z : BeatA w) (b : Bool) → gives_nothing lib x ≡ b
      → pending (ProbeOf (block_at z.address)) now ≡ true → misgrants_under lib x (Some z) now ≡ true
  misgrants_probed x z true e on = rw e on
  misgrants_probed x z false e on =
      rw e (or_true (not (fits_grow (profile_under lib) z.opcode z.param x.param)) _
      (or_true (is_grant_without_data x.opcode && (is_acquire_block z.opcode && not
      (same_perm (held_under lib (block_at z.address) now) perm.Branch))) _ on))

  probed_breaks : (x : BeatD w) (m : Mention) (c : Control) → m.control ≡ c → (q : Mention) (d : Control)
      → q.control ≡ d → begins (beat.D x) now ≡ true
      → IsUnanswered n m t → IsUnanswered n q t → rule_of_probed (beat.D x) c d ≡ Some rule → Broken (beat.D x) rule
  probed_breaks x m (control.A r) e q (control.B y) g first waits probing f =
      by_rule rule (Broken (beat.D x))
      (is_grant x.opcode && ((x.source == r.source) && (block_at y.address == block_at r.address))) H6 f (λ all.
      let three = three_true (is_grant x.opcode) (x.source == r.source) (block_at y.address == block_at r.address) all
      in
      let waiting = request_waits n m t r x.source e (eqb-true x.source r.source three.1) waits in
      let block : block_at waiting.1.0.address ≡ block_at y.address =
      sym (eqb-true (block_at y.address) (block_at r.address) three.2 ∙ ap block_at waiting.1.5) in
      let probe = probe_waits n q t y (block_at waiting.1.0.address) g block probing in (
        first,
        rw (three.0, waiting.1.1) (misgrants_probed x waiting.1.0 (gives_nothing lib x) refl probe.0),
      ))
  probed_breaks x m (control.A r) e q (control.A y) g first waits probing f = absurd cc
  probed_breaks x m (control.A r) e q (control.C y) g first waits probing f = absurd cc
  probed_breaks x m (control.A r) e q (control.D y) g first waits probing f = absurd cc
  probed_breaks x m (control.A r) e q (control.E y) g first waits probing f = absurd cc
  probed_breaks x m (control.B r) e q (control.A y) g first waits probing f = absurd cc
  probed_breaks x m (control.B r) e q (control.B y) g first waits probing f = absurd cc
  probed_breaks x m (control.B r) e q (control.C y) g first waits probing f = absurd cc
  probed_breaks x m (control.B r) e q (control.D y) g first waits probing f = absurd cc
  probed_breaks x m (control.B r) e q (control.E y) g first waits probing f = absurd cc
  probed_breaks x m (control.C r) e q (control.A y) g first waits probing f = absurd cc
  probed_breaks x m (control.C r) e q (control.B y) g first waits probing f = absurd cc
  probed_breaks x m (control.C r) e q (control.C y) g first waits probing f = absurd cc
  probed_breaks x m (control.C r) e q (control.D y) g first waits probing f = absurd cc
  probed_breaks x m (control.C r) e q (control.E y) g first waits probing f = absurd cc
  probed_breaks x m (control.D r) e q (control.A y) g first waits probing f = absurd cc
  probed_breaks x m (control.D r) e q (control.B y) g first waits probing f = absurd cc
  probed_breaks x m (control.D r) e q (control.C y) g first waits probing f = absurd cc
  probed_breaks x m (control.D r) e q (control.D y) g first waits probing f = absurd cc
  probed_breaks x m (control.D r) e q (control.E y) g first waits probing f = absurd cc
  probed_breaks x m (control.E r) e q (control.A y) g first waits probing f = absurd cc
  probed_breaks x m (control.E r) e q (control.B y) g first waits probing f = absurd cc
  probed_breaks x m (control.E r) e q (control.C y) g first waits probing f = absurd cc
  probed_breaks x m (control.E r) e q (control.D y) g first waits probing f = absurd cc
  probed_breaks x m (control.E r) e q (control.E y) g first waits probing f = absurd cc

  holds_breaks : (x : Beat w) (h : Held) → begins x now ≡ true → IsHeldOf base n (control_of x) h t
      → rule_of_held lib x h.perm ≡ Some rule → Broken x rule
  holds_breaks (beat.A x) h first holds f =
      by_rule rule (Broken (beat.A x)) (is_acquire x.opcode && not (grows_from_under lib x.param h.perm)) H5 f (λ all.
      let two = both_true (is_acquire x.opcode) (not (grows_from_under lib x.param h.perm)) all in
      (first, rw (two.0, ← held_now (control_of (beat.A x)) h (block_at x.address) refl holds) two.1))
  holds_breaks (beat.B x) h first holds f = absurd cc
  holds_breaks (beat.C x) h first holds f =
      by_rule rule (Broken (beat.C x)) (is_release x.opcode && not (releases_from lib x.param h.perm)) H13 f
      (λ all.
      let two = both_true (is_release x.opcode) (not (releases_from lib x.param h.perm)) all in (
        first,
        rw (two.0, ← held_now (control_of (beat.C x)) h (block_at x.address) refl holds)
            (or_true (pending (AcquireOf (block_at x.address)) now) _
            (or_true (pending (ReleaseOf (block_at x.address)) now) _ two.1)),
      ))
  holds_breaks (beat.D x) h first holds f = absurd cc
  holds_breaks (beat.E x) h first holds f = absurd cc

  source_breaks : (x : BeatC w) (m : Mention) (c : Control) → m.control ≡ c → begins (beat.C x) now ≡ true
      → IsUnanswered n m t → rule_of_source lib (beat.C x) c ≡ Some rule → Broken (beat.C x) rule
  source_breaks x m (control.B y) e first waits f =
      by_rule rule (Broken (beat.C x))
      (is_probe_ack x.opcode && ((block_at x.address == block_at y.address) && (lib.ids && not
      (x.source == y.source)))) H10 f (λ all.
      let three = three_true (is_probe_ack x.opcode) (block_at x.address == block_at y.address)
      (lib.ids && not (x.source == y.source)) all in
      let probe = probe_waits n m t y (block_at x.address) e (eqb-true (block_at x.address) (block_at y.address)
      three.1) waits in
      let wrong : (lib.ids && not (x.source == probe.1.0.source)) ≡ true =
      ap (λ (s : ℕ). lib.ids && not (x.source == s)) (sym probe.1.4) ∙ three.2 in (
        first,
        rw (three.0, probe.1.1) (or_true (not (pending (ProbeOf (block_at x.address)) now)) _ (either_true
            (lib.ids && not (x.source == probe.1.0.source)) _ wrong)),
      ))
  source_breaks x m (control.A y) e first waits f = absurd cc
  source_breaks x m (control.C y) e first waits f = absurd cc
  source_breaks x m (control.D y) e first waits f = absurd cc
  source_breaks x m (control.E y) e first waits f = absurd cc

  wrong_breaks : (x : BeatC w) (m : Mention) (c : Control) → m.control ≡ c → begins (beat.C x) now ≡ true
      → IsUnanswered n m t → rule_of_probe (beat.C x) c ≡ Some rule → Broken (beat.C x) rule
  wrong_breaks x m (control.B y) e first waits f =
      by_rule rule (Broken (beat.C x))
      (is_probe_ack x.opcode && ((block_at x.address == block_at y.address) && (c_carries_data x.opcode && not
      (is_probe_block y.opcode)))) H10 f (λ all.
      let three = three_true (is_probe_ack x.opcode) (block_at x.address == block_at y.address)
      (c_carries_data x.opcode && not (is_probe_block y.opcode)) all in
      let probe = probe_waits n m t y (block_at x.address) e (eqb-true (block_at x.address) (block_at y.address)
      three.1) waits in
      let wrong : (c_carries_data x.opcode && not (is_probe_block probe.1.0.opcode)) ≡ true =
      ap (λ (o : OpB). c_carries_data x.opcode && not (is_probe_block o)) (sym probe.1.2) ∙ three.2 in (
        first,
        rw (three.0, probe.1.1) (or_true (not (pending (ProbeOf (block_at x.address)) now)) _ (or_true
            (lib.ids && not (x.source == probe.1.0.source)) _ wrong)),
      ))
  wrong_breaks x m (control.A y) e first waits f = absurd cc
  wrong_breaks x m (control.C y) e first waits f = absurd cc
  wrong_breaks x m (control.D y) e first waits f = absurd cc
  wrong_breaks x m (control.E y) e first waits f = absurd cc

  report_breaks : (x : BeatC w) (m : Mention) (h : Held) (c : Control) → m.control ≡ c → begins (beat.C x) now ≡ true
      → IsUnanswered n m t → IsHeldOf base n m.control h t
      → rule_of_report lib (beat.C x) c h.perm ≡ Some rule → Broken (beat.C x) rule
  report_breaks x m h (control.B y) e first waits holds f =
      by_rule rule (Broken (beat.C x))
      (is_probe_ack x.opcode && ((block_at x.address == block_at y.address) && is_misreport lib x.param y.param h.perm))
      H12 f (λ all.
      let three = three_true (is_probe_ack x.opcode) (block_at x.address == block_at y.address)
      (is_misreport lib x.param y.param h.perm) all in
      let block = eqb-true (block_at x.address) (block_at y.address) three.1 in
      let probe = probe_waits n m t y (block_at x.address) e block waits in
      let of : h.perm ≡ held_under lib (block_at x.address) now =
      held_now m.control h (block_at x.address) (ap block_named e ∙ ap (λ (k : ℕ). Some k) (sym block)) holds
      in
      let other : is_misreport lib x.param probe.1.0.param (held_under lib (block_at x.address) now) ≡ true =
      rw (← probe.1.3, ← of) three.2 in
      (first, rw (three.0, probe.1.1) other))
  report_breaks x m h (control.A y) e first waits holds f = absurd cc
  report_breaks x m h (control.C y) e first waits holds f = absurd cc
  report_breaks x m h (control.D y) e first waits holds f = absurd cc
  report_breaks x m h (control.E y) e first waits holds f = absurd cc

  differs_breaks : (x : Beat w) (newest : Beat w) (others : List (Beat w)) (c : Control) → begins x now ≡ false
      → unfinished (channel_of x) now ≡ newest ∷ others
      → c ≡ control_of newest → first_if (not (has_control x c)) S1 None ≡ Some rule → Broken x rule
  differs_breaks x newest others c later burst is f =
      by_rule rule (Broken x) (not (has_control x c)) S1 f (λ differs.
      (later, ap (breaks_burst x) burst ∙ ap not (sym (ap (has_control x) is ∙ same_test x newest)) ∙ differs))

  pub convicts : (x : Beat w) (reason : Reason) → IsEvidenceUnder base n x reason t
      → convicted_under lib x reason ≡ Some rule
      → Broken x rule
  convicts x (Pending k m) (first, said) f = pending_breaks lib rule now x k f first (pending_told n k t m.mention said)
  convicts x (Never k) (first, said) f = missing_breaks lib rule now x k f first (never_pending n k t said)
  convicts x (Closed k o c) (first, said) f =
      missing_breaks lib rule now x k f first (closed_free n k t o.mention c.mention said)
  convicts x (Unfinished k m came) (first, said) f =
      unfinished_breaks lib rule now x k f first (pending_told n k t m.mention said.0)
      (ap (comes_in k) said.1.2.8 ∙ said.1.5)
  convicts (beat.A x) (OtherKind m) (first, said) f = absurd cc
  convicts (beat.B x) (OtherKind m) (first, said) f = absurd cc
  convicts (beat.C x) (OtherKind m) (first, said) f = absurd cc
  convicts (beat.D x) (OtherKind m) (first, said) f = kind_breaks x m.mention m.mention.control refl first said f
  convicts (beat.E x) (OtherKind m) (first, said) f = absurd cc
  convicts (beat.A x) (OtherSize m) (first, said) f = absurd cc
  convicts (beat.B x) (OtherSize m) (first, said) f = absurd cc
  convicts (beat.C x) (OtherSize m) (first, said) f = absurd cc
  convicts (beat.D x) (OtherSize m) (first, said) f = size_breaks x m.mention m.mention.control refl first said f
  convicts (beat.E x) (OtherSize m) (first, said) f = absurd cc
  convicts (beat.A x) (WrongCap m) (first, said) f = absurd cc
  convicts (beat.B x) (WrongCap m) (first, said) f = absurd cc
  convicts (beat.C x) (WrongCap m) (first, said) f = absurd cc
  convicts (beat.D x) (WrongCap m) (first, said) f = cap_breaks x m.mention m.mention.control refl first said f
  convicts (beat.E x) (WrongCap m) (first, said) f = absurd cc
  convicts (beat.A x) (WithoutData m h) (first, said) f = absurd cc
  convicts (beat.B x) (WithoutData m h) (first, said) f = absurd cc
  convicts (beat.C x) (WithoutData m h) (first, said) f = absurd cc
  convicts (beat.D x) (WithoutData m h) (first, said) f = data_breaks x m.mention h m.mention.control refl first said.0
      said.1 f
  convicts (beat.E x) (WithoutData m h) (first, said) f = absurd cc
  convicts (beat.A x) (Probed m q) (first, said) f = absurd cc
  convicts (beat.B x) (Probed m q) (first, said) f = absurd cc
  convicts (beat.C x) (Probed m q) (first, said) f = absurd cc
  convicts (beat.D x) (Probed m q) (first, said) f =
      probed_breaks x m.mention m.mention.control refl q.mention q.mention.control refl first said.0 said.1 f
  convicts (beat.E x) (Probed m q) (first, said) f = absurd cc
  convicts x (Holds h) (first, said) f = holds_breaks x h first said f
  convicts (beat.A x) (OtherSource m) (first, said) f = absurd cc
  convicts (beat.B x) (OtherSource m) (first, said) f = absurd cc
  convicts (beat.C x) (OtherSource m) (first, said) f = source_breaks x m.mention m.mention.control refl first said f
  convicts (beat.D x) (OtherSource m) (first, said) f = absurd cc
  convicts (beat.E x) (OtherSource m) (first, said) f = absurd cc
  convicts (beat.A x) (WrongProbe m) (first, said) f = absurd cc
  convicts (beat.B x) (WrongProbe m) (first, said) f = absurd cc
  convicts (beat.C x) (WrongProbe m) (first, said) f = wrong_breaks x m.mention m.mention.control refl first said f
  convicts (beat.D x) (WrongProbe m) (first, said) f = absurd cc
  convicts (beat.E x) (WrongProbe m) (first, said) f = absurd cc
  convicts (beat.A x) (Misreport m h) (first, said) f = absurd cc
  convicts (beat.B x) (Misreport m h) (first, said) f = absurd cc
  convicts (beat.C x) (Misreport m h) (first, said) f = report_breaks x m.mention h m.mention.control refl first said.0
      said.1 f
  convicts (beat.D x) (Misreport m h) (first, said) f = absurd cc
  convicts (beat.E x) (Misreport m h) (first, said) f = absurd cc
  convicts x (Differs b) (later, said) f = differs_breaks x said.0 said.1 b.newest later said.2.8 said.4 f
