-- A beat that says that nothing is held breaks no rule once that is recorded.
use Rattle.std.proofs.Common.{◌≡◌, ℕ, Bool, true, false, ◌&&◌, ◌||◌, ◌==◌, Option, Some, None, refl, ap, ◌∙◌, not}
use Rattle.std.proofs.lemmas.Bool.{and_parts, eqb-true, not-false, not-true, or_parts}
use Rattle.std.specs.Prelude.{if◌then◌else◌}
use Rattle.tl_beat.specs.declared.beat.Beat.{Beat}
use Rattle.tl_beat.specs.declared.beat.BeatA.{BeatA}
use Rattle.tl_beat.specs.declared.beat.BeatB.{BeatB}
use Rattle.tl_beat.specs.declared.beat.BeatC.{BeatC}
use Rattle.tl_beat.specs.declared.beat.Link.{Link}
use Rattle.tl_beat.specs.declared.channel.Channel.{Channel}
use Rattle.tl_beat.specs.declared.opcode.OpA.{OpA}
use Rattle.tl_beat.specs.declared.opcode.OpC.{OpC}
use Rattle.tl_beat.specs.statement.Opcode.{a_carries_data, c_carries_data}
use Rattle.tl_beat.specs.statement.Width.{IsWidth}
use Rattle.tl_params.specs.declared.config.Config.{Config}
use Rattle.tl_params.specs.declared.key.Key.TheVariants.{AcquireOf, ProbeOf, RequestSource}
use Rattle.tl_params.specs.declared.level.Level.{Level}
use Rattle.tl_params.specs.declared.param.Cap.{Cap}
use Rattle.tl_params.specs.declared.param.Grow.TheVariants as grow
use Rattle.tl_params.specs.declared.perm.Perm.{Perm}
use Rattle.tl_params.specs.declared.rule.Rule.TheVariants.{H1, H10, L1, L2, L3, L4, L5, L6, L7}
use Rattle.tl_params.specs.statement.Param.{grow_code}
use Rattle.tl_rules.proofs.Bursts.{next_rule}
use Rattle.tl_rules.specs.statement.Conformance.{answers_wrong_probe, broken_in_order, misreports, on_link}
unfoldable use Rattle.tl_rules.specs.statement.Conformance.{broken_order}
use Rattle.tl_rules.specs.statement.History.{block_at, is_acquire, is_probe_ack}
use Rattle.tl_rules.specs.statement.History.{pending, probe_of}
use Rattle.tl_rules.specs.statement.Legality.{breaks_l1, breaks_l2, breaks_l3, breaks_l4, breaks_l5, breaks_l6, breaks_l7}
use Rattle.tl_rules.specs.statement.Legality.{c_has_param, c_has_source, is_one_of}
unfoldable use Rattle.tl_rules.specs.statement.Legality.{illegal}
use Rattle.tl_rules.specs.statement.Liberties.{grows_from_none, reports_none}
use Rattle.tl_manager.proofs.pending.Probing.{probe_ack_kind}
use Rattle.tl_manager.proofs.pending.SteadyReports.{release_kind}
use Rattle.tl_manager.proofs.judging.Judged.{judged-passes}
use Rattle.tl_manager.specs.code.Kept.{IsKept}
use Rattle.tl_manager.specs.statement.End.{End}
use Rattle.tl_manager.specs.statement.Handing.{probe_beat}
use Rattle.tl_manager.specs.statement.Offer.{Passes, judged, level_of, must_wait, open_level}
use Rattle.tl_partner.specs.statement.Dropping.{after_drop, block_of, is_by_record, is_drop, is_reporting}
use Rattle.tl_partner.specs.statement.Dropping.{says_none}
use Rattle.tl_partner.specs.declared.terms.Terms.{Terms}
use Rattle.tl_partner.proofs.Afterward.{held-drop, pending-drop, probe-drop, released-drop, reports-drop, requests-drop}
use Rattle.tl_partner.proofs.Afterward.{services-drop}
use Rattle.tl_partner.proofs.Drops.{IsByRecord, IsDropped, by_record, dropped, in_order, next}
use Rattle.tl_partner.proofs.Said.{beside, inside}

-- ---- what such a beat carries

pub legal-parts : {w : ℕ} (l : Level) (ch : Channel) (x : Beat w) → illegal l ch x ≡ None
    → (breaks_l2 x ≡ false) × (breaks_l6 x ≡ false)
unfolding illegal
legal-parts l ch x e =
    let one = next_rule (breaks_l1 l ch x) L1 _ e in
    let two = next_rule (breaks_l7 x) L7 _ one.1 in
    let three = next_rule (breaks_l2 x) L2 _ two.1 in
    let four = next_rule (breaks_l3 l x) L3 _ three.1 in
    let five = next_rule (breaks_l4 x) L4 _ four.1 in
    let six = next_rule (breaks_l5 x) L5 _ five.1 in
    (three.0, (next_rule (breaks_l6 x) L6 None six.1).0)

pub bare_a : (opcode : OpA) → is_acquire opcode ≡ true → a_carries_data opcode ≡ false
bare_a OpA.AcquireBlock e = refl
bare_a OpA.AcquirePerm e = refl
bare_a v e = absurd cc

pub bare_c : (opcode : OpC) (param : ℕ) → is_probe_ack opcode ≡ true → reports_none param ≡ true
    → c_has_param opcode param ≡ true → c_carries_data opcode ≡ false
bare_c OpC.ProbeAck param e none has = refl
bare_c OpC.ProbeAckData param e none has =
    absurd (let five : param ≡ 5 = eqb-true param 5 none in let no-such = rw five at has in cc)
bare_c v param e none has = absurd cc

clean : (corrupt carries : Bool) → carries ≡ false → (corrupt && not carries) ≡ false → corrupt ≡ false
clean true true e f = absurd cc
clean true false e f = absurd cc
clean false carries e f = refl

-- ---- an Acquire

live-drop : {w : ℕ} (config : Config) (link : Link) (k : ℕ) (e : End w) (l : Level) → IsKept config e
    → IsDropped config link k e → is_reporting link e.trace ≡ false → open_level config link e ≡ Some l
    → open_level config link (after_drop config link k e) ≡ Some l
live-drop config link k e l kept is free live =
    ap (λ closed. if is_one_of link.0 closed then None else level_of config link.0) (beside config link k e kept is free).1
    ∙ live

order_a : {w : ℕ} (config : Config) (link : Link) (ch : Channel) (x : BeatA w) (e : End w) → IsWidth w
    → IsKept config e → says_none (Beat.A x) ≡ true → IsByRecord config link ch (Beat.A x) e
    → IsDropped config link (block_at x.address) e → is_reporting link e.trace ≡ false
    → broken_in_order config.profile (Beat.A x)
    (on_link link.0 (after_drop config link (block_at x.address) e).trace) ≡ None
unfolding broken_order
order_a {w} config link ch x e width kept says is drop free =
    let h = on_link link.0 e.trace in
    let k = block_at x.address in
    let none = and_parts (is_acquire x.opcode) (grows_from_none x.param) says in
    let rules = in_order config.profile (Beat.A x) h is.order in
    let one = next (pending (RequestSource x.source) h) H1 _ refl rules.1 in
    let request = pending-drop config link k e (RequestSource x.source) width kept drop free (λ y t r. (refl, refl))
    (λ y t a g. (refl, rw a refl)) ∙ one.0 in
    let acquire = pending-drop config link k e (AcquireOf k) width kept drop free (λ y t r. (refl, refl))
    (λ y t a g. (refl, rw g refl)) ∙ drop.free in
    rw (
      requests-drop config link k e kept drop free,
      rules.0,
      request,
      acquire,
      released-drop config link k e width kept drop free,
      held-drop config link k e width kept drop free,
      none.0,
      not-true (x.param == grow_code grow.BtoT) none.1,
    ) refl

passes_a : {w : ℕ} (config : Config) (link : Link) (ch : Channel) (x : BeatA w) (e : End w) → IsWidth w
    → IsKept config e → says_none (Beat.A x) ≡ true → IsByRecord config link ch (Beat.A x) e
    → IsDropped config link (block_at x.address) e → is_reporting link e.trace ≡ false
    → judged config link ch (Beat.A x) (after_drop config link (block_at x.address) e) ≡ Passes
passes_a {w} config link ch x e width kept says is drop free =
    let k = block_at x.address in
    let waits : must_wait config link (Beat.A x) (after_drop config link k e).trace ≡ false =
    rw (requests-drop config link k e kept drop free, services-drop config link k e width kept drop free) is.waits in
    judged-passes config is.level link ch (Beat.A x) (after_drop config link k e)
    (live-drop config link k e is.level kept drop free is.live) is.lawful
    (order_a config link ch x e width kept says is drop free) waits (inside config link k e kept drop.copy)
    (clean x.corrupt (a_carries_data x.opcode) (bare_a x.opcode (and_parts (is_acquire x.opcode) (grows_from_none x.param) says).0)
    (legal-parts is.level ch (Beat.A x) is.lawful).1)

-- ---- a ProbeAck

right_report : {w : ℕ} (x : BeatC w) (block : ℕ) (cap : Cap) (o : Option (BeatB w)) → reports_none x.param ≡ true
    → o ≡ Some (probe_beat block cap) → misreports x o Perm.None ≡ false
right_report x block Cap.ToT o none e = rw (e, none) refl
right_report x block Cap.ToB o none e = rw (e, none) refl
right_report x block Cap.ToN o none e = rw (e, none) refl

order_c : {w : ℕ} (config : Config) (link : Link) (ch : Channel) (x : BeatC w) (e : End w) → IsWidth w
    → IsKept config e → says_none (Beat.C x) ≡ true → IsByRecord config link ch (Beat.C x) e
    → IsDropped config link (block_at x.address) e → is_reporting link e.trace ≡ false
    → broken_in_order config.profile (Beat.C x)
    (on_link link.0 (after_drop config link (block_at x.address) e).trace) ≡ None
unfolding broken_order
order_c {w} config link ch x e width kept says is drop free =
    let h = on_link link.0 e.trace in
    let k = block_at x.address in
    let none = and_parts (is_probe_ack x.opcode) (reports_none x.param) says in
    let rules = rw (probe_ack_kind x.opcode none.0, none.0) at (in_order config.profile (Beat.C x) h is.order).1 in
    let one = next (not (pending (ProbeOf k) h) || answers_wrong_probe x (probe_of k h)) H10 _ refl rules in
    let missing = not-false (pending (ProbeOf k) h)
    (or_parts (not (pending (ProbeOf k) h)) (answers_wrong_probe x (probe_of k h)) one.0).0 in
    let wrong = (or_parts (not (pending (ProbeOf k) h)) (answers_wrong_probe x (probe_of k h)) one.0).1 in
    let probed = (kept.steady.accounted.blocks k).probes link.0 missing in
    let probes = pending-drop config link k e (ProbeOf k) width kept drop free
    (λ y t r. (refl, rw (release_kind y.opcode r) refl)) (λ y t a g. (refl, refl)) ∙ missing in
    rw (
      reports-drop config link k e kept drop free,
      probe_ack_kind x.opcode none.0,
      none.0,
      probes,
      probe-drop config link k e k kept drop free,
      wrong,
      released-drop config link k e width kept drop free,
      held-drop config link k e width kept drop free,
      right_report x k probed.cap (probe_of k h) none.1 probed.probe,
    ) refl

passes_c : {w : ℕ} (config : Config) (link : Link) (ch : Channel) (x : BeatC w) (e : End w) → IsWidth w
    → IsKept config e → says_none (Beat.C x) ≡ true → IsByRecord config link ch (Beat.C x) e
    → IsDropped config link (block_at x.address) e → is_reporting link e.trace ≡ false
    → judged config link ch (Beat.C x) (after_drop config link (block_at x.address) e) ≡ Passes
passes_c {w} config link ch x e width kept says is drop free =
    let k = block_at x.address in
    let none = and_parts (is_probe_ack x.opcode) (reports_none x.param) says in
    let legal = legal-parts is.level ch (Beat.C x) is.lawful in
    let fields = and_parts (c_has_param x.opcode x.param) (c_has_source x.opcode x.source)
    (not-false (c_has_param x.opcode x.param && c_has_source x.opcode x.source) legal.0) in
    judged-passes config is.level link ch (Beat.C x) (after_drop config link k e)
    (live-drop config link k e is.level kept drop free is.live) is.lawful
    (order_c config link ch x e width kept says is drop free) refl (inside config link k e kept drop.copy)
    (clean x.corrupt (c_carries_data x.opcode) (bare_c x.opcode x.param none.0 none.1 fields.0) legal.1)

-- ---- the two

pub passes-drop : {w : ℕ} (config : Config) (link : Link) (ch : Channel) (x : Beat w) (e : End w) → IsWidth w
    → IsKept config e → says_none x ≡ true → is_by_record (judged config link ch x e) ≡ true
    → is_reporting link e.trace ≡ false
    → judged config link ch x (after_drop config link (block_of x) e) ≡ Passes
passes-drop config link ch (Beat.A x) e width kept says is free =
    passes_a config link ch x e width kept says (by_record config link ch (Beat.A x) e is)
    (dropped config link ch (Beat.A x) e kept says is) free
passes-drop config link ch (Beat.C x) e width kept says is free =
    passes_c config link ch x e width kept says (by_record config link ch (Beat.C x) e is)
    (dropped config link ch (Beat.C x) e kept says is) free
passes-drop config link ch v e width kept says is free = absurd cc

pub drop-parts : {w : ℕ} (terms : Terms) (config : Config) (link : Link) (ch : Channel) (x : Beat w) (e : End w)
    → is_drop terms config link ch x e ≡ true
    → (says_none x ≡ true) × (is_by_record (judged config link ch x e) ≡ true)
drop-parts terms config link ch x e is =
    and_parts (says_none x) (is_by_record (judged config link ch x e))
    (and_parts terms.drops (says_none x && is_by_record (judged config link ch x e)) is).1

pub is_dropped : {w : ℕ} (terms : Terms) (config : Config) (link : Link) (ch : Channel) (x : Beat w) (e : End w)
    → IsKept config e → is_drop terms config link ch x e ≡ true → IsDropped config link (block_of x) e
is_dropped terms config link ch x e kept is =
    let parts = drop-parts terms config link ch x e is in
    dropped config link ch x e kept parts.0 parts.1
