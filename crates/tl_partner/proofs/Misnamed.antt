-- The rule that a ProbeAck breaks with another source than its Probe.
use Rattle.std.proofs.Common.{◌≡◌, ℕ, Bool, true, false, ◌&&◌, ◌||◌, ◌==◌, List, [], ◌∷◌, map, Option, Some, None, refl, ap}
use Rattle.std.proofs.Common.{sym, ◌∙◌, not, subst}
use Rattle.std.proofs.lemmas.Bool.{and_parts}
use Rattle.std.specs.Option.{option_or}
use Rattle.std.specs.Prelude.{if◌then◌else◌, is_some, unwrap_or}
use Rattle.tl_beat.specs.declared.beat.Beat.{Beat}
use Rattle.tl_beat.specs.declared.beat.BeatB.{BeatB}
use Rattle.tl_beat.specs.declared.beat.BeatC.{BeatC}
use Rattle.tl_beat.specs.declared.beat.Link.{Link}
use Rattle.tl_beat.specs.declared.channel.Channel.{Channel}
use Rattle.tl_beat.specs.statement.First.{first_if}
use Rattle.tl_beat.specs.statement.Width.{IsWidth}
use Rattle.tl_burst.proofs.ControlFields.{control_c}
use Rattle.tl_burst.specs.statement.Messages.{History, same_control, unfinished}
use Rattle.tl_burst.specs.statement.Part.{is_empty}
use Rattle.tl_params.specs.declared.config.Config.{Config}
use Rattle.tl_params.specs.declared.key.Key.TheVariants.{ProbeOf, ReleaseOf}
use Rattle.tl_params.specs.declared.level.Level.{Level}
use Rattle.tl_params.specs.declared.rule.Rule.{Rule}
use Rattle.tl_params.specs.declared.rule.Rule.TheVariants.{A1, A2, H10, H11, H12, S1}
use Rattle.tl_rules.specs.statement.Admission.{is_outside, is_spoiled}
use Rattle.tl_rules.specs.statement.Conformance.{Trace, answers_wrong_probe, on_link}
use Rattle.tl_rules.specs.statement.History.{block_at, is_probe_ack, pending, probe_of}
unfoldable use Rattle.tl_rules.specs.statement.Legality.{illegal}
use Rattle.tl_rules.specs.statement.Liberties.{broken_in_order_under, has_other_source, held_under, misreports_under}
unfoldable use Rattle.tl_rules.specs.statement.Liberties.{broken_order_under}
use Rattle.tl_manager.proofs.pending.Probing.{probe_ack_kind}
use Rattle.tl_manager.specs.code.Kept.{IsKept, IsTyped}
use Rattle.tl_manager.specs.statement.Offer.{open_level}
use Rattle.tl_partner.specs.declared.terms.Terms.{Terms}
use Rattle.tl_partner.specs.laws.Carried.{AreAlike, ArePendingAlike, AreSameProbe, IsCarried}
use Rattle.tl_partner.specs.laws.Judged.{NamesRule, early_rule, first_rule}
use Rattle.tl_partner.specs.statement.Cleaning.{PartnerEnd, cleaning_on, is_cleaning}
use Rattle.tl_partner.specs.statement.Dropping.{is_reporting}
use Rattle.tl_partner.specs.statement.Granting.{granted}
use Rattle.tl_partner.specs.statement.Lenient.{misnamed_rule, offered_lenient}
use Rattle.tl_partner.specs.statement.Naming.{is_misnamed, plain, probe_source}
use Rattle.tl_partner.proofs.Apart.{IsBeside}
use Rattle.tl_partner.proofs.Lawful.{lawful-c}
use Rattle.tl_partner.proofs.Leniently.{offered-misnamed, offered-named}
use Rattle.tl_partner.proofs.Refusals.{plain-names}

-- ---- a ProbeAck with another source

misnamed-apart : {w : ℕ} (terms : Terms) (link : Link) (x : BeatC w) (z : Beat w)
    → is_misnamed terms link (Beat.C x) ≡ true → is_misnamed terms link z ≡ false
    → same_control (Beat.C x) z ≡ false
misnamed-apart terms link x (Beat.A z) wrong right = refl
misnamed-apart terms link x (Beat.B z) wrong right = refl
misnamed-apart {w} terms link x (Beat.C z) wrong right = go (same_control (Beat.C x) (Beat.C z)) refl
  where
    go : (b : Bool) → same_control (Beat.C x) (Beat.C z) ≡ b → b ≡ false
    go true is =
        let fields = control_c x z (rw is refl) in
        absurd (let wrong_too : is_misnamed terms link (Beat.C z) ≡ true = rw (← fields.0, ← fields.3) wrong in cc)
    go false is = refl
misnamed-apart terms link x (Beat.D z) wrong right = refl
misnamed-apart terms link x (Beat.E z) wrong right = refl

-- H10, where it begins a message
misnamed-begins : {w : ℕ} (terms : Terms) (link : Link) (x : BeatC w) (t e : History w)
    → is_misnamed terms link (Beat.C x) ≡ true → unfinished Channel.C t ≡ []
    → ArePendingAlike terms link.0 t e
    → ((k : ℕ) → pending (ProbeOf k) e ≡ true → is_some (probe_of k e) ≡ true)
    → broken_in_order_under (granted terms) (Beat.C x) t ≡ Some H10
unfolding broken_order_under
misnamed-begins {w} terms link x t e wrong none pend asked =
    let parts = and_parts terms.ids _ wrong in
    let kind = and_parts (is_probe_ack x.opcode) _ parts.1 in
    rw (none, probe_ack_kind x.opcode kind.0, kind.0) (go (pending (ProbeOf k) t) refl kind.1 parts.0)
  where
    k : ℕ
    k = block_at x.address

    has_other : (p q : Option (BeatB w)) → not (x.source == probe_source terms link.0) ≡ true → terms.ids ≡ true
        → AreSameProbe terms link.0 p q → is_some q ≡ true → has_other_source x p ≡ true
    has_other None None source ids same some = absurd cc
    has_other None (Some q) source ids same some = absurd same
    has_other (Some p) None source ids same some = absurd cc
    has_other (Some p) (Some q) source ids same some = rw (same.2 ids) source

    go : (b : Bool) → pending (ProbeOf k) t ≡ b → not (x.source == probe_source terms link.0) ≡ true → terms.ids ≡ true
        → first_if (not (pending (ProbeOf k) t) || ((terms.ids && has_other_source x (probe_of k t))
        || answers_wrong_probe x (probe_of k t))) H10
        (first_if (pending (ReleaseOf k) t) H11 (first_if (misreports_under (granted terms) x (probe_of k t)
        (held_under (granted terms) k t)) H12 None)) ≡ Some H10
    go true is source ids =
        let other : (terms.ids && has_other_source x (probe_of k t)) ≡ true =
        rw ids (has_other (probe_of k t) (probe_of k e) source ids (pend.probe k) (asked k (sym (pend.probes k) ∙ is)))
        in
        rw (is, other) refl
    go false is source ids = rw is refl

misnamed-order : {w : ℕ} (terms : Terms) (link : Link) (x : BeatC w) (t e : History w)
    → is_misnamed terms link (Beat.C x) ≡ true → AreAlike terms [] t e → ArePendingAlike terms link.0 t e
    → ((k : ℕ) → pending (ProbeOf k) e ≡ true → is_some (probe_of k e) ≡ true)
    → broken_in_order_under (granted terms) (Beat.C x) t
    ≡ Some (if not (is_empty (unfinished Channel.C e)) then S1 else H10)
misnamed-order {w} terms link x t e wrong a pend asked = go (unfinished Channel.C t) refl
  where
    go : (u : List (Beat w)) → unfinished Channel.C t ≡ u
        → broken_in_order_under (granted terms) (Beat.C x) t
        ≡ Some (if not (is_empty (unfinished Channel.C e)) then S1 else H10)
    go [] same =
        let none_e : unfinished Channel.C e ≡ [] = sym a.reports ∙ ap (map (plain terms)) same in
        rw none_e (misnamed-begins terms link x t e wrong same pend asked)
    go (z ∷ u) same =
        let some_e : unfinished Channel.C e ≡ plain terms z ∷ map (plain terms) u =
        sym a.reports ∙ ap (map (plain terms)) same in
        rw (same, some_e, misnamed-apart terms link x z wrong (rw same at pend.named)) refl

misnamed-names : {w : ℕ} (terms : Terms) (config : Config) (link : Link) (ch : Channel) (x : Beat w) (t : Trace w)
    (e : PartnerEnd w) → IsKept config e.manager → IsBeside x (cleaning_on link e)
    → is_cleaning (granted terms) x ≡ false → is_misnamed terms link x ≡ true → IsCarried terms config t e
    → first_rule (granted terms) config (open_level config link e.manager) link ch x t
    ≡ Some (misnamed_rule (open_level config link e.manager) ch (plain terms x) (is_reporting link e.manager.trace))
misnamed-names terms config link ch (Beat.A x) t e kept apart other wrong c = absurd cc
misnamed-names terms config link ch (Beat.B x) t e kept apart other wrong c = absurd cc
misnamed-names {w} terms config link ch (Beat.C x) t e kept apart other wrong c = go (open_level config link e.manager)
  where
    h : History w
    h = on_link link.0 e.manager.trace

    asked : (k : ℕ) → pending (ProbeOf k) h ≡ true → is_some (probe_of k h) ≡ true
    asked k missing = ap is_some ((kept.steady.accounted.blocks k).probes link.0 missing).probe

    order : broken_in_order_under (granted terms) (Beat.C x) (on_link link.0 t)
        ≡ Some (if not (is_empty (unfinished Channel.C h)) then S1 else H10)
    order = misnamed-order terms link x (on_link link.0 t) h wrong
        (subst (λ (cleaning : List (Beat w)). AreAlike terms cleaning (on_link link.0 t) h) apart (c.alike link.0))
        (c.pendings link.0) asked

    either : (o : Option Rule) (r : Rule) (late : Option Rule)
        → option_or o (option_or (Some r) late) ≡ Some (unwrap_or o r)
    either None r late = refl
    either (Some s) r late = refl

    go : (o : Option Level) → first_rule (granted terms) config o link ch (Beat.C x) t
        ≡ Some (misnamed_rule o ch (plain terms (Beat.C x)) (is_reporting link e.manager.trace))
    go None = refl
    go (Some level) = rw (lawful-c terms level ch x other, order)
        (either (illegal level ch (plain terms (Beat.C x))) (if is_reporting link e.manager.trace then S1 else H10)
        (first_if (is_outside config.blocks (Beat.C x)) A1 (first_if (is_spoiled (Beat.C x)) A2 None)))
misnamed-names terms config link ch (Beat.D x) t e kept apart other wrong c = absurd cc
misnamed-names terms config link ch (Beat.E x) t e kept apart other wrong c = absurd cc

pub lenient-names : {w : ℕ} (terms : Terms) (config : Config) (link : Link) (ch : Channel) (x : Beat w) (t : Trace w)
    (e : PartnerEnd w) → IsWidth w → IsTyped x → IsKept config e.manager → IsBeside x (cleaning_on link e)
    → is_cleaning (granted terms) x ≡ false → IsCarried terms config t e
    → NamesRule (offered_lenient terms config link ch x e.manager).0
    (first_rule (granted terms) config (open_level config link e.manager) link ch x t)
    (early_rule (granted terms) (open_level config link e.manager) link ch x t)
lenient-names {w} terms config link ch x t e width typed kept apart other c = go (is_misnamed terms link x) refl
  where
    go : (b : Bool) → is_misnamed terms link x ≡ b → NamesRule (offered_lenient terms config link ch x e.manager).0
        (first_rule (granted terms) config (open_level config link e.manager) link ch x t)
        (early_rule (granted terms) (open_level config link e.manager) link ch x t)
    go true wrong = rw (offered-misnamed terms config link ch x e.manager wrong)
        (misnamed-names terms config link ch x t e kept apart other wrong c)
    go false right = rw (offered-named terms config link ch x e.manager right)
        (plain-names terms config link ch x t e width typed kept apart other right c)
