-- What the links carried, and the manager's histories, after a beat of a cleaning.
use Rattle.std.proofs.Common.{◌≡◌, ℕ, ◌+◌, ◌==◌, Bool, true, false, ◌&&◌, ◌||◌, List, [], ◌∷◌, ◌++◌, length, map}
use Rattle.std.proofs.Common.{Option, Some, None, refl, ap, sym, ◌∙◌, not}
use Rattle.std.proofs.lemmas.Bool.{and_parts, eqb-true, not-false, or_parts}
use Rattle.std.proofs.lemmas.List.{append-nil, length-map}
use Rattle.std.specs.Prelude.{if◌then◌else◌, option_map, unwrap_or}
use Rattle.tl_beat.specs.declared.beat.Beat.{Beat}
use Rattle.tl_beat.specs.declared.beat.BeatC.{BeatC}
use Rattle.tl_beat.specs.declared.beat.Link.{Link}
use Rattle.tl_beat.specs.declared.channel.Channel.{Channel}
use Rattle.tl_beat.specs.declared.opcode.OpC.{OpC}
use Rattle.tl_burst.proofs.ControlFields.{control_c}
use Rattle.tl_burst.specs.statement.Burst.{beat_of}
use Rattle.tl_burst.specs.statement.Messages.{History, breaks_burst, burst_length, grown, same_control}
unfoldable use Rattle.tl_burst.specs.statement.Messages.{unfinished}
use Rattle.tl_burst.specs.statement.Part.{completes}
use Rattle.tl_params.specs.declared.config.Config.{Config}
use Rattle.tl_params.specs.declared.key.Key.TheVariants.{AcquireOf}
use Rattle.tl_params.specs.declared.level.Level.{Level}
use Rattle.tl_params.specs.declared.liberties.Liberties.{Liberties}
use Rattle.tl_params.specs.declared.param.Report.{Report}
use Rattle.tl_params.specs.declared.perm.Perm.{Perm}
use Rattle.tl_params.specs.declared.rule.Rule.TheVariants.{H13, S1}
use Rattle.tl_params.specs.statement.Param.{report_named, report_right}
use Rattle.tl_rules.proofs.Bursts.{next_rule}
use Rattle.tl_rules.proofs.Open.{never}
use Rattle.tl_rules.specs.statement.Admission.{sent}
use Rattle.tl_rules.specs.statement.Conformance.{Trace, on_link, same_perm}
use Rattle.tl_rules.specs.statement.History.{block_at, ends, is_probe_ack, is_release, pending, reported}
unfoldable use Rattle.tl_rules.specs.statement.History.{held, request_of}
use Rattle.tl_rules.specs.statement.Liberties.{releases_from, reports_from, reports_none}
unfoldable use Rattle.tl_rules.specs.statement.Liberties.{held_under}
use Rattle.tl_rules.specs.statement.Liberties.{illegal_under}
use Rattle.tl_manager.proofs.pending.SteadyReports.{release_kind}
use Rattle.tl_manager.specs.statement.End.{End}
use Rattle.tl_manager.specs.statement.Handing.{release_ack}
use Rattle.tl_manager.specs.statement.Holders.{has_copy, recorded}
use Rattle.tl_manager.specs.statement.Offer.{Passes}
use Rattle.tl_partner.specs.declared.terms.Terms.{Terms}
use Rattle.tl_partner.specs.laws.Carried.{AreAlike, IsUnderway, IsUnderwayIfAny}
use Rattle.tl_partner.specs.statement.Cleaning.{cleaning_order, is_cleaning, is_of_cleaning, judged_cleaning, keeps_held}
use Rattle.tl_partner.specs.statement.Dropping.{is_reporting}
use Rattle.tl_partner.specs.statement.Granting.{granted}
use Rattle.tl_partner.specs.statement.Naming.{from_zero, plain}
use Rattle.tl_partner.proofs.Alike.{grown-map, keeps}
use Rattle.tl_partner.proofs.Carried.{AreAlikeBut}
use Rattle.tl_partner.proofs.Offering.{past}
use Rattle.tl_partner.proofs.Said.{idle}

-- ---- a beat that passes

-- the link has a level, and the beat breaks no rule of order
pub live-clean : {w : ℕ} (l : Liberties) (config : Config) (o : Option Level) (link : Link) (ch : Channel) (x : Beat w)
    (burst : List (Beat w)) (t : Trace w) → judged_cleaning l config o link ch x burst t ≡ Passes
    → (level : Level) × (o ≡ Some level) × (cleaning_order l link x burst t ≡ None)
live-clean l config None link ch x burst t e = absurd cc
live-clean l config (Some level) link ch x burst t e =
    (level, refl, (past (cleaning_order l link x burst t) _ (past (illegal_under l level ch x) _ e).1).0)

underway-first : {w : ℕ} (terms : Terms) (link : Link) (x : BeatC w) (e : End w)
    → is_cleaning (granted terms) (Beat.C x) ≡ true
    → cleaning_order (granted terms) link (Beat.C x) [] e.trace ≡ None
    → IsUnderway terms x (on_link link.0 e.trace)
underway-first {w} terms link x e cleans order =
    let k = block_at x.address in
    let one = next_rule (is_reporting link e.trace) S1 _ order in
    let two = next_rule (pending (AcquireOf k) (on_link link.0 e.trace) || not
    (releases_from (granted terms) x.param (recorded link.0 k e.trace))) H13 None one.1 in
    let parts = or_parts (pending (AcquireOf k) (on_link link.0 e.trace))
    (not (releases_from (granted terms) x.param (recorded link.0 k e.trace))) two.0 in
    record {
      cleans = cleans;
      alone = idle link e one.0;
      free = parts.0;
      starts = not-false (releases_from (granted terms) x.param (recorded link.0 k e.trace)) parts.1;
    }

underway-next : {w : ℕ} (terms : Terms) (x z : BeatC w) (e : History w)
    → same_control (Beat.C x) (Beat.C z) ≡ true → IsUnderway terms z e → IsUnderway terms x e
underway-next {w} terms x z e same is =
    let fields = control_c x z (rw same refl) in
    record {
      cleans = rw (fields.0, fields.1) is.cleans;
      alone = is.alone;
      free = rw fields.4 is.free;
      starts = rw (fields.1, fields.4) is.starts;
    }

-- the cleaning is underway with this beat as its newest
pub underway-now : {w : ℕ} (terms : Terms) (link : Link) (x : BeatC w) (burst : List (Beat w)) (e : End w)
    → is_of_cleaning (granted terms) (Beat.C x) burst ≡ true
    → cleaning_order (granted terms) link (Beat.C x) burst e.trace ≡ None
    → IsUnderwayIfAny terms burst (on_link link.0 e.trace) → IsUnderway terms x (on_link link.0 e.trace)
underway-now terms link x [] e of order is = underway-first terms link x e of order
underway-now terms link x (Beat.C z ∷ burst) e of order is =
    underway-next terms x z (on_link link.0 e.trace)
    (not-false (same_control (Beat.C x) (Beat.C z))
    (next_rule (breaks_burst (Beat.C x) (Beat.C z ∷ burst)) S1 None order).0) is
underway-now terms link x v e of order is = absurd is

-- ---- what such a beat is

pub released : {w : ℕ} (terms : Terms) (x : BeatC w) → is_cleaning (granted terms) (Beat.C x) ≡ true
    → (terms.reports ≡ true) × (is_release x.opcode ≡ true) × (keeps_held (report_named x.param) ≡ true)
released terms x e =
    let one = and_parts terms.reports (is_release x.opcode && keeps_held (report_named x.param)) e in
    let two = and_parts (is_release x.opcode) (keeps_held (report_named x.param)) one.1 in
    (one.0, two.0, two.1)

pub plain_release : {w : ℕ} (terms : Terms) (x : BeatC w) → is_release x.opcode ≡ true
    → plain terms (Beat.C x) ≡ Beat.C x
plain_release terms x release = rw (release_kind x.opcode release, never terms.ids) refl

counted : {w : ℕ} (terms : Terms) (burst u : List (Beat w)) → map (plain terms) u ≡ burst → length u ≡ length burst
counted terms burst u e = sym (length-map u (plain terms)) ∙ ap length e

-- ---- the burst that a link carried of a cleaning

-- a beat that is in the manager's history as this Release is this Release
same_release : {w : ℕ} (terms : Terms) (z : Beat w) (x : BeatC w) → is_release x.opcode ≡ true
    → plain terms z ≡ Beat.C x → z ≡ Beat.C x
same_release terms (Beat.A z) x release e = absurd cc
same_release terms (Beat.B z) x release e = absurd cc
same_release {w} terms (Beat.C z) x release e = go (terms.ids && is_probe_ack z.opcode) refl e
  where
    opcode_of : Beat w → OpC
    opcode_of (Beat.C y) = y.opcode
    opcode_of v = OpC.Release

    go : (b : Bool) → (terms.ids && is_probe_ack z.opcode) ≡ b
        → (if b then Beat.C (from_zero z) else Beat.C z) ≡ Beat.C x → Beat.C z ≡ Beat.C x
    go true is f =
        let opcode : z.opcode ≡ x.opcode = ap opcode_of f in
        let acks = (and_parts terms.ids (is_probe_ack z.opcode) is).1 in
        absurd (let no-such = rw (release_kind x.opcode release) at (rw opcode at acks) in cc)
    go false is f = f
same_release terms (Beat.D z) x release e = absurd cc
same_release terms (Beat.E z) x release e = absurd cc

-- the newest beat that the link carried of it
pub carried-cleaning : {w : ℕ} (terms : Terms) (z : BeatC w) (burst : List (Beat w)) (t e : History w)
    → AreAlike terms (Beat.C z ∷ burst) t e → IsUnderway terms z e
    → (u : List (Beat w)) × (unfinished Channel.C t ≡ Beat.C z ∷ u)
carried-cleaning {w} terms z burst t e a is = go (unfinished Channel.C t) refl
  where
    head_of : Beat w → List (Beat w) → Beat w
    head_of default [] = default
    head_of default (y ∷ ys) = y

    go : (u : List (Beat w)) → unfinished Channel.C t ≡ u
        → (v : List (Beat w)) × (unfinished Channel.C t ≡ Beat.C z ∷ v)
    go [] same = absurd (let none : [] ≡ Beat.C z ∷ (burst ++ unfinished Channel.C e) =
        sym (ap (map (plain terms)) same) ∙ a.reports in cc)
    go (y ∷ u) same =
        let all : plain terms y ∷ map (plain terms) u ≡ Beat.C z ∷ (burst ++ unfinished Channel.C e) =
        sym (ap (map (plain terms)) same) ∙ a.reports in
        let newest : y ≡ Beat.C z = same_release terms y z (released terms z is.cleans).1
        (ap (head_of (Beat.C z)) all) in
        (u, same ∙ ap (λ (b : Beat w). b ∷ u) newest)

-- ---- one link after a beat with which a cleaning isn't complete

pub part-alike : {w : ℕ} (terms : Terms) (x : BeatC w) (burst : List (Beat w)) (t e : History w)
    → IsUnderway terms x e → completes (Beat.C x) burst ≡ false → AreAlike terms burst t e
    → AreAlike terms (Beat.C x ∷ burst) (Beat.C x ∷ t) e
unfolding unfinished request_of held held_under
part-alike {w} terms x burst t e is part a =
    let release = (released terms x is.cleans).1 in
    let whole = a.reports ∙ ap (λ (c : List (Beat w)). burst ++ c) is.alone ∙ append-nil burst in
    let more : ends (Beat.C x) t ≡ false =
    ap (λ n. n + 1 == burst_length (Beat.C x)) (counted terms burst (unfinished Channel.C t) whole) ∙ part in
    record {
      requests = a.requests;
      named = λ s. a.named s;
      reports = grown-map terms (Beat.C x) (Beat.C x) (unfinished Channel.C t) (plain_release terms x release) refl
          ∙ ap (grown (Beat.C x)) whole ∙ rw part refl
          ∙ sym (ap (λ (c : List (Beat w)). Beat.C x ∷ (burst ++ c)) is.alone ∙ ap (λ (c : List (Beat w)). Beat.C x ∷ c)
          (append-nil burst));
      answers = a.answers;
      held = λ k. rw more (a.held k);
    }

-- ---- and with which it is

pub whole-alike : {w : ℕ} (terms : Terms) (x : BeatC w) (burst : List (Beat w)) (t e : History w)
    → is_release x.opcode ≡ true → completes (Beat.C x) burst ≡ true → unfinished Channel.C e ≡ []
    → unfinished Channel.D e ≡ [] → AreAlikeBut terms burst (block_at x.address) (reported x.param) t e
    → AreAlike terms [] (sent (release_ack x.source) (Beat.C x ∷ t)) e
unfolding unfinished request_of held held_under
whole-alike {w} terms x burst t e release last alone none a =
    let whole = a.reports ∙ ap (λ (c : List (Beat w)). burst ++ c) alone ∙ append-nil burst in
    let ended : ends (Beat.C x) t ≡ true =
    ap (λ n. n + 1 == burst_length (Beat.C x)) (counted terms burst (unfinished Channel.C t) whole) ∙ last in
    record {
      requests = a.requests;
      named = λ s. a.named s;
      reports = grown-map terms (Beat.C x) (Beat.C x) (unfinished Channel.C t) (plain_release terms x release) refl
          ∙ ap (grown (Beat.C x)) whole ∙ rw last refl ∙ sym alone;
      answers = rw (a.answers, none) refl;
      held = λ k. keeps (ends (beat_of {w = w} (release_ack x.source) 0) (Beat.C x ∷ t)) _
          ∙ rw (ended, release_kind x.opcode release, release) (go k (block_at x.address == k) refl);
    }
  where
    go : (k : ℕ) (b : Bool) → (block_at x.address == k) ≡ b
        → unwrap_or (if b then Some (reported x.param) else None) (held_under (granted terms) k t) ≡ held k e
    go k true at = sym (ap (λ n. held n e) (sym (eqb-true (block_at x.address) k at)) ∙ a.now)
    go k false at = a.rest k at

-- ---- what it leaves

same_right : (p q : Perm) → same_perm p q ≡ true → p ≡ q
same_right Perm.None Perm.None e = refl
same_right Perm.Branch Perm.Branch e = refl
same_right Perm.Trunk Perm.Trunk e = refl
same_right p q e = absurd cc

kept_by : (o : Option Report) (p : Perm) → keeps_held o ≡ true → reports_from o p ≡ true
    → p ≡ unwrap_or (option_map report_right o) Perm.None
kept_by None p keeps from = absurd cc
kept_by (Some Report.TtoT) p keeps from = sym (same_right Perm.Trunk p from)
kept_by (Some Report.BtoB) p keeps from = sym (same_right Perm.Branch p from)
kept_by (Some Report.NtoN) p keeps from = sym (same_right Perm.None p from)
kept_by (Some v) p keeps from = absurd cc

from_report : (reports drops none : Bool) (o : Option Report) (p : Perm) (prunes : Bool) → reports ≡ true
    → none ≡ false → (if reports then (drops && none) || reports_from o p else prunes) ≡ true
    → reports_from o p ≡ true
from_report true true false o p prunes is some e = e
from_report true false false o p prunes is some e = e
from_report reports drops none o p prunes is some e = absurd cc

-- a report that isn't NtoN leaves what is recorded
pub leaves-same : {w : ℕ} (terms : Terms) (x : BeatC w) (e : History w) → IsUnderway terms x e
    → reports_none x.param ≡ false → held (block_at x.address) e ≡ reported x.param
leaves-same terms x e is some =
    let cleans = released terms x is.cleans in
    kept_by (report_named x.param) (held (block_at x.address) e) cleans.2
    (from_report terms.reports terms.drops (reports_none x.param) (report_named x.param) (held (block_at x.address) e) _
    cleans.0 some is.starts)

pub leaves-none : (param : ℕ) → reports_none param ≡ true → reported param ≡ Perm.None
leaves-none param none = rw (eqb-true param 5 none) refl

pub no_copy : (p : Perm) → has_copy p ≡ false → p ≡ Perm.None
no_copy Perm.None e = refl
no_copy p e = absurd cc

-- what was alike still is but for the block, where the manager's history stays
pub but-same : {w : ℕ} (terms : Terms) (burst : List (Beat w)) (k : ℕ) (p : Perm) (t e : History w)
    → AreAlike terms burst t e → held k e ≡ p → AreAlikeBut terms burst k p t e
but-same terms burst k p t e a now = record {
  requests = a.requests;
  named = a.named;
  reports = a.reports;
  answers = a.answers;
  rest = λ j other. a.held j;
  now = now;
}

-- the beat goes on with what the link carried of its cleaning
pub goes-on : {w : ℕ} (terms : Terms) (link : Link) (x : BeatC w) (burst : List (Beat w)) (t : History w) (e : End w)
    → cleaning_order (granted terms) link (Beat.C x) burst e.trace ≡ None
    → AreAlike terms burst t (on_link link.0 e.trace) → IsUnderway terms x (on_link link.0 e.trace)
    → IsUnderwayIfAny terms burst (on_link link.0 e.trace)
    → breaks_burst (Beat.C x) (unfinished Channel.C t) ≡ false
goes-on {w} terms link x [] t e order a is all = none (unfinished Channel.C t) (a.reports ∙ is.alone)
  where
    none : (u : List (Beat w)) → map (plain terms) u ≡ [] → breaks_burst (Beat.C x) u ≡ false
    none [] same = refl
    none (y ∷ u) same = absurd cc
goes-on terms link x (Beat.C z ∷ burst) t e order a is all =
    rw (carried-cleaning terms z burst t (on_link link.0 e.trace) a all).1
    (next_rule (breaks_burst (Beat.C x) (Beat.C z ∷ burst)) S1 None order).0
goes-on terms link x v t e order a is all = absurd all

-- whether it ends the message, by what the link carried
pub ends-clean : {w : ℕ} (terms : Terms) (x : BeatC w) (burst : List (Beat w)) (t e : History w) (b : Bool)
    → completes (Beat.C x) burst ≡ b → AreAlike terms burst t e → unfinished Channel.C e ≡ [] → ends (Beat.C x) t ≡ b
ends-clean terms x burst t e b last a alone =
    let whole = a.reports ∙ ap (λ (c : List (Beat _)). burst ++ c) alone ∙ append-nil burst in
    ap (λ n. n + 1 == burst_length (Beat.C x)) (counted terms burst (unfinished Channel.C t) whole) ∙ last
