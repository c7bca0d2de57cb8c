-- Which rule of order a message of channel C breaks: by what the link carried, and by the manager's history of it.
use Rattle.std.proofs.Common.{◌≡◌, ℕ, Bool, true, false, ◌&&◌, ◌||◌, ◌==◌, List, [], ◌∷◌, map, Option, Some, None}
use Rattle.std.proofs.Common.{refl, ap, sym, ◌∙◌, not}
use Rattle.std.proofs.lemmas.Bool.{and_parts, eq-eqb, eqb-true, not-false}
use Rattle.std.specs.Prelude.{if◌then◌else◌}
use Rattle.tl_beat.specs.declared.beat.Beat.{Beat}
use Rattle.tl_beat.specs.declared.beat.BeatB.{BeatB}
use Rattle.tl_beat.specs.declared.beat.BeatC.{BeatC}
use Rattle.tl_beat.specs.declared.beat.Link.{Link}
use Rattle.tl_beat.specs.declared.channel.Channel.{Channel}
use Rattle.tl_beat.specs.declared.opcode.OpC.{OpC}
use Rattle.tl_beat.specs.statement.First.{first_if}
use Rattle.tl_beat.specs.statement.Opcode.{c_code}
use Rattle.tl_burst.specs.statement.Messages.{History, breaks_burst, same_control, unfinished}
use Rattle.tl_params.specs.declared.key.Key.TheVariants.{AcquireOf, ProbeOf, ReleaseOf, ReleaseSource}
use Rattle.tl_params.specs.declared.param.Prune.{Prune}
use Rattle.tl_params.specs.declared.param.Report.{Report}
use Rattle.tl_params.specs.declared.perm.Perm.{Perm}
use Rattle.tl_params.specs.declared.profile.Profile.{Profile}
use Rattle.tl_params.specs.declared.rule.Rule.{Rule}
use Rattle.tl_params.specs.declared.rule.Rule.TheVariants.{H1, H10, H11, H12, H13}
use Rattle.tl_params.specs.statement.Param.{prune_of, report_named}
use Rattle.tl_rules.proofs.Open.{never}
use Rattle.tl_rules.specs.statement.Conformance.{answers_wrong_probe, broken_in_order, comes_in_release}
use Rattle.tl_rules.specs.statement.Conformance.{misreports, prunes_from}
unfoldable use Rattle.tl_rules.specs.statement.Conformance.{broken_order}
use Rattle.tl_rules.specs.statement.History.{block_at, held, is_probe_ack, is_release, pending, probe_of}
use Rattle.tl_rules.specs.statement.Liberties.{broken_in_order_under, has_other_source, held_under}
use Rattle.tl_rules.specs.statement.Liberties.{misreports_under, releases_from, reports_from, reports_none}
unfoldable use Rattle.tl_rules.specs.statement.Liberties.{broken_order_under}
use Rattle.tl_manager.proofs.pending.SteadyReports.{release_kind}
use Rattle.tl_manager.specs.code.Releases.{IsAnswered, comes_of}
use Rattle.tl_partner.specs.declared.terms.Terms.{Terms}
use Rattle.tl_partner.specs.laws.Carried.{AreAlike, ArePendingAlike, AreSameProbe, is_newest_misnamed}
use Rattle.tl_partner.specs.statement.Cleaning.{is_cleaning, keeps_held}
use Rattle.tl_partner.specs.statement.Dropping.{says_none}
use Rattle.tl_partner.specs.statement.Granting.{granted}
use Rattle.tl_partner.specs.statement.Naming.{from_zero, is_misnamed, plain, probe_source}
use Rattle.tl_partner.proofs.Drops.{has_record}
use Rattle.tl_partner.proofs.Orders.{spare_c, spare_s, spared}

-- ---- the burst of channel C

codes_apart : (a b : OpC) → is_probe_ack a ≡ true → is_probe_ack b ≡ false → (c_code a == c_code b) ≡ false
codes_apart OpC.ProbeAck OpC.ProbeAck e f = absurd cc
codes_apart OpC.ProbeAck OpC.ProbeAckData e f = absurd cc
codes_apart OpC.ProbeAck v e f = refl
codes_apart OpC.ProbeAckData OpC.ProbeAck e f = absurd cc
codes_apart OpC.ProbeAckData OpC.ProbeAckData e f = absurd cc
codes_apart OpC.ProbeAckData v e f = refl
codes_apart u v e f = absurd cc

codes_apart_too : (a b : OpC) → is_probe_ack a ≡ false → is_probe_ack b ≡ true → (c_code a == c_code b) ≡ false
codes_apart_too OpC.ProbeAck b e f = absurd cc
codes_apart_too OpC.ProbeAckData b e f = absurd cc
codes_apart_too v OpC.ProbeAck e f = refl
codes_apart_too v OpC.ProbeAckData e f = refl
codes_apart_too v u e f = absurd cc

-- a ProbeAck that isn't misnamed has the source of the link's Probes
pub right_source : {w : ℕ} (terms : Terms) (link : Link) (x : BeatC w) → is_misnamed terms link (Beat.C x) ≡ false
    → (terms.ids && is_probe_ack x.opcode) ≡ true → x.source ≡ probe_source terms link.0
right_source terms link x right is =
    let parts = and_parts terms.ids (is_probe_ack x.opcode) is in
    eqb-true x.source (probe_source terms link.0)
    (not-false (x.source == probe_source terms link.0) (rw (parts.0, parts.1) at right))

pub same-c : {w : ℕ} (terms : Terms) (link : Link) (x z : BeatC w) → is_misnamed terms link (Beat.C x) ≡ false
    → is_misnamed terms link (Beat.C z) ≡ false
    → same_control (plain terms (Beat.C x)) (plain terms (Beat.C z)) ≡ same_control (Beat.C x) (Beat.C z)
same-c {w} terms link x z right right_z =
    go (terms.ids && is_probe_ack x.opcode) (terms.ids && is_probe_ack z.opcode) refl refl
  where
    go : (b c : Bool) → (terms.ids && is_probe_ack x.opcode) ≡ b → (terms.ids && is_probe_ack z.opcode) ≡ c
        → same_control (if b then Beat.C (from_zero x) else Beat.C x) (if c then Beat.C (from_zero z) else Beat.C z)
        ≡ same_control (Beat.C x) (Beat.C z)
    go true true e f =
        let source : (x.source == z.source) ≡ true = eq-eqb x.source z.source
        (right_source terms link x right e ∙ sym (right_source terms link z right_z f)) in
        rw source refl
    go true false e f =
        let parts = and_parts terms.ids (is_probe_ack x.opcode) e in
        rw (codes_apart x.opcode z.opcode parts.1 (rw parts.0 at f)) refl
    go false true e f =
        let parts = and_parts terms.ids (is_probe_ack z.opcode) f in
        rw (codes_apart_too x.opcode z.opcode (rw parts.0 at e) parts.1) refl
    go false false e f = refl

same_others : {w : ℕ} (terms : Terms) (x : BeatC w) (z : Beat w)
    → same_control (Beat.C x) z ≡ false → same_control (Beat.C (from_zero x)) z ≡ false
    → same_control (plain terms (Beat.C x)) z ≡ same_control (Beat.C x) z
same_others {w} terms x z other other_zero = go (terms.ids && is_probe_ack x.opcode)
  where
    go : (b : Bool) → same_control (if b then Beat.C (from_zero x) else Beat.C x) z ≡ same_control (Beat.C x) z
    go true = other_zero ∙ sym other
    go false = refl

pub breaks-same : {w : ℕ} (terms : Terms) (link : Link) (x : BeatC w) (burst : List (Beat w))
    → is_misnamed terms link (Beat.C x) ≡ false → is_newest_misnamed terms link.0 burst ≡ false
    → breaks_burst (plain terms (Beat.C x)) (map (plain terms) burst) ≡ breaks_burst (Beat.C x) burst
breaks-same terms link x [] right named = refl
breaks-same terms link x (Beat.A z ∷ burst) right named = ap not (same_others terms x (Beat.A z) refl refl)
breaks-same terms link x (Beat.B z ∷ burst) right named = ap not (same_others terms x (Beat.B z) refl refl)
breaks-same terms link x (Beat.C z ∷ burst) right named = ap not (same-c terms link x z right named)
breaks-same terms link x (Beat.D z ∷ burst) right named = ap not (same_others terms x (Beat.D z) refl refl)
breaks-same terms link x (Beat.E z ∷ burst) right named = ap not (same_others terms x (Beat.E z) refl refl)

-- ---- a Release that gives something up

-- a report that keeps nothing is a prune, or none
prune_or : (a b c d e f : Bool) (p : Perm)
    → keeps_held (if a then Some Report.TtoB else if b then Some Report.TtoN else if c then Some Report.BtoN else
    if d then Some Report.TtoT else if e then Some Report.BtoB else if f then Some Report.NtoN else None) ≡ false
    → reports_from (if a then Some Report.TtoB else if b then Some Report.TtoN else if c then Some Report.BtoN else
    if d then Some Report.TtoT else if e then Some Report.BtoB else if f then Some Report.NtoN else None) p
    ≡ prunes_from (if a then Some Prune.TtoB else if b then Some Prune.TtoN else if c then Some Prune.BtoN else None) p
prune_or true b c d e f p keeps = refl
prune_or false true c d e f p keeps = refl
prune_or false false true d e f p keeps = refl
prune_or false false false true e f p keeps = absurd cc
prune_or false false false false true f p keeps = absurd cc
prune_or false false false false false true p keeps = absurd cc
prune_or false false false false false false p keeps = refl

pub not_none : (param : ℕ) → keeps_held (report_named param) ≡ false → reports_none param ≡ false
not_none param keeps = go (reports_none param) refl
  where
    go : (b : Bool) → reports_none param ≡ b → b ≡ false
    go true is = absurd (let five : param ≡ 5 = eqb-true param 5 is in let no-such = rw five at keeps in cc)
    go false is = refl

nothing_said : (drops none rest : Bool) → none ≡ false → ((drops && none) || rest) ≡ rest
nothing_said true true rest e = absurd cc
nothing_said true false rest e = refl
nothing_said false none rest e = refl

starts-same : (terms : Terms) (param : ℕ) (p : Perm) → (terms.reports && keeps_held (report_named param)) ≡ false
    → releases_from (granted terms) param p ≡ prunes_from (prune_of param) p
starts-same terms param p other = go terms.reports refl
  where
    go : (b : Bool) → terms.reports ≡ b
        → (if b then (terms.drops && reports_none param) || reports_from (report_named param) p else
        prunes_from (prune_of param) p) ≡ prunes_from (prune_of param) p
    go true is =
        let keeps = rw is at other in
        let prunes = prune_or (param == 0) (param == 1) (param == 2) (param == 3) (param == 4) (param == 5) p keeps in
        nothing_said terms.drops (reports_none param) _ (not_none param keeps) ∙ prunes
    go false is = refl

order_release : {w : ℕ} (terms : Terms) (x : BeatC w) (t e : History w) → is_release x.opcode ≡ true
    → is_cleaning (granted terms) (Beat.C x) ≡ false → unfinished Channel.C t ≡ [] → unfinished Channel.C e ≡ []
    → pending (AcquireOf (block_at x.address)) t ≡ pending (AcquireOf (block_at x.address)) e
    → held_under (granted terms) (block_at x.address) t ≡ held (block_at x.address) e → IsAnswered t → IsAnswered e
    → first_if (pending (ReleaseSource x.source) t) H1
    (first_if (pending (AcquireOf (block_at x.address)) t || (pending (ReleaseOf (block_at x.address)) t || not
    (releases_from (granted terms) x.param (held_under (granted terms) (block_at x.address) t)))) H13 None)
    ≡ first_if (pending (ReleaseSource x.source) e) H1
    (first_if (pending (AcquireOf (block_at x.address)) e || (pending (ReleaseOf (block_at x.address)) e || not
    (prunes_from (prune_of x.param) (held (block_at x.address) e)))) H13 None)
order_release {w} terms x t e release other none none_e acquires holds done done_e =
    rw (
      done.sources x.source ∙ ap (comes_in_release x.source) none,
      done_e.sources x.source ∙ ap (comes_in_release x.source) none_e,
      done.blocks (block_at x.address) ∙ ap (comes_of (block_at x.address)) none,
      done_e.blocks (block_at x.address) ∙ ap (comes_of (block_at x.address)) none_e,
      acquires,
      holds,
      starts-same terms x.param (held (block_at x.address) e) (rw release at other),
    ) refl

-- ---- a ProbeAck

other_source : {w : ℕ} (terms : Terms) (link : Link) (x : BeatC w) (p q : Option (BeatB w))
    → is_misnamed terms link (Beat.C x) ≡ false → is_probe_ack x.opcode ≡ true → AreSameProbe terms link.0 p q
    → (terms.ids && has_other_source x p) ≡ false
other_source {w} terms link x None q right ack same = never terms.ids
other_source {w} terms link x (Some p) None right ack same = absurd same
other_source {w} terms link x (Some p) (Some q) right ack same = go terms.ids refl
  where
    go : (b : Bool) → terms.ids ≡ b → (b && not (x.source == p.source)) ≡ false
    go true is = ap not (eq-eqb x.source p.source
        (right_source terms link x right (rw (is, ack) refl) ∙ sym (same.2 is)))
    go false is = refl

wrong_same : {w : ℕ} (terms : Terms) (client : ℕ) (x y : BeatC w) (p q : Option (BeatB w)) → y.opcode ≡ x.opcode
    → AreSameProbe terms client p q → answers_wrong_probe x p ≡ answers_wrong_probe y q
wrong_same terms client x y None None opcode same = refl
wrong_same terms client x y (Some p) (Some q) opcode same = rw (opcode, same.0) refl
wrong_same terms client x y None (Some q) opcode same = absurd same
wrong_same terms client x y (Some p) None opcode same = absurd same

misreports_same : {w : ℕ} (terms : Terms) (client : ℕ) (x y : BeatC w) (p q : Option (BeatB w)) (held : Perm)
    → y.param ≡ x.param → AreSameProbe terms client p q → misreports x p held ≡ misreports y q held
misreports_same terms client x y None None held param same = refl
misreports_same terms client x y (Some p) (Some q) held param same = rw (param, same.1) refl
misreports_same terms client x y None (Some q) held param same = absurd same
misreports_same terms client x y (Some p) None held param same = absurd same

order_probe_ack : {w : ℕ} (terms : Terms) (link : Link) (x y : BeatC w) (t e : History w)
    → is_probe_ack x.opcode ≡ true → is_misnamed terms link (Beat.C x) ≡ false
    → y.opcode ≡ x.opcode → y.param ≡ x.param → y.address ≡ x.address
    → unfinished Channel.C t ≡ [] → unfinished Channel.C e ≡ [] → ArePendingAlike terms link.0 t e
    → held_under (granted terms) (block_at x.address) t ≡ held (block_at x.address) e → IsAnswered t → IsAnswered e
    → first_if (not (pending (ProbeOf (block_at x.address)) t)
    || ((terms.ids && has_other_source x (probe_of (block_at x.address) t))
    || answers_wrong_probe x (probe_of (block_at x.address) t))) H10
    (first_if (pending (ReleaseOf (block_at x.address)) t) H11
    (first_if (misreports_under (granted terms) x (probe_of (block_at x.address) t)
    (held_under (granted terms) (block_at x.address) t)) H12 None))
    ≡ spared (terms.drops && reports_none x.param)
    (first_if (not (pending (ProbeOf (block_at y.address)) e)
    || answers_wrong_probe y (probe_of (block_at y.address) e)) H10
    (first_if (pending (ReleaseOf (block_at y.address)) e) H11
    (first_if (misreports y (probe_of (block_at y.address) e) (held (block_at y.address) e)) H12 None)))
order_probe_ack {w} terms link x y t e ack right opcode param address none none_e pend holds done done_e =
    let k = block_at x.address in
    rw (
      address,
      pend.probes k,
      other_source terms link x (probe_of k t) (probe_of k e) right ack (pend.probe k),
      wrong_same terms link.0 x y (probe_of k t) (probe_of k e) opcode (pend.probe k),
      done.blocks k ∙ ap (comes_of k) none,
      done_e.blocks k ∙ ap (comes_of k) none_e,
      holds,
      misreports_same terms link.0 x y (probe_of k t) (probe_of k e) (held k e) param (pend.probe k),
    ) (spare_c (not (pending (ProbeOf k) e) || answers_wrong_probe y (probe_of k e)) false (reports_none x.param)
    terms.drops (misreports y (probe_of k e) (held k e)))

-- ---- any message of channel C

order_c_as : {w : ℕ} (terms : Terms) (link : Link) (p : Profile) (x y : BeatC w) (t e : History w)
    → is_misnamed terms link (Beat.C x) ≡ false → is_cleaning (granted terms) (Beat.C x) ≡ false
    → y.opcode ≡ x.opcode → y.param ≡ x.param → y.address ≡ x.address → (is_release x.opcode ≡ true → y ≡ x)
    → unfinished Channel.C t ≡ [] → unfinished Channel.C e ≡ []
    → AreAlike terms [] t e → ArePendingAlike terms link.0 t e → IsAnswered t → IsAnswered e
    → broken_order_under (granted terms) (Beat.C x) t
    ≡ spared (terms.drops && says_none (Beat.C y)) (broken_order p (Beat.C y) e)
unfolding broken_order broken_order_under
order_c_as {w} terms link p x y t e right other opcode param address release_is none none_e a pend done done_e =
    go (is_release x.opcode) (is_probe_ack x.opcode) refl refl
  where
    k : ℕ
    k = block_at x.address

    kept : (o : Option Rule) → has_record o ≡ false → o ≡ spared (terms.drops && false) o
    kept o unsaid = rw unsaid refl

    no_record : (b c : Bool) → has_record (first_if b H1 (first_if c H13 None)) ≡ false
    no_record true c = refl
    no_record false true = refl
    no_record false false = refl

    go : (release ack : Bool) → is_release x.opcode ≡ release → is_probe_ack x.opcode ≡ ack
        → broken_order_under (granted terms) (Beat.C x) t
        ≡ spared (terms.drops && says_none (Beat.C y)) (broken_order p (Beat.C y) e)
    go true ack is f =
        rw (release_is is, release_kind x.opcode is, is)
        (order_release terms x t e is other none none_e (pend.acquires k) (a.held k) done done_e
        ∙ kept _ (no_record (pending (ReleaseSource x.source) e) _))
    go false true is f =
        rw (is, f, ap is_release opcode ∙ is, ap is_probe_ack opcode ∙ f, ap reports_none param)
        (order_probe_ack terms link x y t e f right opcode param address none none_e pend (a.held k) done done_e)
    go false false is f = rw (is, f, ap is_release opcode ∙ is, ap is_probe_ack opcode ∙ f) refl

order_c_at : {w : ℕ} (terms : Terms) (link : Link) (p : Profile) (x y : BeatC w) (t e : History w)
    → plain terms (Beat.C x) ≡ Beat.C y → is_misnamed terms link (Beat.C x) ≡ false
    → is_cleaning (granted terms) (Beat.C x) ≡ false
    → y.opcode ≡ x.opcode → y.param ≡ x.param → y.address ≡ x.address → (is_release x.opcode ≡ true → y ≡ x)
    → AreAlike terms [] t e → ArePendingAlike terms link.0 t e → IsAnswered t → IsAnswered e
    → broken_in_order_under (granted terms) (Beat.C x) t
    ≡ spared (terms.drops && says_none (Beat.C y)) (broken_in_order p (Beat.C y) e)
order_c_at {w} terms link p x y t e is right other opcode param address release_is a pend done done_e =
    go (unfinished Channel.C t) refl
  where
    go : (u : List (Beat w)) → unfinished Channel.C t ≡ u
        → broken_in_order_under (granted terms) (Beat.C x) t
        ≡ spared (terms.drops && says_none (Beat.C y)) (broken_in_order p (Beat.C y) e)
    go [] same =
        let none_e : unfinished Channel.C e ≡ [] = sym a.reports ∙ ap (map (plain terms)) same in
        rw (same, none_e)
        (order_c_as terms link p x y t e right other opcode param address release_is same none_e a pend done done_e)
    go (z ∷ u) same =
        let some_e : unfinished Channel.C e ≡ plain terms z ∷ map (plain terms) u =
        sym a.reports ∙ ap (map (plain terms)) same in
        let breaks : breaks_burst (Beat.C y) (plain terms z ∷ map (plain terms) u)
        ≡ breaks_burst (Beat.C x) (z ∷ u) =
        ap (λ (v : Beat w). breaks_burst v (map (plain terms) (z ∷ u))) (sym is)
        ∙ breaks-same terms link x (z ∷ u) right (rw same at pend.named) in
        rw (same, some_e, breaks)
        (spare_s (terms.drops && says_none (Beat.C y)) (breaks_burst (Beat.C x) (z ∷ u)))

pub order-c : {w : ℕ} (terms : Terms) (link : Link) (p : Profile) (x : BeatC w) (t e : History w)
    → is_misnamed terms link (Beat.C x) ≡ false → is_cleaning (granted terms) (Beat.C x) ≡ false
    → AreAlike terms [] t e → ArePendingAlike terms link.0 t e → IsAnswered t → IsAnswered e
    → broken_in_order_under (granted terms) (Beat.C x) t
    ≡ spared (terms.drops && says_none (plain terms (Beat.C x))) (broken_in_order p (plain terms (Beat.C x)) e)
order-c {w} terms link p x t e right other a pend done done_e = go (terms.ids && is_probe_ack x.opcode) refl
  where
    go : (b : Bool) → (terms.ids && is_probe_ack x.opcode) ≡ b
        → broken_in_order_under (granted terms) (Beat.C x) t
        ≡ spared (terms.drops && says_none (plain terms (Beat.C x))) (broken_in_order p (plain terms (Beat.C x)) e)
    go true is = rw is (order_c_at terms link p x (from_zero x) t e (rw is refl) right other refl refl refl
        (λ release. absurd (let no-such = rw (release_kind x.opcode release, never terms.ids) at is in cc)) a pend done
        done_e)
    go false is = rw is (order_c_at terms link p x x t e (rw is refl) right other refl refl refl (λ release. refl) a pend
        done done_e)
