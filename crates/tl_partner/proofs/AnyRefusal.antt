-- The rule that a refusal names is the first that the beat breaks, whatever the beat.
use Rattle.std.proofs.Common.{◌≡◌, ℕ, Bool, true, false, ◌&&◌, ◌||◌, ◌==◌, List, [], ◌∷◌, map, Option, Some, None, refl}
use Rattle.std.proofs.Common.{ap, sym, ◌∙◌}
use Rattle.std.proofs.lemmas.Bool.{and_parts, not-false}
use Rattle.std.specs.Option.{option_or}
use Rattle.std.specs.Prelude.{if◌then◌else◌, is_some}
use Rattle.tl_beat.specs.declared.beat.Beat.{Beat}
use Rattle.tl_beat.specs.declared.beat.BeatC.{BeatC}
use Rattle.tl_beat.specs.declared.beat.Link.{Link}
use Rattle.tl_beat.specs.declared.channel.Channel.{Channel}
use Rattle.tl_beat.specs.declared.opcode.OpC.{OpC}
use Rattle.tl_beat.specs.statement.First.{first_if}
use Rattle.tl_beat.specs.statement.Width.{IsWidth}
use Rattle.tl_burst.proofs.ControlFields.{control_c}
use Rattle.tl_burst.specs.statement.Messages.{History, breaks_burst, same_control, unfinished}
use Rattle.tl_burst.specs.statement.Part.{completes}
use Rattle.tl_params.specs.declared.config.Config.{Config}
use Rattle.tl_params.specs.declared.level.Level.{Level}
use Rattle.tl_params.specs.declared.param.Prune.{Prune}
use Rattle.tl_params.specs.declared.param.Report.{Report}
use Rattle.tl_params.specs.declared.rule.Rule.{Rule}
use Rattle.tl_params.specs.declared.rule.Rule.TheVariants.{A1, A2, S1}
use Rattle.tl_params.specs.statement.Param.{report_named}
use Rattle.tl_rules.specs.statement.Admission.{is_outside, is_spoiled}
use Rattle.tl_rules.specs.statement.Conformance.{Trace, comes_in_release, on_link}
use Rattle.tl_rules.specs.statement.History.{block_at, is_release}
use Rattle.tl_rules.specs.statement.Legality.{c_has_param, c_has_source}
use Rattle.tl_rules.specs.statement.Liberties.{broken_in_order_under}
unfoldable use Rattle.tl_rules.specs.statement.Liberties.{broken_order_under, illegal_under}
use Rattle.tl_manager.proofs.messages.Sound.{leveled, sound_on_link}
use Rattle.tl_manager.proofs.words_of_clients.Masks.{each_unfinished}
use Rattle.tl_manager.specs.code.Kept.{Each, IsKept, IsSound, IsTyped}
use Rattle.tl_manager.specs.code.Releases.{IsAnswered, comes_of}
use Rattle.tl_manager.specs.statement.End.{End}
use Rattle.tl_manager.specs.statement.Offer.{Breaks, Judgement, Passes, Waits, before_stall, breaks_or}
use Rattle.tl_manager.specs.statement.Offer.{level_of, open_level}
use Rattle.tl_partner.specs.declared.terms.Terms.{Terms}
use Rattle.tl_partner.specs.laws.Carried.{AreAlike, ArePendingAlike, IsCarried, IsUnderway, IsUnderwayIfAny}
use Rattle.tl_partner.specs.laws.Judged.{NamesRule, early_rule, first_rule}
use Rattle.tl_partner.specs.statement.Cleaning.{PartnerEnd, cleaning_as, cleaning_on, cleaning_order, is_cleaning, is_of_cleaning}
use Rattle.tl_partner.specs.statement.Cleaning.{judged_cleaning, keeps_held, offered_cleaning}
use Rattle.tl_partner.specs.statement.Granting.{granted}
use Rattle.tl_partner.specs.statement.Naming.{plain}
use Rattle.tl_partner.specs.statement.Partner.{asks_for_cleaned, cleans, offered_under}
use Rattle.tl_partner.proofs.Apart.{beside}
use Rattle.tl_partner.proofs.Cleaned.{carried-cleaning, plain_release, released}
use Rattle.tl_partner.proofs.Offering.{under-cleaning, under-held, under-lenient}
use Rattle.tl_partner.proofs.Passing.{legal-parts}
use Rattle.tl_partner.proofs.HeldBack.{held-any}
use Rattle.tl_partner.proofs.Misnamed.{lenient-names}
use Rattle.tl_partner.proofs.Refusals.{not_cleaning}

-- ---- a cleaning that goes on

-- S1 is broken by both or by neither
next-breaks : {w : ℕ} (terms : Terms) (x z : BeatC w) (burst : List (Beat w)) (t e : History w)
    → AreAlike terms (Beat.C z ∷ burst) t e → IsUnderway terms z e
    → broken_in_order_under (granted terms) (Beat.C x) t ≡ first_if (breaks_burst (Beat.C x) (Beat.C z ∷ burst)) S1 None
next-breaks terms x z burst t e a is = rw (carried-cleaning terms z burst t e a is).1 refl

-- ---- a cleaning that begins

-- a prune keeps nothing
pruned_or : (a b c d e f : Bool)
    → is_some (if a then Some Prune.TtoB else if b then Some Prune.TtoN else if c then Some Prune.BtoN else None) ≡ true
    → keeps_held (if a then Some Report.TtoB else if b then Some Report.TtoN else if c then Some Report.BtoN else
    if d then Some Report.TtoT else if e then Some Report.BtoB else if f then Some Report.NtoN else None) ≡ false
pruned_or true b c d e f has = refl
pruned_or false true c d e f has = refl
pruned_or false false true d e f has = refl
pruned_or false false false d e f has = absurd cc

one_or : (a b c : Bool) → (a || (b || false)) ≡ true
    → is_some (if a then Some Prune.TtoB else if b then Some Prune.TtoN else if c then Some Prune.BtoN else None) ≡ true
one_or true b c has = refl
one_or false true c has = refl
one_or false false c has = absurd cc

-- the manager's history has no beat of one
no_cleaning : {w : ℕ} (terms : Terms) (config : Config) (link : ℕ) (z : BeatC w)
    → IsSound config (record { 0 = link }, Beat.C z) → is_release z.opcode ≡ true
    → keeps_held (report_named z.param) ≡ false
no_cleaning {w} terms config link z sound release =
    let l = leveled (level_of config link) (Beat.C z) sound.lawful in
    let legal = legal-parts l.0 Channel.C (Beat.C z) l.2 in
    let fields = and_parts (c_has_param z.opcode z.param) (c_has_source z.opcode z.source)
    (not-false (c_has_param z.opcode z.param && c_has_source z.opcode z.source) legal.0) in
    pruned z.opcode z.param release fields.0
  where
    pruned : (opcode : OpC) (param : ℕ) → is_release opcode ≡ true → c_has_param opcode param ≡ true
        → keeps_held (report_named param) ≡ false
    pruned OpC.Release param r has =
        pruned_or (param == 0) (param == 1) (param == 2) (param == 3) (param == 4) (param == 5) has
    pruned OpC.ReleaseData param r has =
        pruned_or (param == 0) (param == 1) (param == 2) (param == 3) (param == 4) (param == 5)
        (one_or (param == 0) (param == 1) (param == 2) has)
    pruned v param r has = absurd cc

first-breaks : {w : ℕ} (terms : Terms) (config : Config) (link : Link) (x : BeatC w) (z : Beat w)
    → is_cleaning (granted terms) (Beat.C x) ≡ true → IsSound config (link, plain terms z)
    → same_control (Beat.C x) z ≡ false
first-breaks terms config link x (Beat.A z) cleans sound = refl
first-breaks terms config link x (Beat.B z) cleans sound = refl
first-breaks {w} terms config link x (Beat.C z) cleans sound = go (same_control (Beat.C x) (Beat.C z)) refl
  where
    go : (b : Bool) → same_control (Beat.C x) (Beat.C z) ≡ b → b ≡ false
    go true is =
        let fields = control_c x z (rw is refl) in
        let keeps = released terms x cleans in
        let release : is_release z.opcode ≡ true = rw fields.0 at keeps.1 in
        let prunes = no_cleaning terms config link.0 z (rw (plain_release terms z release) at sound) release in
        absurd (let no-such = rw (← fields.1, keeps.2) at prunes in cc)
    go false is = refl
first-breaks terms config link x (Beat.D z) cleans sound = refl
first-breaks terms config link x (Beat.E z) cleans sound = refl

first-order : {w : ℕ} (terms : Terms) (config : Config) (link : Link) (x : BeatC w) (t : Trace w) (e : End w)
    → IsKept config e → is_cleaning (granted terms) (Beat.C x) ≡ true
    → AreAlike terms [] (on_link link.0 t) (on_link link.0 e.trace)
    → ArePendingAlike terms link.0 (on_link link.0 t) (on_link link.0 e.trace) → IsAnswered (on_link link.0 t)
    → broken_in_order_under (granted terms) (Beat.C x) (on_link link.0 t)
    ≡ cleaning_order (granted terms) link (Beat.C x) [] e.trace
unfolding broken_order_under
first-order {w} terms config link x t e kept cleans a pend done = go (unfinished Channel.C (on_link link.0 t)) refl
  where
    k : ℕ
    k = block_at x.address

    h : History w
    h = on_link link.0 t

    head_sound : (burst : List (Beat w)) (z : Beat w) (rest : List (Beat w)) → burst ≡ z ∷ rest
        → Each (λ y. IsSound config (record { 0 = link.0 }, y)) burst → IsSound config (record { 0 = link.0 }, z)
    head_sound [] z rest same each = absurd cc
    head_sound (y ∷ burst) z rest same each =
        let newest : y ≡ z = cc in
        rw newest at each.0

    go : (u : List (Beat w)) → unfinished Channel.C h ≡ u
        → broken_in_order_under (granted terms) (Beat.C x) h
        ≡ cleaning_order (granted terms) link (Beat.C x) [] e.trace
    go [] same =
        let none : unfinished Channel.C (on_link link.0 e.trace) ≡ [] = sym a.reports ∙ ap (map (plain terms)) same in
        rw (
          same,
          none,
          (released terms x cleans).1,
          done.sources x.source ∙ ap (comes_in_release x.source) same,
          done.blocks k ∙ ap (comes_of k) same,
          pend.acquires k,
          a.held k,
        ) refl
    go (z ∷ u) same =
        let some : unfinished Channel.C (on_link link.0 e.trace) ≡ plain terms z ∷ map (plain terms) u =
        sym a.reports ∙ ap (map (plain terms)) same in
        let sound = head_sound (unfinished Channel.C (on_link link.0 e.trace)) (plain terms z) (map (plain terms) u) some
        (each_unfinished (λ y. IsSound config (record { 0 = link.0 }, y)) Channel.C (on_link link.0 e.trace)
        (sound_on_link config link.0 e.trace kept.sound)) in
        rw (same, some, first-breaks terms config link x z cleans sound) refl

cleaning-same : {w : ℕ} (terms : Terms) (config : Config) (link : Link) (x : BeatC w) (burst : List (Beat w))
    (t : Trace w) (e : End w) → IsKept config e → is_of_cleaning (granted terms) (Beat.C x) burst ≡ true
    → AreAlike terms burst (on_link link.0 t) (on_link link.0 e.trace)
    → IsUnderwayIfAny terms burst (on_link link.0 e.trace)
    → ArePendingAlike terms link.0 (on_link link.0 t) (on_link link.0 e.trace) → IsAnswered (on_link link.0 t)
    → broken_in_order_under (granted terms) (Beat.C x) (on_link link.0 t)
    ≡ cleaning_order (granted terms) link (Beat.C x) burst e.trace
cleaning-same terms config link x [] t e kept of a is pend done = first-order terms config link x t e kept of a pend done
cleaning-same terms config link x (Beat.C z ∷ burst) t e kept of a is pend done =
    next-breaks terms x z burst (on_link link.0 t) (on_link link.0 e.trace) a is
cleaning-same terms config link x v t e kept of a is pend done = absurd is

-- ---- any beat of a cleaning

refused-by : (o p q : Option Rule) (r : Rule) → breaks_or o (breaks_or p (breaks_or q Passes)) ≡ Breaks r
    → option_or o (option_or p q) ≡ Some r
refused-by (Some s) p q r e = cc
refused-by None (Some s) q r e = cc
refused-by None None (Some s) r e = cc
refused-by None None None r e = absurd cc

passes-by : (o p q : Option Rule) → breaks_or o (breaks_or p (breaks_or q Passes)) ≡ Passes
    → option_or o (option_or p q) ≡ None
passes-by (Some s) p q e = absurd cc
passes-by None (Some s) q e = absurd cc
passes-by None None (Some s) e = absurd cc
passes-by None None None e = refl

never-waits : (o p q : Option Rule) → breaks_or o (breaks_or p (breaks_or q Passes)) ≡ Waits → ⊥
never-waits (Some s) p q e = cc
never-waits None (Some s) q e = cc
never-waits None None (Some s) e = cc
never-waits None None None e = cc

cleaning-names : {w : ℕ} (terms : Terms) (config : Config) (link : Link) (ch : Channel) (x : Beat w) (t : Trace w)
    (e : PartnerEnd w) → IsKept config e.manager → is_of_cleaning (granted terms) x (cleaning_on link e) ≡ true
    → IsCarried terms config t e
    → NamesRule (offered_cleaning (granted terms) config link ch x e).0
    (first_rule (granted terms) config (open_level config link e.manager) link ch x t)
    (early_rule (granted terms) (open_level config link e.manager) link ch x t)
cleaning-names terms config link ch (Beat.A x) t e kept of c = absurd cc
cleaning-names terms config link ch (Beat.B x) t e kept of c = absurd cc
cleaning-names {w} terms config link ch (Beat.C x) t e kept of c = by_level (open_level config link e.manager)
  where
    order : broken_in_order_under (granted terms) (Beat.C x) (on_link link.0 t)
        ≡ cleaning_order (granted terms) link (Beat.C x) (cleaning_on link e) e.manager.trace
    order = cleaning-same terms config link x (cleaning_on link e) t e.manager kept of (c.alike link.0)
        (c.underway link.0) (c.pendings link.0) (c.answered link.0)

    sends : (b : Bool) (first early : Option Rule) → first ≡ None → completes (Beat.C x) (cleaning_on link e) ≡ b
        → NamesRule (cleaning_as Passes config link (Beat.C x) e).0 first early
    sends true first early none last = rw last none
    sends false first early none part = rw part none

    by_level : (o : Option Level)
        → NamesRule (cleaning_as (judged_cleaning (granted terms) config o link ch (Beat.C x) (cleaning_on link e)
        e.manager.trace) config link (Beat.C x) e).0 (first_rule (granted terms) config o link ch (Beat.C x) t)
        (early_rule (granted terms) o link ch (Beat.C x) t)
    by_level None = refl
    by_level (Some level) = rw order (go (judged_cleaning (granted terms) config (Some level) link ch (Beat.C x)
        (cleaning_on link e) e.manager.trace) refl)
      where
        u : Option Rule
        u = illegal_under (granted terms) level ch (Beat.C x)

        o : Option Rule
        o = cleaning_order (granted terms) link (Beat.C x) (cleaning_on link e) e.manager.trace

        l : Option Rule
        l = first_if (is_outside config.blocks (Beat.C x)) A1 (first_if (is_spoiled (Beat.C x)) A2 None)

        go : (j : Judgement) → judged_cleaning (granted terms) config (Some level) link ch (Beat.C x) (cleaning_on link e)
            e.manager.trace ≡ j
            → NamesRule (cleaning_as j config link (Beat.C x) e).0 (option_or u (option_or o l))
            (option_or u (before_stall o))
        go (Breaks r) is = refused-by u o l r is
        go Waits is = absurd (never-waits u o l is)
        go Passes is = sends (completes (Beat.C x) (cleaning_on link e)) (option_or u (option_or o l)) _
            (passes-by u o l is) refl
cleaning-names terms config link ch (Beat.D x) t e kept of c = absurd cc
cleaning-names terms config link ch (Beat.E x) t e kept of c = absurd cc

-- ---- any beat

pub names-under : {w : ℕ} (terms : Terms) (config : Config) (link : Link) (ch : Channel) (x : Beat w) (t : Trace w)
    (e : PartnerEnd w) → IsWidth w → IsTyped x → IsKept config e.manager → IsCarried terms config t e
    → NamesRule (offered_under terms config link ch x e).0
    (first_rule (granted terms) config (open_level config link e.manager) link ch x t)
    (early_rule (granted terms) (open_level config link e.manager) link ch x t)
names-under {w} terms config link ch x t e width typed kept c =
    cleans_or (is_of_cleaning (granted terms) x (cleaning_on link e)) refl
  where
    Goal : Type 0
    Goal = NamesRule (offered_under terms config link ch x e).0
        (first_rule (granted terms) config (open_level config link e.manager) link ch x t)
        (early_rule (granted terms) (open_level config link e.manager) link ch x t)

    asks_or : (b : Bool) → asks_for_cleaned x (cleaning_on link e) ≡ b
        → is_of_cleaning (granted terms) x (cleaning_on link e) ≡ false → Goal
    asks_or true asks other = rw (under-held terms config link ch x e other asks)
        (held-any terms config link ch x t e kept asks c)
    asks_or false free other = rw (under-lenient terms config link ch x e other free)
        (lenient-names terms config link ch x t e width typed kept (beside terms x (cleaning_on link e) other free)
        (not_cleaning terms x (cleaning_on link e) other) c)

    cleans_or : (b : Bool) → is_of_cleaning (granted terms) x (cleaning_on link e) ≡ b → Goal
    cleans_or true of = rw (under-cleaning terms config link ch x e of)
        (cleaning-names terms config link ch x t e kept of c)
    cleans_or false other = asks_or (asks_for_cleaned x (cleaning_on link e)) refl other
