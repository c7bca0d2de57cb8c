-- The rule that a refusal names is the first that the beat breaks, by what the links carried.
use Rattle.std.proofs.Common.{◌≡◌, ℕ, Bool, true, false, ◌&&◌, List, [], ◌∷◌, Option, Some, None, refl}
use Rattle.std.proofs.Common.{sym, ◌∙◌, subst}
use Rattle.std.proofs.lemmas.Bool.{and_parts}
use Rattle.std.specs.Option.{option_or}
use Rattle.std.specs.Prelude.{if◌then◌else◌}
use Rattle.tl_beat.specs.declared.beat.Beat.{Beat}
use Rattle.tl_beat.specs.declared.beat.Link.{Link}
use Rattle.tl_beat.specs.declared.channel.Channel.{Channel}
use Rattle.tl_beat.specs.statement.First.{first_if}
use Rattle.tl_beat.specs.statement.Width.{IsWidth}
use Rattle.tl_params.specs.declared.config.Config.{Config}
use Rattle.tl_params.specs.declared.level.Level.{Level}
use Rattle.tl_params.specs.declared.rule.Rule.{Rule}
use Rattle.tl_params.specs.declared.rule.Rule.TheVariants.{A1, A2, A3, H1, H12, H5, S1}
use Rattle.tl_rules.specs.statement.Admission.{is_outside, is_spoiled}
use Rattle.tl_rules.proofs.Open.{never}
use Rattle.tl_rules.specs.statement.Conformance.{Trace, broken_in_order, on_link}
use Rattle.tl_rules.specs.statement.History.{is_probe_ack}
use Rattle.tl_rules.specs.statement.Liberties.{broken_in_order_under}
use Rattle.tl_manager.proofs.calls.Keeping.{kept-offered}
use Rattle.tl_manager.proofs.judging.Judged.{passed}
use Rattle.tl_manager.specs.code.Kept.{IsKept, IsTyped}
use Rattle.tl_manager.specs.statement.End.{End}
use Rattle.tl_manager.specs.statement.Holders.{recorded}
use Rattle.tl_manager.specs.statement.Offer.{Breaks, Judgement, Passes, Reception, Refused, Sent, Stalled, Waits, before_stall}
use Rattle.tl_manager.specs.statement.Offer.{breaks_or, is_from_client, judged, must_wait, offered_as, open_level}
use Rattle.tl_manager.specs.statement.Offer.{unlawful, waits_or}
unfoldable use Rattle.tl_manager.specs.statement.Offer.{judged_at, offered}
use Rattle.tl_partner.specs.declared.terms.Terms.{Terms}
use Rattle.tl_partner.specs.laws.Carried.{AreAlike, IsCarried}
use Rattle.tl_partner.specs.laws.Judged.{NamesRule, early_rule, first_rule, unlawful_under}
use Rattle.tl_partner.specs.statement.Cleaning.{PartnerEnd, cleaning_on, is_cleaning, is_of_cleaning}
use Rattle.tl_partner.specs.statement.Dropping.{after_drop, block_of, is_by_record, is_drop, is_reporting, release_beat}
use Rattle.tl_partner.specs.statement.Dropping.{says_none}
use Rattle.tl_partner.specs.statement.Granting.{granted}
use Rattle.tl_partner.specs.statement.Lenient.{answer_named, offered_plain}
use Rattle.tl_partner.specs.statement.Naming.{from_zero, is_misnamed, plain}
use Rattle.tl_partner.proofs.Apart.{IsBeside, typed_plain}
use Rattle.tl_partner.proofs.Drops.{by_record}
use Rattle.tl_partner.proofs.Lawful.{lawful-same}
use Rattle.tl_partner.proofs.Leniently.{plain-dropped, plain-kept, plain-waits}
use Rattle.tl_partner.proofs.Passing.{drop-parts, passes-drop}
use Rattle.tl_partner.proofs.Orders.{order-a, order-e, spared}
use Rattle.tl_partner.proofs.ReportOrders.{order-c}

-- ---- how a beat is judged, by the rules that it breaks

abbrev judged_of : Option Rule → Bool → Option Rule → Option Rule → Judgement
judged_of lawful waits order late =
    breaks_or lawful (breaks_or (before_stall order) (waits_or waits (breaks_or order (breaks_or late Passes))))

abbrev firsts : Bool → Option Rule → Option Rule → Option Rule → Option Rule
firsts says lawful order late = option_or lawful (option_or (spared says order) late)

-- a rule by which the beat is refused, unless it says that nothing is held and breaks it by what is recorded
refused-first : (u o l : Option Rule) (waits says : Bool) (r : Rule)
    → (says && is_by_record (judged_of u waits o l)) ≡ false → judged_of u waits o l ≡ Breaks r
    → firsts says u o l ≡ Some r
refused-first (Some s) o l waits says r free is = cc
refused-first None None l true says r free is = absurd cc
refused-first None None None false says r free is = absurd cc
refused-first None None (Some s) false says r free is = cc
refused-first None (Some S1) l waits says r free is = cc
refused-first None (Some H1) l waits says r free is = cc
refused-first None (Some H5) l true says r free is = absurd cc
refused-first None (Some H5) l false true r free is = absurd cc
refused-first None (Some H5) l false false r free is = cc
refused-first None (Some H12) l true says r free is = absurd cc
refused-first None (Some H12) l false true r free is = absurd cc
refused-first None (Some H12) l false false r free is = cc
refused-first None (Some v) l true says r free is = absurd cc
refused-first None (Some v) l false says r free is = cc

taken-first : (u o l : Option Rule) (waits says : Bool) → judged_of u waits o l ≡ Passes → firsts says u o l ≡ None
taken-first (Some s) o l waits says is = absurd cc
taken-first None None l true says is = absurd cc
taken-first None None None false says is = refl
taken-first None None (Some s) false says is = absurd cc
taken-first None (Some S1) l waits says is = absurd cc
taken-first None (Some H1) l waits says is = absurd cc
taken-first None (Some v) l true says is = absurd cc
taken-first None (Some v) l false says is = absurd cc

stalled-first : (u o l : Option Rule) (waits says : Bool) → judged_of u waits o l ≡ Waits
    → option_or u (before_stall (spared says o)) ≡ None
stalled-first (Some s) o l waits says is = absurd cc
stalled-first None None l waits says is = refl
stalled-first None (Some S1) l waits says is = absurd cc
stalled-first None (Some H1) l waits says is = absurd cc
stalled-first None (Some H5) l waits true is = refl
stalled-first None (Some H5) l waits false is = refl
stalled-first None (Some H12) l waits true is = refl
stalled-first None (Some H12) l waits false is = refl
stalled-first None (Some v) l waits says is = refl

-- ---- what is the same of the two

-- by the link's beats and by the manager's history: the L rule, the rule of order but for what `drops` spares, A1 and A2
record IsJudgedAlike {w : ℕ} (terms : Terms) (config : Config) (link : Link) (ch : Channel) (x : Beat w) (t e : Trace w)
    : Type 0 where
  lawful : (level : Level) → unlawful_under (granted terms) level ch x ≡ unlawful level ch (plain terms x)
  order : is_from_client x ≡ true → broken_in_order_under (granted terms) x (on_link link.0 t)
      ≡ spared (terms.drops && says_none (plain terms x))
      (broken_in_order config.profile (plain terms x) (on_link link.0 e))
  outside : is_outside config.blocks x ≡ is_outside config.blocks (plain terms x)
  spoiled : is_spoiled x ≡ is_spoiled (plain terms x)

outside_plain : {w : ℕ} (terms : Terms) (blocks : ℕ) (x : Beat w)
    → (is_outside blocks x ≡ is_outside blocks (plain terms x)) × (is_spoiled x ≡ is_spoiled (plain terms x))
outside_plain terms blocks (Beat.A x) = (refl, refl)
outside_plain terms blocks (Beat.B x) = (refl, refl)
outside_plain {w} terms blocks (Beat.C x) = go (terms.ids && is_probe_ack x.opcode)
  where
    go : (b : Bool) → (is_outside blocks (Beat.C x) ≡ is_outside blocks (if b then Beat.C (from_zero x) else Beat.C x))
        × (is_spoiled (Beat.C x) ≡ is_spoiled (if b then Beat.C (from_zero x) else Beat.C x))
    go true = (refl, refl)
    go false = (refl, refl)
outside_plain terms blocks (Beat.D x) = (refl, refl)
outside_plain terms blocks (Beat.E x) = (refl, refl)

pub not_cleaning : {w : ℕ} (terms : Terms) (x : Beat w) (burst : List (Beat w))
    → is_of_cleaning (granted terms) x burst ≡ false → is_cleaning (granted terms) x ≡ false
not_cleaning terms (Beat.C x) [] other = other
not_cleaning terms (Beat.C x) (y ∷ burst) other = absurd cc
not_cleaning terms v burst other = refl

order-any : {w : ℕ} (terms : Terms) (config : Config) (link : Link) (x : Beat w) (t : Trace w) (e : PartnerEnd w)
    → IsKept config e.manager → IsBeside x (cleaning_on link e) → is_cleaning (granted terms) x ≡ false
    → is_misnamed terms link x ≡ false → IsCarried terms config t e → is_from_client x ≡ true
    → broken_in_order_under (granted terms) x (on_link link.0 t)
    ≡ spared (terms.drops && says_none (plain terms x))
    (broken_in_order config.profile (plain terms x) (on_link link.0 e.manager.trace))
order-any terms config link (Beat.A x) t e kept apart other right c theirs =
    order-a terms link.0 config.profile x (cleaning_on link e) (on_link link.0 t) (on_link link.0 e.manager.trace) apart
    (c.underway link.0) (c.alike link.0) (c.pendings link.0) (c.answered link.0) (kept.releases link.0)
order-any terms config link (Beat.B x) t e kept apart other right c theirs = absurd cc
order-any {w} terms config link (Beat.C x) t e kept apart other right c theirs =
    order-c terms link config.profile x (on_link link.0 t) (on_link link.0 e.manager.trace) right other
    (subst (λ (cleaning : List (Beat w)). AreAlike terms cleaning (on_link link.0 t) (on_link link.0 e.manager.trace))
    apart (c.alike link.0)) (c.pendings link.0) (c.answered link.0) (kept.releases link.0)
order-any terms config link (Beat.D x) t e kept apart other right c theirs = absurd cc
order-any terms config link (Beat.E x) t e kept apart other right c theirs =
    order-e terms link.0 config.profile x (cleaning_on link e) (on_link link.0 t) (on_link link.0 e.manager.trace)
    (c.alike link.0) (c.pendings link.0)

judged-alike : {w : ℕ} (terms : Terms) (config : Config) (link : Link) (ch : Channel) (x : Beat w) (t : Trace w)
    (e : PartnerEnd w) → IsKept config e.manager → IsBeside x (cleaning_on link e)
    → is_cleaning (granted terms) x ≡ false → is_misnamed terms link x ≡ false → IsCarried terms config t e
    → IsJudgedAlike terms config link ch x t e.manager.trace
judged-alike terms config link ch x t e kept apart other right c = record {
  lawful = λ level. lawful-same terms level ch x other;
  order = order-any terms config link x t e kept apart other right c;
  outside = (outside_plain terms config.blocks x).0;
  spoiled = (outside_plain terms config.blocks x).1;
}

-- ---- a beat that the manager is offered

pub named-answer : {w : ℕ} (terms : Terms) (r : Reception w) (first early : Option Rule) → NamesRule r first early
    → NamesRule (answer_named terms r) first early
named-answer terms (Refused rule) first early is = is
named-answer terms Stalled first early is = is
named-answer terms (Sent handed) first early is = is

-- of a beat of a channel on which clients send
offered-names : {w : ℕ} (terms : Terms) (config : Config) (level : Level) (link : Link) (ch : Channel) (x : Beat w)
    (t : Trace w) (e : End w) → IsJudgedAlike terms config link ch x t e.trace → is_from_client x ≡ true
    → is_drop terms config link ch (plain terms x) e ≡ false → open_level config link e ≡ Some level
    → NamesRule (offered config link ch (plain terms x) e).0
    (first_rule (granted terms) config (Some level) link ch x t)
    (early_rule (granted terms) (Some level) link ch x t)
unfolding judged_at offered
offered-names {w} terms config level link ch x t e same theirs free live =
    rw (same.lawful level, same.order theirs, same.outside, same.spoiled) (go (judged config link ch y e) refl)
  where
    y : Beat w
    y = plain terms x

    u : Option Rule
    u = unlawful level ch y

    o : Option Rule
    o = broken_in_order config.profile y (on_link link.0 e.trace)

    l : Option Rule
    l = first_if (is_outside config.blocks y) A1 (first_if (is_spoiled y) A2 None)

    waits : Bool
    waits = must_wait config link y e.trace

    says : Bool
    says = terms.drops && says_none y

    judged_is : judged config link ch y e ≡ judged_of u waits o l
    judged_is = rw live refl

    moved : (a b c : Bool) → (a && (b && c)) ≡ false → ((a && b) && c) ≡ false
    moved true b c f = f
    moved false b c f = refl

    spares : (says && is_by_record (judged_of u waits o l)) ≡ false
    spares = moved terms.drops (says_none y) (is_by_record (judged_of u waits o l)) (rw judged_is at free)

    go : (j : Judgement) → judged config link ch y e ≡ j
        → NamesRule (offered_as j config link y e).0 (firsts says u o l) (option_or u (before_stall (spared says o)))
    go (Breaks r) is = refused-first u o l waits says r spares (sym judged_is ∙ is)
    go Waits is = stalled-first u o l waits says (sym judged_is ∙ is)
    go Passes is = taken-first u o l waits says (sym judged_is ∙ is)

-- of one that says that nothing is held of a block of which its client is recorded with a copy
dropped-names : {w : ℕ} (terms : Terms) (config : Config) (level : Level) (link : Link) (ch : Channel) (x : Beat w)
    (t : Trace w) (e : End w) → IsWidth w → IsTyped x → IsKept config e
    → IsJudgedAlike terms config link ch x t e.trace → is_from_client x ≡ true
    → is_drop terms config link ch (plain terms x) e ≡ true → is_reporting link e.trace ≡ false
    → open_level config link e ≡ Some level
    → NamesRule (offered config link ch (plain terms x) (after_drop config link (block_of (plain terms x)) e)).0
    (first_rule (granted terms) config (Some level) link ch x t)
    (early_rule (granted terms) (Some level) link ch x t)
unfolding offered
dropped-names {w} terms config level link ch x t e width typed kept same theirs is free live =
    let y = plain terms x in
    let k = block_of y in
    let parts = drop-parts terms config link ch y e is in
    let facts = by_record config link ch y e parts.1 in
    let drops = (and_parts terms.drops _ is).0 in
    let passes = passes-drop config link ch y e width kept parts.0 parts.1 free in
    let after = kept-offered config link Channel.C (release_beat k (recorded link.0 k e.trace)) e width tt kept in
    let ok = passed config link ch y (after_drop config link k e) (typed_plain terms x typed) passes in
    let lawful : unlawful level ch y ≡ None = rw (some_level level facts.level (sym live ∙ facts.live)) facts.lawful in
    rw (
      passes,
      same.lawful level,
      same.order theirs,
      same.outside,
      same.spoiled,
      lawful,
      facts.order,
      drops,
      parts.0,
      ok.sound.inside,
      ok.sound.clean,
    ) refl
  where
    some_level : (a b : Level) → Some a ≡ Some b → a ≡ b
    some_level a b f = cc

stalled-names : {w : ℕ} (terms : Terms) (config : Config) (level : Level) (link : Link) (ch : Channel) (x : Beat w)
    (t : Trace w) (e : End w) → IsJudgedAlike terms config link ch x t e.trace → is_from_client x ≡ true
    → is_drop terms config link ch (plain terms x) e ≡ true → open_level config link e ≡ Some level
    → early_rule (granted terms) (Some level) link ch x t ≡ None
stalled-names {w} terms config level link ch x t e same theirs is live =
    let y = plain terms x in
    let parts = drop-parts terms config link ch y e is in
    let facts = by_record config link ch y e parts.1 in
    let drops = (and_parts terms.drops _ is).0 in
    let lawful : unlawful level ch y ≡ None = rw (some_level level facts.level (sym live ∙ facts.live)) facts.lawful in
    rw (same.lawful level, same.order theirs, lawful, facts.order, drops, parts.0) refl
  where
    some_level : (a b : Level) → Some a ≡ Some b → a ≡ b
    some_level a b f = cc

-- of one that clients don't send
foreign-names : {w : ℕ} (terms : Terms) (config : Config) (level : Level) (link : Link) (ch : Channel) (x : Beat w)
    (t : Trace w) (e : End w) → is_from_client x ≡ false → open_level config link e ≡ Some level
    → NamesRule (offered_plain terms config link ch (plain terms x) e).0
    (first_rule (granted terms) config (Some level) link ch x t)
    (early_rule (granted terms) (Some level) link ch x t)
unfolding judged_at offered
foreign-names terms config level link ch (Beat.A x) t e ours live = absurd cc
foreign-names terms config level link ch (Beat.B x) t e ours live = rw (never terms.drops, live) refl
foreign-names terms config level link ch (Beat.C x) t e ours live = absurd cc
foreign-names terms config level link ch (Beat.D x) t e ours live = rw (never terms.drops, live) refl
foreign-names terms config level link ch (Beat.E x) t e ours live = absurd cc

-- on a link that is closed or isn't there
closed-names : {w : ℕ} (terms : Terms) (config : Config) (link : Link) (ch : Channel) (y : Beat w) (e : End w)
    → open_level config link e ≡ None → (offered_plain terms config link ch y e).0 ≡ Refused A3
unfolding offered
closed-names terms config link ch y e live = rw (live, never (says_none y), never terms.drops) refl

-- any beat that the manager is offered as the first profile has it
pub plain-names : {w : ℕ} (terms : Terms) (config : Config) (link : Link) (ch : Channel) (x : Beat w) (t : Trace w)
    (e : PartnerEnd w) → IsWidth w → IsTyped x → IsKept config e.manager → IsBeside x (cleaning_on link e)
    → is_cleaning (granted terms) x ≡ false → is_misnamed terms link x ≡ false → IsCarried terms config t e
    → NamesRule (offered_plain terms config link ch (plain terms x) e.manager).0
    (first_rule (granted terms) config (open_level config link e.manager) link ch x t)
    (early_rule (granted terms) (open_level config link e.manager) link ch x t)
plain-names {w} terms config link ch x t e width typed kept apart other right c =
    go (open_level config link e.manager) refl
  where
    y : Beat w
    y = plain terms x

    same : IsJudgedAlike terms config link ch x t e.manager.trace
    same = judged-alike terms config link ch x t e kept apart other right c

    Goal : Option Level → Type 0
    Goal o = NamesRule (offered_plain terms config link ch y e.manager).0 (first_rule (granted terms) config o link ch x t)
        (early_rule (granted terms) o link ch x t)

    drop_or : (level : Level) → open_level config link e.manager ≡ Some level → is_from_client x ≡ true
        → (b busy : Bool) → is_drop terms config link ch y e.manager ≡ b → is_reporting link e.manager.trace ≡ busy
        → Goal (Some level)
    drop_or level live theirs false busy is f = rw (plain-kept terms config link ch y e.manager is)
        (named-answer terms (offered config link ch y e.manager).0 _ _
        (offered-names terms config level link ch x t e.manager same theirs is live))
    drop_or level live theirs true true is f = rw (plain-waits terms config link ch y e.manager is f)
        (stalled-names terms config level link ch x t e.manager same theirs is live)
    drop_or level live theirs true false is f = rw (plain-dropped terms config link ch y e.manager is f)
        (named-answer terms (offered config link ch y (after_drop config link (block_of y) e.manager)).0 _ _
        (dropped-names terms config level link ch x t e.manager width typed kept same theirs is f live))

    theirs_or : (level : Level) → open_level config link e.manager ≡ Some level → (b : Bool) → is_from_client x ≡ b
        → Goal (Some level)
    theirs_or level live true theirs =
        drop_or level live theirs (is_drop terms config link ch y e.manager) (is_reporting link e.manager.trace) refl refl
    theirs_or level live false ours = foreign-names terms config level link ch x t e.manager ours live

    go : (o : Option Level) → open_level config link e.manager ≡ o → Goal o
    go None live = rw (closed-names terms config link ch y e.manager live) refl
    go (Some level) live = theirs_or level live (is_from_client x) refl
