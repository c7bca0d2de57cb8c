-- The rule that an Acquire breaks of a block that is being cleaned.
use Rattle.std.proofs.Common.{◌≡◌, ℕ, Bool, true, false, ◌&&◌, ◌||◌, ◌==◌, List, [], ◌∷◌, Option, Some, None, refl}
use Rattle.std.proofs.Common.{ap, ◌∙◌, not}
use Rattle.std.proofs.lemmas.Bool.{and_parts}
use Rattle.std.specs.Option.{option_or}
use Rattle.std.specs.Prelude.{length, nat_le, ⊤}
use Rattle.tl_beat.specs.declared.beat.Beat.{Beat}
use Rattle.tl_beat.specs.declared.beat.BeatA.{BeatA}
use Rattle.tl_beat.specs.declared.beat.BeatC.{BeatC}
use Rattle.tl_beat.specs.declared.beat.Link.{Link}
use Rattle.tl_beat.specs.declared.channel.Channel.{Channel}
use Rattle.tl_beat.specs.statement.First.{first_if}
use Rattle.tl_burst.proofs.ControlFields.{control_a}
use Rattle.tl_burst.specs.statement.Messages.{History, breaks_burst, same_control, unfinished}
use Rattle.tl_burst.specs.statement.Part.{completes}
use Rattle.tl_params.specs.declared.config.Config.{Config}
use Rattle.tl_params.specs.declared.key.Key.TheVariants.{AcquireOf, ReleaseOf, RequestSource}
use Rattle.tl_params.specs.declared.level.Level.{Level}
use Rattle.tl_params.specs.declared.rule.Rule.{Rule}
use Rattle.tl_params.specs.declared.rule.Rule.TheVariants.{A1, A2, H1, H4, H5, L1, L2, L3, L4, L5, L6, L7, S1}
use Rattle.tl_rules.specs.statement.Admission.{is_outside, is_spoiled}
use Rattle.tl_rules.specs.statement.Conformance.{Trace, grows_from, on_link}
unfoldable use Rattle.tl_rules.specs.statement.Conformance.{broken_order}
use Rattle.tl_rules.specs.statement.History.{block_at, held, is_acquire, is_release, pending}
use Rattle.tl_rules.specs.statement.Legality.{breaks_l1, breaks_l2, breaks_l3, breaks_l4, breaks_l5, breaks_l6, breaks_l7}
unfoldable use Rattle.tl_rules.specs.statement.Legality.{illegal}
use Rattle.tl_rules.specs.statement.Liberties.{broken_in_order_under}
unfoldable use Rattle.tl_rules.specs.statement.Liberties.{broken_order_under, illegal_under}
use Rattle.tl_manager.specs.code.Kept.{IsKept}
use Rattle.tl_manager.specs.code.Releases.{IsAnswered, comes_of}
use Rattle.tl_manager.specs.laws.Pending.{IsBegun}
use Rattle.tl_manager.specs.statement.Offer.{Breaks, Passes, before_stall, breaks_or, judged}
use Rattle.tl_manager.specs.statement.Offer.{judged_on, open_level, waits_or}
unfoldable use Rattle.tl_manager.specs.statement.Offer.{judged_at}
use Rattle.tl_manager.specs.statement.Service.{is_in_service, services}
use Rattle.tl_partner.specs.declared.terms.Terms.{Terms}
use Rattle.tl_partner.specs.laws.Carried.{AreAlike, IsCarried, IsUnderwayIfAny}
use Rattle.tl_partner.specs.laws.Judged.{NamesRule, early_rule, first_rule}
use Rattle.tl_partner.specs.statement.Cleaning.{PartnerEnd, cleaning_on}
use Rattle.tl_partner.specs.statement.Granting.{granted}
use Rattle.tl_partner.specs.statement.Partner.{asks_for_cleaned, cleans, held_back, held_back_as}
use Rattle.tl_partner.proofs.Cleaned.{carried-cleaning, released}

-- ---- an Acquire of a block that is being cleaned

-- as it begins, H4 is the first after H1
held-order : {w : ℕ} (terms : Terms) (x : BeatA w) (z : BeatC w) (burst : List (Beat w)) (t e : History w)
    → is_acquire x.opcode ≡ true → (block_at z.address == block_at x.address) ≡ true
    → unfinished Channel.A t ≡ [] → unfinished Channel.C t ≡ Beat.C z ∷ burst → is_release z.opcode ≡ true
    → IsAnswered t
    → broken_in_order_under (granted terms) (Beat.A x) t
    ≡ first_if (pending (RequestSource x.source) t) H1 (Some H4)
unfolding broken_order_under
held-order {w} terms x z burst t e acquires same none some release done =
    let now : pending (ReleaseOf (block_at x.address)) t ≡ true =
    done.blocks (block_at x.address) ∙ ap (comes_of (block_at x.address)) some ∙ rw (release, same) refl in
    rw (none, acquires, now, either (pending (AcquireOf (block_at x.address)) t)) refl
  where
    either : (b : Bool) → (b || true) ≡ true
    either true = refl
    either false = refl

-- a rule that isn't H5, A1 or A2 stays
abbrev Stays : Option Rule → Type 0
Stays None = ⊤
Stays (Some r) = held_back (Breaks r) ≡ Breaks r

first_stays : (b : Bool) (s : Rule) (rest : Option Rule) → held_back (Breaks s) ≡ Breaks s → Stays rest
    → Stays (first_if b s rest)
first_stays true s rest e f = e
first_stays false s rest e f = f

illegal_stays : {w : ℕ} (level : Level) (ch : Channel) (x : Beat w) → Stays (illegal level ch x)
unfolding illegal
illegal_stays level ch x =
    first_stays (breaks_l1 level ch x) L1 _ refl (first_stays (breaks_l7 x) L7 _ refl
    (first_stays (breaks_l2 x) L2 _ refl (first_stays (breaks_l3 level x) L3 _ refl
    (first_stays (breaks_l4 x) L4 _ refl (first_stays (breaks_l5 x) L5 _ refl
    (first_stays (breaks_l6 x) L6 None refl tt))))))

held-begins : {w : ℕ} (u : Option Rule) (h1 h4 h5 outside spoiled waits : Bool) (link : Link) (e : PartnerEnd w) → Stays u
    → NamesRule (held_back_as (held_back (breaks_or u
    (breaks_or (before_stall (first_if h1 H1 (first_if h4 H4 (first_if h5 H5 None))))
    (waits_or waits (breaks_or (first_if h1 H1 (first_if h4 H4 (first_if h5 H5 None)))
    (breaks_or (first_if outside A1 (first_if spoiled A2 None)) Passes)))))) link e).0
    (option_or u (option_or (first_if h1 H1 (Some H4)) (first_if outside A1 (first_if spoiled A2 None))))
    (option_or u (before_stall (first_if h1 H1 (Some H4))))
held-begins (Some s) h1 h4 h5 outside spoiled waits link e stays = rw stays refl
held-begins None true h4 h5 outside spoiled waits link e stays = refl
held-begins None false true h5 outside spoiled true link e stays = refl
held-begins None false false true outside spoiled true link e stays = refl
held-begins None false false false outside spoiled true link e stays = refl
held-begins None false true h5 outside spoiled false link e stays = refl
held-begins None false false true outside spoiled false link e stays = refl
held-begins None false false false true spoiled false link e stays = refl
held-begins None false false false false true false link e stays = refl
held-begins None false false false false false false link e stays = refl

held-amid : {w : ℕ} (u l : Option Rule) (waits : Bool) (link : Link) (e : PartnerEnd w) → Stays u
    → NamesRule (held_back_as (held_back (breaks_or u (breaks_or (before_stall (Some S1))
    (waits_or waits (breaks_or (Some S1) (breaks_or l Passes)))))) link e).0
    (option_or u (option_or (Some S1) l)) (option_or u (before_stall (Some S1)))
held-amid (Some s) l waits link e stays = rw stays refl
held-amid None l waits link e stays = refl

-- within another request it breaks S1
amid-breaks : {w : ℕ} (x : BeatA w) (h : History w) (y : Beat w) (burst : List (Beat w)) → is_acquire x.opcode ≡ true
    → IsBegun h (y ∷ burst) → breaks_burst (Beat.A x) (y ∷ burst) ≡ true
amid-breaks {w} x h (Beat.A y) burst acquires begun = go (same_control (Beat.A x) (Beat.A y)) refl
  where
    go : (b : Bool) → same_control (Beat.A x) (Beat.A y) ≡ b → not b ≡ true
    go true is =
        let fields = control_a x y (rw is refl) in
        absurd (let no-such = rw (← fields.0, acquires) at begun.0 in cc)
    go false is = refl
amid-breaks x h v burst acquires begun = absurd begun

held-names : {w : ℕ} (terms : Terms) (config : Config) (level : Level) (link : Link) (ch : Channel) (x : BeatA w)
    (t : Trace w) (e : PartnerEnd w) → IsKept config e.manager
    → asks_for_cleaned (Beat.A x) (cleaning_on link e) ≡ true → IsCarried terms config t e
    → NamesRule (held_back_as (held_back (judged_on config (Some level) link ch (Beat.A x) e.manager.trace)) link e).0
    (first_rule (granted terms) config (Some level) link ch (Beat.A x) t)
    (early_rule (granted terms) (Some level) link ch (Beat.A x) t)
unfolding judged_at broken_order illegal illegal_under
held-names {w} terms config level link ch x t e kept asks c =
    go (unfinished Channel.A h) refl (kept.steady.accounted.begun link.0)
  where
    h : History w
    h = on_link link.0 e.manager.trace

    g : History w
    g = on_link link.0 t

    acquires : is_acquire x.opcode ≡ true
    acquires = (and_parts (is_acquire x.opcode) (cleans (block_at x.address) (cleaning_on link e)) asks).0

    -- the cleaning that has begun, and that the link carried
    begun : (cleaning : List (Beat w)) → cleans (block_at x.address) cleaning ≡ true
        → AreAlike terms cleaning g h → IsUnderwayIfAny terms cleaning h → unfinished Channel.A g ≡ []
        → broken_in_order_under (granted terms) (Beat.A x) g
        ≡ first_if (pending (RequestSource x.source) h) H1 (Some H4)
    begun [] same a is none = absurd cc
    begun (Beat.C z ∷ burst) same a is none =
        let carried = carried-cleaning terms z burst g h a is in
        held-order terms x z carried.0 g h acquires same none carried.1 (released terms z is.cleans).1
        (c.answered link.0)
        ∙ ap (λ b. first_if b H1 (Some H4)) ((c.pendings link.0).sources x.source)
    begun v same a is none = absurd is

    waits : List (Beat w) → Bool
    waits burst = completes (Beat.A x) burst && (is_in_service (block_at x.address) (services e.manager.trace)
        || nat_le config.trackers (length (services e.manager.trace)))

    Goal : Type 0
    Goal = NamesRule (held_back_as (held_back (judged_on config (Some level) link ch (Beat.A x) e.manager.trace)) link e).0
        (first_rule (granted terms) config (Some level) link ch (Beat.A x) t)
        (early_rule (granted terms) (Some level) link ch (Beat.A x) t)

    go : (u : List (Beat w)) → unfinished Channel.A h ≡ u → IsBegun h (unfinished Channel.A h) → Goal
    go [] same ok =
        let none : unfinished Channel.A g ≡ [] = (c.alike link.0).requests ∙ same in
        rw (
          begun (cleaning_on link e)
              (and_parts (is_acquire x.opcode) (cleans (block_at x.address) (cleaning_on link e)) asks).1
              (c.alike link.0) (c.underway link.0) none,
          same,
        ) (held-begins (illegal level ch (Beat.A x)) (pending (RequestSource x.source) h)
        (is_acquire x.opcode && (pending (AcquireOf (block_at x.address)) h || pending (ReleaseOf (block_at x.address)) h))
        (is_acquire x.opcode && not (grows_from x.param (held (block_at x.address) h)))
        (is_outside config.blocks (Beat.A x)) (is_spoiled (Beat.A x)) (waits []) link e (illegal_stays level ch (Beat.A x)))
    go (y ∷ u) same ok =
        let both : unfinished Channel.A g ≡ y ∷ u = (c.alike link.0).requests ∙ same in
        rw (both, same, amid-breaks x h y u acquires (rw same at ok))
        (held-amid (illegal level ch (Beat.A x))
        (first_if (is_outside config.blocks (Beat.A x)) A1 (first_if (is_spoiled (Beat.A x)) A2 None))
        (waits (y ∷ u)) link e (illegal_stays level ch (Beat.A x)))

pub held-any : {w : ℕ} (terms : Terms) (config : Config) (link : Link) (ch : Channel) (x : Beat w)
    (t : Trace w) (e : PartnerEnd w) → IsKept config e.manager → asks_for_cleaned x (cleaning_on link e) ≡ true
    → IsCarried terms config t e
    → NamesRule (held_back_as (held_back (judged config link ch x e.manager)) link e).0
    (first_rule (granted terms) config (open_level config link e.manager) link ch x t)
    (early_rule (granted terms) (open_level config link e.manager) link ch x t)
held-any {w} terms config link ch (Beat.A x) t e kept asks c = go (open_level config link e.manager)
  where
    go : (o : Option Level)
        → NamesRule (held_back_as (held_back (judged_on config o link ch (Beat.A x) e.manager.trace)) link e).0
        (first_rule (granted terms) config o link ch (Beat.A x) t) (early_rule (granted terms) o link ch (Beat.A x) t)
    go None = refl
    go (Some level) = held-names terms config level link ch x t e kept asks c
held-any terms config link ch v t e kept asks c = absurd cc
