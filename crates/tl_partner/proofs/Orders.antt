-- Which rule of order a beat breaks: by what the link carried under its liberties, and by the manager's history of it.
use Rattle.std.proofs.Common.{◌≡◌, ℕ, Bool, true, false, ◌&&◌, ◌||◌, ◌==◌, List, [], ◌∷◌, ◌++◌, map, Option, None}
use Rattle.std.proofs.Common.{refl, ap, sym, ◌∙◌, not}
use Rattle.std.specs.Prelude.{if◌then◌else◌}
use Rattle.tl_beat.specs.declared.beat.Beat.{Beat}
use Rattle.tl_beat.specs.declared.beat.BeatA.{BeatA}
use Rattle.tl_beat.specs.declared.beat.BeatE.{BeatE}
use Rattle.tl_beat.specs.declared.channel.Channel.{Channel}
use Rattle.tl_beat.specs.statement.First.{first_if}
use Rattle.tl_burst.specs.statement.Messages.{History, breaks_burst, unfinished}
use Rattle.tl_burst.specs.statement.Part.{is_empty}
use Rattle.tl_params.specs.declared.key.Key.TheVariants.{AcquireOf, GrantSink, ReleaseOf, RequestSource}
use Rattle.tl_params.specs.declared.profile.Profile.{Profile}
use Rattle.tl_params.specs.declared.rule.Rule.{Rule}
use Rattle.tl_params.specs.declared.rule.Rule.TheVariants.{H1, H10, H11, H12, H4, H5, H8, S1}
use Rattle.tl_rules.proofs.Open.{never}
use Rattle.tl_rules.specs.statement.Conformance.{broken_in_order, comes_in_grant, grows_from}
unfoldable use Rattle.tl_rules.specs.statement.Conformance.{broken_order}
use Rattle.tl_rules.specs.statement.History.{block_at, held, is_acquire, is_probe_ack, is_release, pending}
use Rattle.tl_rules.specs.statement.Liberties.{broken_in_order_under, grows_from_none}
unfoldable use Rattle.tl_rules.specs.statement.Liberties.{broken_order_under}
use Rattle.tl_manager.proofs.pending.LinkHistories.{none-on_e}
use Rattle.tl_manager.specs.code.Releases.{IsAnswered, comes_of}
use Rattle.tl_partner.specs.declared.terms.Terms.{Terms}
use Rattle.tl_partner.specs.laws.Carried.{AreAlike, ArePendingAlike, IsUnderwayIfAny}
use Rattle.tl_partner.specs.statement.Dropping.{says_none}
use Rattle.tl_partner.specs.statement.Granting.{granted}
use Rattle.tl_partner.specs.statement.Naming.{from_zero, plain}
use Rattle.tl_partner.specs.statement.Partner.{cleans}
use Rattle.tl_partner.proofs.Apart.{IsBeside}
use Rattle.tl_partner.proofs.Drops.{has_record}

-- ---- a rule that `drops` spares a beat which says that nothing is held

-- what is left of a rule of order, where H5 and H12 are spared
abbrev pub spared : Bool → Option Rule → Option Rule
spared says o = if has_record o && says then None else o

pub spared-never : (o : Option Rule) → spared false o ≡ o
spared-never o = rw (never (has_record o)) refl

pub spare_s : (says breaks : Bool) → first_if breaks S1 None ≡ spared says (first_if breaks S1 None)
spare_s says true = refl
spare_s says false = refl

spare_a : (h1 h4 acquires none drops grows : Bool)
    → first_if h1 H1 (first_if h4 H4 (first_if (acquires && not ((drops && none) || grows)) H5 None))
    ≡ spared (drops && (acquires && none)) (first_if h1 H1 (first_if h4 H4 (first_if (acquires && not grows) H5 None)))
spare_a true h4 acquires none drops grows = refl
spare_a false true acquires none drops grows = refl
spare_a false false false none drops grows = refl
spare_a false false true none true true = by_cases none
  where
    by_cases : (b : Bool) → first_if (not (b || true)) H5 None ≡ None
    by_cases true = refl
    by_cases false = refl
spare_a false false true true true false = refl
spare_a false false true false true false = refl
spare_a false false true none false true = refl
spare_a false false true none false false = refl

pub spare_c : (h10 h11 none drops misreport : Bool)
    → first_if h10 H10 (first_if h11 H11 (first_if (not (drops && none) && misreport) H12 None))
    ≡ spared (drops && none) (first_if h10 H10 (first_if h11 H11 (first_if misreport H12 None)))
spare_c true h11 none drops misreport = refl
spare_c false true none drops misreport = refl
spare_c false false none drops false = by_cases (drops && none)
  where
    by_cases : (b : Bool) → first_if (not b && false) H12 None ≡ None
    by_cases true = refl
    by_cases false = refl
spare_c false false true true true = refl
spare_c false false false true true = refl
spare_c false false none false true = refl

-- ---- a message of channel A

-- whether a Release of the block is pending, where the beat is an Acquire
no_release : {w : ℕ} (terms : Terms) (x : BeatA w) (cleaning : List (Beat w)) (t e : History w)
    → is_acquire x.opcode ≡ true → IsBeside (Beat.A x) cleaning → IsUnderwayIfAny terms cleaning e
    → AreAlike terms cleaning t e → comes_of (block_at x.address) (unfinished Channel.C t)
    ≡ comes_of (block_at x.address) (unfinished Channel.C e)
no_release {w} terms x cleaning t e acquires apart is a = go cleaning (unfinished Channel.C t) refl
    (rw acquires at apart) is a.reports
  where
    k : ℕ
    k = block_at x.address

    of_plain : (y : Beat w) (burst rest : List (Beat w)) → comes_of k (y ∷ burst) ≡ comes_of k (plain terms y ∷ rest)
    of_plain (Beat.A y) burst rest = refl
    of_plain (Beat.B y) burst rest = refl
    of_plain (Beat.C y) burst rest = by_cases (terms.ids && is_probe_ack y.opcode)
      where
        by_cases : (b : Bool) → (is_release y.opcode && (block_at y.address == k))
            ≡ comes_of k ((if b then Beat.C (from_zero y) else Beat.C y) ∷ rest)
        by_cases true = refl
        by_cases false = refl
    of_plain (Beat.D y) burst rest = refl
    of_plain (Beat.E y) burst rest = refl

    of_all : (u : List (Beat w)) → comes_of k u ≡ comes_of k (map (plain terms) u)
    of_all [] = refl
    of_all (y ∷ u) = of_plain y u (map (plain terms) u)

    go : (c u : List (Beat w)) → unfinished Channel.C t ≡ u → cleans k c ≡ false → IsUnderwayIfAny terms c e
        → map (plain terms) (unfinished Channel.C t) ≡ c ++ unfinished Channel.C e
        → comes_of k (unfinished Channel.C t) ≡ comes_of k (unfinished Channel.C e)
    go [] u same other under reports = of_all (unfinished Channel.C t) ∙ ap (comes_of k) reports
    go (Beat.C z ∷ c) u same other under reports =
        of_all (unfinished Channel.C t) ∙ ap (comes_of k) reports
        ∙ rw (under.alone, other, never (is_release z.opcode)) refl
    go v u same other under reports = absurd under

pub order-a : {w : ℕ} (terms : Terms) (client : ℕ) (p : Profile) (x : BeatA w) (cleaning : List (Beat w))
    (t e : History w) → IsBeside (Beat.A x) cleaning → IsUnderwayIfAny terms cleaning e → AreAlike terms cleaning t e
    → ArePendingAlike terms client t e → IsAnswered t → IsAnswered e
    → broken_in_order_under (granted terms) (Beat.A x) t
    ≡ spared (terms.drops && says_none (Beat.A x)) (broken_in_order p (Beat.A x) e)
unfolding broken_order broken_order_under
order-a {w} terms client p x cleaning t e apart is a pend done done_e =
    rw a.requests (go (is_empty (unfinished Channel.A e)))
  where
    k : ℕ
    k = block_at x.address

    releases : (b : Bool) → is_acquire x.opcode ≡ b
        → (is_acquire x.opcode && (pending (AcquireOf k) t || pending (ReleaseOf k) t))
        ≡ (is_acquire x.opcode && (pending (AcquireOf k) e || pending (ReleaseOf k) e))
    releases true acquires =
        rw (pend.acquires k, done.blocks k, done_e.blocks k, no_release terms x cleaning t e acquires apart is a) refl
    releases false other = rw other refl

    go : (b : Bool)
        → (if b then broken_order_under (granted terms) (Beat.A x) t
        else first_if (breaks_burst (Beat.A x) (unfinished Channel.A e)) S1 None)
        ≡ spared (terms.drops && says_none (Beat.A x)) (if b then broken_order p (Beat.A x) e
        else first_if (breaks_burst (Beat.A x) (unfinished Channel.A e)) S1 None)
    go true = rw (pend.sources x.source, releases (is_acquire x.opcode) refl, a.held k)
        (spare_a (pending (RequestSource x.source) e)
        (is_acquire x.opcode && (pending (AcquireOf k) e || pending (ReleaseOf k) e)) (is_acquire x.opcode)
        (grows_from_none x.param) terms.drops (grows_from x.param (held k e)))
    go false = spare_s (terms.drops && says_none (Beat.A x)) (breaks_burst (Beat.A x) (unfinished Channel.A e))

-- ---- a GrantAck

pub order-e : {w : ℕ} (terms : Terms) (client : ℕ) (p : Profile) (x : BeatE) (cleaning : List (Beat w))
    (t e : History w) → AreAlike terms cleaning t e → ArePendingAlike terms client t e
    → broken_in_order_under (granted terms) (Beat.E x) t
    ≡ spared (terms.drops && says_none {w = w} (Beat.E x)) (broken_in_order p (Beat.E x) e)
unfolding broken_order broken_order_under
order-e {w} terms client p x cleaning t e a pend =
    rw (none-on_e t, none-on_e e, pend.sinks x.sink, a.answers, never terms.drops)
    (sym (spared-never (first_if (not (pending (GrantSink x.sink) e) || comes_in_grant x.sink (unfinished Channel.D e)) H8
    None)))
