-- What holds of a manager's end still does after any beat of a client that has liberties.
use Rattle.std.proofs.Common.{◌≡◌, ℕ, Bool, true, false, ◌∷◌, refl}
use Rattle.std.specs.Prelude.{if◌then◌else◌}
use Rattle.tl_beat.specs.declared.beat.Beat.{Beat}
use Rattle.tl_beat.specs.declared.beat.Link.{Link}
use Rattle.tl_beat.specs.declared.channel.Channel.{Channel}
use Rattle.tl_beat.specs.statement.Width.{IsWidth}
use Rattle.tl_burst.specs.statement.Part.{completes}
use Rattle.tl_params.specs.declared.config.Config.{Config}
use Rattle.tl_rules.specs.statement.History.{block_at}
use Rattle.tl_rules.specs.statement.Liberties.{reports_none}
use Rattle.tl_manager.proofs.calls.Keeping.{kept-offered}
use Rattle.tl_manager.specs.code.Kept.{IsKept, IsTyped}
use Rattle.tl_manager.specs.statement.End.{End, with_memory}
use Rattle.tl_manager.specs.statement.Holders.{has_copy, recorded}
use Rattle.tl_manager.specs.statement.Offer.{Breaks, Judgement, Passes, Waits, judged, open_level, refused}
use Rattle.tl_manager.specs.statement.Reaction.{written}
use Rattle.tl_partner.specs.declared.terms.Terms.{Terms}
use Rattle.tl_partner.specs.statement.Cleaning.{PartnerEnd, cleaned, cleaning_as, cleaning_on, forgotten}
use Rattle.tl_partner.specs.statement.Cleaning.{is_of_cleaning, judged_cleaning}
use Rattle.tl_partner.specs.statement.Dropping.{after_drop, block_of, is_drop, is_reporting, release_beat}
use Rattle.tl_partner.specs.statement.Granting.{granted}
use Rattle.tl_partner.specs.statement.Lenient.{offered_lenient, offered_plain}
use Rattle.tl_partner.specs.statement.Naming.{is_misnamed, plain}
use Rattle.tl_partner.specs.statement.Partner.{asks_for_cleaned, held_back, held_back_as, offered_under}
use Rattle.tl_partner.proofs.Apart.{typed_plain}
use Rattle.tl_partner.proofs.Leniently.{offered-misnamed, offered-named, plain-dropped, plain-kept, plain-waits}
use Rattle.tl_partner.proofs.Offering.{under-cleaning, under-held, under-lenient}

-- it is of the trace alone
kept_with : {w : ℕ} (config : Config) (e f : End w) → f.trace ≡ e.trace → IsKept config e → IsKept config f
kept_with config e f same kept = record {
  sound = rw same kept.sound;
  whole = rw same kept.whole;
  bursts = rw same kept.bursts;
  requests = rw same kept.requests;
  tracked = rw same kept.tracked;
  trackers_apart = rw same kept.trackers_apart;
  blocks_apart = rw same kept.blocks_apart;
  sinks = rw same kept.sinks;
  releases = rw same kept.releases;
  few = rw same kept.few;
  steady = rw same kept.steady;
}

kept-drop : {w : ℕ} (config : Config) (link : Link) (k : ℕ) (e : End w) → IsWidth w → IsKept config e
    → IsKept config (after_drop config link k e)
kept-drop config link k e width kept =
    kept-offered config link Channel.C (release_beat k (recorded link.0 k e.trace)) e width tt kept

kept-lenient : {w : ℕ} (terms : Terms) (config : Config) (link : Link) (ch : Channel) (x : Beat w) (e : End w)
    → IsWidth w → IsTyped x → IsKept config e → IsKept config (offered_lenient terms config link ch x e).1
kept-lenient {w} terms config link ch x e width typed kept = go (is_misnamed terms link x) refl
  where
    y : Beat w
    y = plain terms x

    typed_y : IsTyped y
    typed_y = typed_plain terms x typed

    busy_or : (b : Bool) → is_reporting link e.trace ≡ b → is_drop terms config link ch y e ≡ true
        → IsKept config (offered_plain terms config link ch y e).1
    busy_or true busy is = rw (plain-waits terms config link ch y e is busy) kept
    busy_or false free is = rw (plain-dropped terms config link ch y e is free)
        (kept-offered config link ch y (after_drop config link (block_of y) e) width typed_y
        (kept-drop config link (block_of y) e width kept))

    drop_or : (b : Bool) → is_drop terms config link ch y e ≡ b
        → IsKept config (offered_plain terms config link ch y e).1
    drop_or true is = busy_or (is_reporting link e.trace) refl is
    drop_or false is = rw (plain-kept terms config link ch y e is) (kept-offered config link ch y e width typed_y kept)

    go : (b : Bool) → is_misnamed terms link x ≡ b → IsKept config (offered_lenient terms config link ch x e).1
    go true is = rw (offered-misnamed terms config link ch x e is) (kept_with config e (refused link e) refl kept)
    go false is = rw (offered-named terms config link ch x e is) (drop_or (is_drop terms config link ch y e) refl)

kept-cleaned : {w : ℕ} (config : Config) (link : Link) (x : Beat w) (e : PartnerEnd w) → IsWidth w
    → IsKept config e.manager → IsKept config (cleaned config link x (x ∷ cleaning_on link e) e.manager)
kept-cleaned {w} config link (Beat.C x) e width kept = go (reports_none x.param)
  where
    k : ℕ
    k = block_at x.address

    forgets : (b : Bool) → IsKept config (if b then after_drop config link k e.manager else e.manager)
    forgets true = kept-drop config link k e.manager width kept
    forgets false = kept

    go : (b : Bool) → IsKept config (if b then forgotten config link k e.manager else
        with_memory (written x (Beat.C x ∷ cleaning_on link e) e.manager.memory) e.manager)
    go true = forgets (has_copy (recorded link.0 k e.manager.trace))
    go false = kept_with config e.manager _ refl kept
kept-cleaned config link v e width kept = kept

kept-as : {w : ℕ} (j : Judgement) (config : Config) (link : Link) (x : Beat w) (e : PartnerEnd w) → IsWidth w
    → IsKept config e.manager → IsKept config (cleaning_as j config link x e).1.manager
kept-as (Breaks r) config link x e width kept = kept_with config e.manager (refused link e.manager) refl kept
kept-as Waits config link x e width kept = kept
kept-as {w} Passes config link x e width kept = go (completes x (cleaning_on link e)) refl
  where
    go : (b : Bool) → completes x (cleaning_on link e) ≡ b → IsKept config (cleaning_as Passes config link x e).1.manager
    go true last = rw last (kept-cleaned config link x e width kept)
    go false part = rw part kept

pub kept-under : {w : ℕ} (terms : Terms) (config : Config) (link : Link) (ch : Channel) (x : Beat w) (e : PartnerEnd w)
    → IsWidth w → IsTyped x → IsKept config e.manager
    → IsKept config (offered_under terms config link ch x e).1.manager
kept-under {w} terms config link ch x e width typed kept =
    cleans_or (is_of_cleaning (granted terms) x (cleaning_on link e)) refl
  where
    held_or : (j : Judgement) → IsKept config (held_back_as j link e).1.manager
    held_or (Breaks r) = kept_with config e.manager (refused link e.manager) refl kept
    held_or Waits = kept
    held_or Passes = kept

    asks_or : (b : Bool) → asks_for_cleaned x (cleaning_on link e) ≡ b
        → is_of_cleaning (granted terms) x (cleaning_on link e) ≡ false
        → IsKept config (offered_under terms config link ch x e).1.manager
    asks_or true asks other = rw (under-held terms config link ch x e other asks)
        (held_or (held_back (judged config link ch x e.manager)))
    asks_or false free other = rw (under-lenient terms config link ch x e other free)
        (kept-lenient terms config link ch x e.manager width typed kept)

    cleans_or : (b : Bool) → is_of_cleaning (granted terms) x (cleaning_on link e) ≡ b
        → IsKept config (offered_under terms config link ch x e).1.manager
    cleans_or true of = rw (under-cleaning terms config link ch x e of)
        (kept-as (judged_cleaning (granted terms) config (open_level config link e.manager) link ch x
        (cleaning_on link e) e.manager.trace) config link x e width kept)
    cleans_or false other = asks_or (asks_for_cleaned x (cleaning_on link e)) refl other
