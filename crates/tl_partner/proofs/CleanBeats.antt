-- What the links carried is beside the manager's end, after a beat of a cleaning.
use Rattle.std.proofs.Common.{◌≡◌, ℕ, ◌<◌, ◌==◌, Bool, true, false, List, [], ◌∷◌, Option, Some, None, refl}
use Rattle.std.proofs.Common.{ap, sym, subst, ◌∙◌, length}
use Rattle.std.proofs.lemmas.Bool.{eq-eqb, eqb-true}
use Rattle.std.proofs.lemmas.List.{get_or-set_other, get_or-set_same, length-set}
use Rattle.std.proofs.lemmas.Option.{slice_get_within}
use Rattle.std.specs.Prelude.{if◌then◌else◌, option_map, slice_get, slice_index_or, slice_set}
use Rattle.tl_beat.specs.declared.beat.Beat.{Beat}
use Rattle.tl_beat.specs.declared.beat.BeatC.{BeatC}
use Rattle.tl_beat.specs.declared.beat.Link.{Link}
use Rattle.tl_beat.specs.declared.channel.Channel.{Channel}
use Rattle.tl_beat.specs.statement.Width.{IsWidth}
unfoldable use Rattle.tl_burst.specs.statement.Messages.{unfinished}
use Rattle.tl_burst.specs.statement.Part.{completes}
use Rattle.tl_params.specs.declared.config.ClientConfig.{ClientConfig}
use Rattle.tl_params.specs.declared.config.Config.{Config}
use Rattle.tl_params.specs.declared.level.Level.{Level}
use Rattle.tl_rules.specs.statement.Conformance.{Trace}
unfoldable use Rattle.tl_rules.specs.statement.Conformance.{on_link}
use Rattle.tl_rules.specs.statement.History.{block_at, is_release, reported}
use Rattle.tl_rules.specs.statement.Legality.{is_one_of}
use Rattle.tl_rules.specs.statement.Liberties.{reports_none}
use Rattle.tl_manager.proofs.calls.Keeping.{kept-offered}
use Rattle.tl_manager.proofs.messages.Sound.{holder_level}
use Rattle.tl_manager.proofs.pending.Handed.{other_link, own_link}
use Rattle.tl_manager.proofs.pending.LinkHistories.{other_beat, own_beat}
use Rattle.tl_manager.specs.code.Kept.{IsKept}
use Rattle.tl_manager.specs.statement.End.{End, with_memory}
use Rattle.tl_manager.specs.statement.Handing.{release_ack}
unfoldable use Rattle.tl_manager.specs.statement.Handing.{with_handed}
use Rattle.tl_manager.specs.statement.Holders.{has_copy, recorded}
use Rattle.tl_manager.specs.statement.Offer.{Passes, level_of, open_level}
use Rattle.tl_manager.specs.statement.Reaction.{written}
use Rattle.tl_partner.specs.declared.terms.Terms.{Terms}
use Rattle.tl_partner.specs.laws.Carried.{AreAlike, IsCarried, IsUnderway, IsUnderwayIfAny, carried_after}
use Rattle.tl_partner.specs.statement.Cleaning.{PartnerEnd, cleaned_by, cleaning_as, cleaning_on}
use Rattle.tl_partner.specs.statement.Cleaning.{cleaning_order}
use Rattle.tl_partner.specs.statement.Cleaning.{forgotten, is_of_cleaning, judged_cleaning, with_cleaning}
use Rattle.tl_partner.specs.statement.Dropping.{after_drop, is_reporting, release_beat}
use Rattle.tl_partner.specs.statement.Granting.{granted}
use Rattle.tl_partner.proofs.Afterward.{reports-drop}
use Rattle.tl_partner.proofs.Carried.{AreAlikeBut, others-drop, own-but}
use Rattle.tl_partner.proofs.Cleaned.{but-same, leaves-none, leaves-same, live-clean, no_copy, part-alike, released}
use Rattle.tl_partner.proofs.Cleaned.{underway-now, whole-alike}
use Rattle.tl_partner.proofs.Drops.{IsDropped, level-open}
use Rattle.tl_partner.proofs.Lenience.{pending-drops}
use Rattle.tl_partner.proofs.Nexts.{begun-c, grows, newest-named}
use Rattle.tl_partner.proofs.Taken.{answered-all}
use Rattle.tl_rules.specs.statement.Admission.{sent}
use Rattle.tl_rules.proofs.Open.{never}
use Rattle.tl_burst.specs.statement.Messages.{History, breaks_burst}
use Rattle.tl_manager.proofs.pending.Handed.{after_sent}
use Rattle.tl_manager.proofs.pending.Releases.{not_last, released as answered-release}
use Rattle.tl_manager.proofs.pending.SteadyReports.{release_kind}
use Rattle.tl_manager.specs.code.Releases.{IsAnswered}
use Rattle.tl_partner.specs.laws.Carried.{ArePendingAlike}
use Rattle.tl_partner.specs.statement.Naming.{is_misnamed}
use Rattle.tl_partner.proofs.Afterward.{ack_of}
use Rattle.tl_partner.proofs.Cleaned.{ends-clean, goes-on}
use Rattle.tl_partner.proofs.Pendings.{pending-ack, pending-cleaning}

-- ---- the cleanings of all links

-- what holds of each link still does, where the cleaning of one is another
pub at_each : {w : ℕ} (P : ℕ → List (Beat w) → Type 0) (cleanings : List (List (Beat w))) (link : Link)
    (cleaning : List (Beat w)) → link.0 < length cleanings → P link.0 cleaning
    → ((client : ℕ) → (link.0 == client) ≡ false → P client (slice_index_or cleanings client []))
    → (client : ℕ) → P client (slice_index_or (slice_set cleanings link.0 cleaning) client [])
at_each {w} P cleanings link cleaning inside own others client = go (link.0 == client) refl
  where
    go : (b : Bool) → (link.0 == client) ≡ b
        → P client (slice_index_or (slice_set cleanings link.0 cleaning) client [])
    go true at =
        subst (λ (n : ℕ). P n (slice_index_or (slice_set cleanings link.0 cleaning) n [])) (eqb-true link.0 client at)
        (subst (P link.0) (sym (get_or-set_same cleanings link.0 cleaning [] inside)) own)
    go false at =
        subst (P client) (sym (get_or-set_other cleanings link.0 client cleaning [] (λ same.
        (let no : (link.0 == client) ≡ true = eq-eqb link.0 client (sym same) in cc))))
        (others client at)

-- a link that takes beats is one of the configuration
pub linked : {w : ℕ} (config : Config) (link : Link) (e : End w) (level : Level)
    → open_level config link e ≡ Some level → link.0 < length config.clients.items
linked {w} config link e level live = go (is_one_of link.0 e.closed) (slice_get config.clients.items link.0) refl live
  where
    go : (closed : Bool) (o : Option ClientConfig) → slice_get config.clients.items link.0 ≡ o
        → (if closed then None else option_map (λ client. client.level) o) ≡ Some level
        → link.0 < length config.clients.items
    go true o same f = absurd cc
    go false None same f = absurd cc
    go false (Some client) same f = slice_get_within config.clients.items link.0 client same

-- ---- a beat with which a cleaning isn't complete

right-name : {w : ℕ} (terms : Terms) (link : Link) (x : BeatC w) → is_release x.opcode ≡ true
    → is_misnamed terms link (Beat.C x) ≡ false
right-name terms link x release = rw (release_kind x.opcode release) (never terms.ids)

silent_c : {w : ℕ} (x : BeatC w) (t : History w) → unfinished Channel.D (Beat.C x ∷ t) ≡ unfinished Channel.D t
unfolding unfinished
silent_c x t = refl

clean-part : {w : ℕ} (terms : Terms) (config : Config) (link : Link) (x : BeatC w) (t : Trace w) (e : PartnerEnd w)
    → link.0 < length e.cleanings → IsUnderway terms x (on_link link.0 e.manager.trace)
    → completes (Beat.C x) (cleaning_on link e) ≡ false
    → breaks_burst (Beat.C x) (unfinished Channel.C (on_link link.0 t)) ≡ false → IsCarried terms config t e
    → IsCarried terms config ((link, Beat.C x) ∷ t)
    (with_cleaning link (Beat.C x ∷ cleaning_on link e) e.manager e)
clean-part {w} terms config link x t e inside is part goes c = record {
  links = length-set e.cleanings link.0 (Beat.C x ∷ cleaning_on link e) ∙ c.links;
  alike = at_each (λ client cleaning. AreAlike terms cleaning (on_link client ((link, Beat.C x) ∷ t))
      (on_link client e.manager.trace)) e.cleanings link (Beat.C x ∷ cleaning_on link e) inside
      (rw (own_beat link.0 link (Beat.C x) t (eq-eqb link.0 link.0 refl))
      (part-alike terms x (cleaning_on link e) (on_link link.0 t) (on_link link.0 e.manager.trace) is part
      (c.alike link.0)))
      (λ client at. rw (other_beat client link (Beat.C x) t at) (c.alike client));
  underway = at_each (λ client cleaning. IsUnderwayIfAny terms cleaning (on_link client e.manager.trace)) e.cleanings
      link (Beat.C x ∷ cleaning_on link e) inside is (λ client at. c.underway client);
  pendings = λ client. pend client (link.0 == client) refl;
  answered = answered-all link (Beat.C x) t
      (not_last x own (begun-c x own (c.answered link.0) goes) (grows x own false (ends-clean terms x (cleaning_on link e) own
      (on_link link.0 e.manager.trace) false part (c.alike link.0) is.alone))) c.answered;
}
  where
    own : History w
    own = on_link link.0 t

    release : is_release x.opcode ≡ true
    release = (released terms x is.cleans).1

    pend : (client : ℕ) (b : Bool) → (link.0 == client) ≡ b
        → ArePendingAlike terms client (on_link client ((link, Beat.C x) ∷ t)) (on_link client e.manager.trace)
    pend client true at = subst (λ (n : ℕ). ArePendingAlike terms n (on_link n ((link, Beat.C x) ∷ t))
        (on_link n e.manager.trace)) (eqb-true link.0 client at)
        (rw (own_beat link.0 link (Beat.C x) t (eq-eqb link.0 link.0 refl))
        (pending-cleaning terms link.0 x own (on_link link.0 e.manager.trace) release
        (newest-named terms link x own (right-name terms link x release)) (c.pendings link.0)))
    pend client false at = rw (other_beat client link (Beat.C x) t at) (c.pendings client)

-- ---- a beat with which it is

-- this manager's end is one after a cleaning with this newest beat
record IsLeft {w : ℕ} (terms : Terms) (link : Link) (x : BeatC w) (t : Trace w) (e : PartnerEnd w) (after : End w)
    : Type 0 where
  own : AreAlikeBut terms (cleaning_on link e) (block_at x.address) (reported x.param) (on_link link.0 t)
      (on_link link.0 after.trace)
  alone : unfinished Channel.C (on_link link.0 after.trace) ≡ []
  none : unfinished Channel.D (on_link link.0 after.trace) ≡ []
  others : (client : ℕ) → (link.0 == client) ≡ false → on_link client after.trace ≡ on_link client e.manager.trace
  pendings : ArePendingAlike terms link.0 (on_link link.0 t) (on_link link.0 after.trace)

clean-whole : {w : ℕ} (terms : Terms) (config : Config) (link : Link) (x : BeatC w) (t : Trace w) (e : PartnerEnd w)
    (after : End w) → IsWidth w → link.0 < length e.cleanings → is_release x.opcode ≡ true
    → completes (Beat.C x) (cleaning_on link e) ≡ true → unfinished Channel.C (on_link link.0 e.manager.trace) ≡ []
    → breaks_burst (Beat.C x) (unfinished Channel.C (on_link link.0 t)) ≡ false
    → IsLeft terms link x t e after → IsCarried terms config t e
    → IsCarried terms config (with_handed ((link, release_ack x.source) ∷ []) ((link, Beat.C x) ∷ t))
    (with_cleaning link [] after e)
unfolding with_handed
clean-whole {w} terms config link x t e after width inside release last alone goes is c = record {
  links = length-set e.cleanings link.0 [] ∙ c.links;
  alike = at_each (λ client cleaning. AreAlike terms cleaning (on_link client after_it)
      (on_link client after.trace)) e.cleanings link [] inside
      (rw own_is (whole-alike terms x (cleaning_on link e) own (on_link link.0 after.trace) release last is.alone
      is.none is.own))
      (λ client at. rw (other_is client at, is.others client at) (c.alike client));
  underway = at_each (λ client cleaning. IsUnderwayIfAny terms cleaning (on_link client after.trace)) e.cleanings link []
      inside tt (λ client at. rw (is.others client at) (c.underway client));
  pendings = λ client. pend client (link.0 == client) refl;
  answered = λ client. answer client (link.0 == client) refl;
}
  where
    own : History w
    own = on_link link.0 t

    after_it : Trace w
    after_it = after_sent link (release_ack x.source) ((link, Beat.C x) ∷ t)

    own_is : on_link link.0 after_it ≡ sent (release_ack x.source) (Beat.C x ∷ own)
    own_is = own_link link.0 link (release_ack x.source) ((link, Beat.C x) ∷ t) (eq-eqb link.0 link.0 refl)
        ∙ ap (sent (release_ack x.source)) (own_beat link.0 link (Beat.C x) t (eq-eqb link.0 link.0 refl))

    other_is : (client : ℕ) → (link.0 == client) ≡ false → on_link client after_it ≡ on_link client t
    other_is client at = other_link client link (release_ack x.source) ((link, Beat.C x) ∷ t) at
        ∙ other_beat client link (Beat.C x) t at

    silent : unfinished Channel.D (Beat.C x ∷ own) ≡ []
    silent = silent_c x own ∙ is.own.answers ∙ is.none

    pend : (client : ℕ) (b : Bool) → (link.0 == client) ≡ b
        → ArePendingAlike terms client (on_link client after_it) (on_link client after.trace)
    pend client true at = subst (λ (n : ℕ). ArePendingAlike terms n (on_link n after_it) (on_link n after.trace))
        (eqb-true link.0 client at)
        (rw own_is (pending-ack terms link.0 x.source (Beat.C x ∷ own) (on_link link.0 after.trace) width silent
        (pending-cleaning terms link.0 x own (on_link link.0 after.trace) release
        (newest-named terms link x own (right-name terms link x release)) is.pendings)))
    pend client false at = rw (other_is client at, is.others client at) (c.pendings client)

    here : IsAnswered (sent (release_ack x.source) (Beat.C x ∷ own))
    here = answered-release x (ack_of x.source) own width (begun-c x own (c.answered link.0) goes) release
        (grows x own true (ends-clean terms x (cleaning_on link e) own (on_link link.0 e.manager.trace) true last
        (c.alike link.0) alone)) silent refl refl

    answer : (client : ℕ) (b : Bool) → (link.0 == client) ≡ b → IsAnswered (on_link client after_it)
    answer client true at = subst (λ (n : ℕ). IsAnswered (on_link n after_it)) (eqb-true link.0 client at)
        (rw own_is here)
    answer client false at = rw (other_is client at) (c.answered client)

-- what a cleaning leaves whose report isn't NtoN
left-kept : {w : ℕ} (terms : Terms) (config : Config) (link : Link) (x : BeatC w) (beats : List (Beat w)) (t : Trace w)
    (e : PartnerEnd w) → IsKept config e.manager → IsUnderway terms x (on_link link.0 e.manager.trace)
    → reports_none x.param ≡ false → IsCarried terms config t e
    → IsLeft terms link x t e (with_memory (written x beats e.manager.memory) e.manager)
left-kept {w} terms config link x beats t e kept is some c = record {
  own = but-same terms (cleaning_on link e) (block_at x.address) (reported x.param) (on_link link.0 t)
      (on_link link.0 e.manager.trace) (c.alike link.0) (leaves-same terms x (on_link link.0 e.manager.trace) is some);
  alone = is.alone;
  none = (kept.whole link.0).1;
  others = λ client at. refl;
  pendings = c.pendings link.0;
}

-- and one with NtoN, by whether there was a copy
left-none : {w : ℕ} (terms : Terms) (config : Config) (link : Link) (x : BeatC w) (t : Trace w)
    (e : PartnerEnd w) (level : Level) → IsWidth w → IsKept config e.manager
    → IsUnderway terms x (on_link link.0 e.manager.trace) → reports_none x.param ≡ true
    → open_level config link e.manager ≡ Some level → IsCarried terms config t e
    → IsLeft terms link x t e (forgotten config link (block_at x.address) e.manager)
left-none {w} terms config link x t e level width kept is none live c =
    go (has_copy (recorded link.0 k e.manager.trace)) refl
  where
    k : ℕ
    k = block_at x.address

    free : is_reporting link e.manager.trace ≡ false
    free = rw is.alone refl

    forgets : has_copy (recorded link.0 k e.manager.trace) ≡ true
        → IsLeft terms link x t e (after_drop config link k e.manager)
    forgets copy =
        let dropped : IsDropped config link k e.manager = record {
          live = level-open (is_one_of link.0 e.manager.closed) (level_of config link.0) level live
              (holder_level config link.0 k e.manager.trace kept.sound copy);
          copy = copy;
          free = is.free;
        } in
        let after = kept-offered config link Channel.C (release_beat k (recorded link.0 k e.manager.trace)) e.manager
        width tt kept in
        record {
          own = subst (λ p. AreAlikeBut terms (cleaning_on link e) k p (on_link link.0 t)
              (on_link link.0 (after_drop config link k e.manager).trace)) (sym (leaves-none x.param none))
              (own-but terms config link k (on_link link.0 t) e.manager width kept dropped free (c.alike link.0));
          alone = reports-drop config link k e.manager kept dropped free;
          none = (after.whole link.0).1;
          others = λ client at. others-drop config link k e.manager client kept dropped free at;
          pendings = pending-drops terms config link k (on_link link.0 t) e.manager width kept dropped free
              (c.pendings link.0);
        }

    go : (b : Bool) → has_copy (recorded link.0 k e.manager.trace) ≡ b
        → IsLeft terms link x t e (if b then after_drop config link k e.manager else e.manager)
    go true copy = forgets copy
    go false copy = record {
      own = but-same terms (cleaning_on link e) k (reported x.param) (on_link link.0 t)
          (on_link link.0 e.manager.trace) (c.alike link.0)
          (no_copy (recorded link.0 k e.manager.trace) copy ∙ sym (leaves-none x.param none));
      alone = is.alone;
      none = (kept.whole link.0).1;
      others = λ client at. refl;
      pendings = c.pendings link.0;
    }

left : {w : ℕ} (terms : Terms) (config : Config) (link : Link) (x : BeatC w) (beats : List (Beat w)) (t : Trace w)
    (e : PartnerEnd w) (level : Level) → IsWidth w → IsKept config e.manager
    → IsUnderway terms x (on_link link.0 e.manager.trace) → open_level config link e.manager ≡ Some level
    → IsCarried terms config t e → IsLeft terms link x t e (cleaned_by config link x beats e.manager)
left {w} terms config link x beats t e level width kept is live c = go (reports_none x.param) refl
  where
    go : (b : Bool) → reports_none x.param ≡ b
        → IsLeft terms link x t e (if b then forgotten config link (block_at x.address) e.manager else
        with_memory (written x beats e.manager.memory) e.manager)
    go true none = left-none terms config link x t e level width kept is none live c
    go false some = left-kept terms config link x beats t e kept is some c

-- ---- any beat of a cleaning

pub clean-passed : {w : ℕ} (terms : Terms) (config : Config) (link : Link) (ch : Channel) (x : BeatC w) (t : Trace w)
    (e : PartnerEnd w) → IsWidth w → IsKept config e.manager
    → is_of_cleaning (granted terms) (Beat.C x) (cleaning_on link e) ≡ true
    → judged_cleaning (granted terms) config (open_level config link e.manager) link ch (Beat.C x) (cleaning_on link e)
    e.manager.trace ≡ Passes
    → IsCarried terms config t e
    → IsCarried terms config (carried_after link (Beat.C x) (cleaning_as Passes config link (Beat.C x) e).0 t)
    (cleaning_as Passes config link (Beat.C x) e).1
unfolding with_handed
clean-passed {w} terms config link ch x t e width kept of passes c =
    go (completes (Beat.C x) (cleaning_on link e)) refl
  where
    live : (level : Level) × (open_level config link e.manager ≡ Some level)
        × (cleaning_order (granted terms) link (Beat.C x) (cleaning_on link e) e.manager.trace ≡ None)
    live = live-clean (granted terms) config (open_level config link e.manager) link ch (Beat.C x) (cleaning_on link e)
        e.manager.trace passes

    inside : link.0 < length e.cleanings
    inside = rw c.links (linked config link e.manager live.0 live.1)

    is : IsUnderway terms x (on_link link.0 e.manager.trace)
    is = underway-now terms link x (cleaning_on link e) e.manager of live.2 (c.underway link.0)

    goes : breaks_burst (Beat.C x) (unfinished Channel.C (on_link link.0 t)) ≡ false
    goes = goes-on terms link x (cleaning_on link e) (on_link link.0 t) e.manager live.2 (c.alike link.0) is
        (c.underway link.0)

    go : (b : Bool) → completes (Beat.C x) (cleaning_on link e) ≡ b
        → IsCarried terms config (carried_after link (Beat.C x) (cleaning_as Passes config link (Beat.C x) e).0 t)
        (cleaning_as Passes config link (Beat.C x) e).1
    go true last = rw last (clean-whole terms config link x t e
        (cleaned_by config link x (Beat.C x ∷ cleaning_on link e) e.manager) width inside
        (released terms x is.cleans).1 last is.alone goes
        (left terms config link x (Beat.C x ∷ cleaning_on link e) t e live.0 width kept is live.1 c) c)
    go false part = rw part (clean-part terms config link x t e inside is part goes c)
