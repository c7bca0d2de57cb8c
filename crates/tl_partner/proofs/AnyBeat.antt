-- What the links carried is beside the manager's end, after any beat that is offered.
use Rattle.std.proofs.Common.{◌≡◌, ℕ, zero, suc, Bool, true, false, List, [], refl}
use Rattle.std.proofs.Common.{length, replicate}
use Rattle.std.proofs.lemmas.List.{length-replicate}
use Rattle.std.specs.Prelude.{slice_index_or}
use Rattle.tl_beat.specs.declared.beat.Beat.{Beat}
use Rattle.tl_beat.specs.declared.beat.Link.{Link}
use Rattle.tl_beat.specs.declared.channel.Channel.{Channel}
use Rattle.tl_beat.specs.statement.Width.{IsWidth}
unfoldable use Rattle.tl_burst.specs.statement.Messages.{unfinished}
use Rattle.tl_params.specs.declared.config.Config.{Config}
use Rattle.tl_rules.specs.statement.Conformance.{Trace}
unfoldable use Rattle.tl_rules.specs.statement.Conformance.{on_link}
unfoldable use Rattle.tl_rules.specs.statement.History.{held, request_of}
unfoldable use Rattle.tl_rules.specs.statement.Liberties.{held_under}
use Rattle.tl_manager.specs.code.Kept.{IsKept, IsTyped}
use Rattle.tl_manager.specs.statement.Offer.{Breaks, Judgement, Passes, Waits, judged, open_level}
use Rattle.tl_partner.specs.declared.terms.Terms.{Terms}
use Rattle.tl_partner.specs.laws.Carried.{IsCarried, carried_after}
use Rattle.tl_partner.specs.statement.Cleaning.{PartnerEnd, cleaning_as, cleaning_on}
use Rattle.tl_partner.specs.statement.Cleaning.{offered_cleaning}
use Rattle.tl_partner.specs.statement.Cleaning.{fresh_partner, is_of_cleaning, judged_cleaning}
use Rattle.tl_partner.specs.statement.Granting.{granted}
use Rattle.tl_partner.specs.statement.Partner.{asks_for_cleaned, held_back, held_back_as, offered_under}
use Rattle.tl_partner.proofs.Apart.{beside}
use Rattle.tl_partner.proofs.Offering.{under-cleaning, under-held, under-lenient}
use Rattle.tl_partner.proofs.Stepping.{carried-lenient}
use Rattle.tl_partner.proofs.Underway.{underway-lenient}
unfoldable use Rattle.tl_rules.specs.statement.History.{pending, probe_of}
use Rattle.tl_partner.specs.statement.Cleaning.{refused_on}
use Rattle.tl_partner.proofs.CleanBeats.{clean-passed}
use Rattle.tl_partner.proofs.Lenience.{lenient-after}

-- a refusal changes nothing of it
unmoved : {w : ℕ} (terms : Terms) (config : Config) (t : Trace w) (e f : PartnerEnd w) → f.cleanings ≡ e.cleanings
    → f.manager.trace ≡ e.manager.trace → IsCarried terms config t e → IsCarried terms config t f
unmoved terms config t e f cleanings trace c = record {
  links = rw cleanings c.links;
  alike = rw (cleanings, trace) c.alike;
  underway = rw (cleanings, trace) c.underway;
  pendings = rw trace c.pendings;
  answered = c.answered;
}

clean-offered : {w : ℕ} (terms : Terms) (config : Config) (link : Link) (ch : Channel) (x : Beat w) (t : Trace w)
    (e : PartnerEnd w) → IsWidth w → IsKept config e.manager
    → is_of_cleaning (granted terms) x (cleaning_on link e) ≡ true → IsCarried terms config t e
    → IsCarried terms config (carried_after link x (offered_cleaning (granted terms) config link ch x e).0 t)
    (offered_cleaning (granted terms) config link ch x e).1
clean-offered terms config link ch (Beat.A x) t e width kept of c = absurd cc
clean-offered terms config link ch (Beat.B x) t e width kept of c = absurd cc
clean-offered {w} terms config link ch (Beat.C x) t e width kept of c =
    go (judged_cleaning (granted terms) config (open_level config link e.manager) link ch (Beat.C x)
    (cleaning_on link e) e.manager.trace) refl
  where
    go : (j : Judgement) → judged_cleaning (granted terms) config (open_level config link e.manager) link ch (Beat.C x)
        (cleaning_on link e) e.manager.trace ≡ j
        → IsCarried terms config (carried_after link (Beat.C x) (cleaning_as j config link (Beat.C x) e).0 t)
        (cleaning_as j config link (Beat.C x) e).1
    go (Breaks r) is = unmoved terms config t e (refused_on link e) refl refl c
    go Waits is = c
    go Passes is = clean-passed terms config link ch x t e width kept of is c
clean-offered terms config link ch (Beat.D x) t e width kept of c = absurd cc
clean-offered terms config link ch (Beat.E x) t e width kept of c = absurd cc

-- ---- any beat

pub carried-under : {w : ℕ} (terms : Terms) (config : Config) (link : Link) (ch : Channel) (x : Beat w) (t : Trace w)
    (e : PartnerEnd w) → IsWidth w → IsTyped x → IsKept config e.manager → IsCarried terms config t e
    → IsCarried terms config (carried_after link x (offered_under terms config link ch x e).0 t)
    (offered_under terms config link ch x e).1
carried-under {w} terms config link ch x t e width typed kept c =
    cleans_or (is_of_cleaning (granted terms) x (cleaning_on link e)) refl
  where
    Goal : Type 0
    Goal = IsCarried terms config (carried_after link x (offered_under terms config link ch x e).0 t)
        (offered_under terms config link ch x e).1

    held_or : (j : Judgement)
        → IsCarried terms config (carried_after link x (held_back_as j link e).0 t) (held_back_as j link e).1
    held_or (Breaks r) = unmoved terms config t e (refused_on link e) refl refl c
    held_or Waits = c
    held_or Passes = c

    asks_or : (b : Bool) → asks_for_cleaned x (cleaning_on link e) ≡ b
        → is_of_cleaning (granted terms) x (cleaning_on link e) ≡ false → Goal
    asks_or true asks other = rw (under-held terms config link ch x e other asks)
        (held_or (held_back (judged config link ch x e.manager)))
    asks_or false free other =
        let apart = beside terms x (cleaning_on link e) other free in
        let after = lenient-after e.cleanings terms config link ch x t e.manager width typed kept apart c.alike c.pendings
        c.answered in
        rw (under-lenient terms config link ch x e other free) (record {
          links = c.links;
          alike = carried-lenient e.cleanings terms config link ch x t e.manager width typed kept apart c.alike;
          underway = underway-lenient terms config e.cleanings link ch x e.manager width typed kept apart c.underway;
          pendings = after.0;
          answered = after.1;
        })

    cleans_or : (b : Bool) → is_of_cleaning (granted terms) x (cleaning_on link e) ≡ b → Goal
    cleans_or true of = rw (under-cleaning terms config link ch x e of)
        (clean-offered terms config link ch x t e width kept of c)
    cleans_or false other = asks_or (asks_for_cleaned x (cleaning_on link e)) refl other

-- at first nothing was carried

none_cleaned : {w : ℕ} (n client : ℕ) → slice_index_or (replicate {A = List (Beat w)} n []) client [] ≡ []
none_cleaned zero client = refl
none_cleaned (suc n) zero = refl
none_cleaned (suc n) (suc client) = none_cleaned n client

pub fresh-carried : {w : ℕ} (terms : Terms) (config : Config) → IsCarried {w = w} terms config [] (fresh_partner config)
unfolding unfinished request_of held held_under on_link pending probe_of
fresh-carried {w} terms config = record {
  links = length-replicate (length config.clients.items) [];
  alike = λ client. rw (none_cleaned {w = w} (length config.clients.items) client)
      (record { requests = refl; named = λ s. refl; reports = refl; answers = refl; held = λ k. refl });
  underway = λ client. rw (none_cleaned {w = w} (length config.clients.items) client) tt;
  pendings = λ client. record {
    sources = λ s. refl;
    acquires = λ k. refl;
    sinks = λ s. refl;
    probes = λ k. refl;
    probe = λ k. tt;
    quiet = refl;
    named = refl;
  };
  answered = λ client. record { sources = λ s. refl; blocks = λ k. refl; named = tt };
}
