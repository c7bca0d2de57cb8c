-- What a port tells of a beat, by what its manager answers; and a manager by itself, as one that grants no liberty.
use Rattle.std.proofs.Common.{◌≡◌, ℕ, List, [], length, inl, inr, ap, sym, ◌∙◌, subst}
use Rattle.std.proofs.lemmas.Bool.{cases_lt}
use Rattle.std.proofs.lemmas.List.{get_or-replicate, get_or_past, length-replicate}
use Rattle.std.specs.Prelude.{Result, replicate, slice_index_or}
use Rattle.tl_beat.specs.declared.beat.Beat.{Beat}
use Rattle.tl_beat.specs.declared.beat.Link.{Link}
use Rattle.tl_beat.specs.declared.channel.Channel.{Channel}
use Rattle.tl_params.specs.declared.config.Config.{Config}
use Rattle.tl_params.specs.declared.rule.Rule.{Rule}
use Rattle.tl_manager.specs.code.Answers.{IsAnswer, answer_of}
use Rattle.tl_manager.specs.declared.manager.Taken.{Taken}
use Rattle.tl_manager.specs.declared.manager.admission.Admission.{Admission}
use Rattle.tl_manager.specs.statement.End.{End}
use Rattle.tl_manager.specs.statement.Offer.{Reception, offered, stalls}
use Rattle.tl_partner.proofs.Without.{offered-none, stalls-none}
use Rattle.tl_partner.specs.declared.terms.Terms.{Terms}
use Rattle.tl_partner.specs.laws.Without.{GrantsNone}
use Rattle.tl_partner.specs.statement.Cleaning.{PartnerEnd, cleaning_on}
use Rattle.tl_partner.specs.statement.Partner.{offered_under, stalls_under}
use Rattle.tl_ports.specs.declared.manager.ManagerPort.{ManagerPort}
use Rattle.tl_ports.specs.statement.Manager.{HandedOutAll, IsAnswered, IsAnsweredUnder, KnowsEndUnder, KnowsPort, admission_in}
use Rattle.tl_ports.specs.statement.Manager.{alone, handed_in}

-- ---- a manager by itself

idle_at : {X : Type 0} (n i : ℕ) → slice_index_or (replicate {A = List X} n []) i [] ≡ []
idle_at {X} n i = elim (cases_lt i n) [
  | inl lt ↦ get_or-replicate {A = List X} n i [] [] lt
  | inr le ↦ get_or_past {X = List X} (replicate n []) i [] (rw (length-replicate {A = List X} n []) le)
]

idle : {w : ℕ} (config : Config) (link : Link) (e : End w) → cleaning_on link (alone config e) ≡ []
idle {w} config link e = idle_at {X = Beat w} (length config.clients.items) link.0

answered_alone : {w : ℕ} (terms : Terms) (config : Config) (link : Link) (ch : Channel) (x : Beat w) (e : End w)
    → GrantsNone terms
    → offered_under terms config link ch x (alone config e)
    ≡ ((offered config link ch x e).0, alone config (offered config link ch x e).1)
answered_alone terms config link ch x e none = offered-none terms config link ch x (alone config e) none (idle config link e)

pub stalls_alone : {w : ℕ} (terms : Terms) (config : Config) (link : Link) (ch : Channel) (x : Beat w) (e : End w)
    → GrantsNone terms → stalls_under terms config link ch x (alone config e) ≡ stalls config link ch x e
stalls_alone terms config link ch x e none = stalls-none terms config link ch x (alone config e) none (idle config link e)

-- ---- what is told

-- by the manager's answer
record IsTold {w : ℕ} (old new : ManagerPort w) (terms : Terms) (config : Config) (told : Result Admission Rule)
    (r : Reception w × PartnerEnd w) : Type 0 where
  pub answers : told ≡ admission_in r.0
  pub handed : HandedOutAll (handed_in r.0) old new
  pub knows : KnowsEndUnder new terms config r.1

pub told_by : {w : ℕ} (old new : ManagerPort w) (link : Link) (ch : Channel) (x : Beat w)
    (answer : Result (Taken w) Rule) (told : Result Admission Rule)
    → told ≡ admission_in (answer_of answer) → HandedOutAll (handed_in (answer_of answer)) old new
    → ((config : Config) (e : PartnerEnd w) → KnowsPort old config e
    → IsAnswer answer (offered_under old.partner.lenient.terms config link ch x e).0)
    → ((config : Config) (e : PartnerEnd w) → KnowsPort old config e
    → KnowsPort new config (offered_under old.partner.lenient.terms config link ch x e).1)
    → new.partner.lenient.terms ≡ old.partner.lenient.terms
    → IsAnswered old new link ch x told × IsAnsweredUnder old new link ch x told
told_by {w} old new link ch x answer told is handed answers after same = (
  λ config e k.
      let own = rw (answered_alone old.partner.lenient.terms config link ch x e k.0) at
      (of_own config (alone config e) k.1) in
      (own.answers, own.handed, (subst GrantsNone (sym same) k.0, own.knows.1)),
  λ terms config e k. let under = of_terms terms config e k.0 k.1 in (under.answers, under.handed, under.knows),
)
  where
    of_own : (config : Config) (e : PartnerEnd w) → KnowsPort old config e
        → IsTold old new old.partner.lenient.terms config told (offered_under old.partner.lenient.terms config link ch x e)
    of_own config e k = record {
      answers = is ∙ ap admission_in (answers config e k);
      handed = subst (λ (r : Reception w). HandedOutAll (handed_in r) old new) (answers config e k) handed;
      knows = (same, after config e k);
    }

    of_terms : (terms : Terms) (config : Config) (e : PartnerEnd w) → old.partner.lenient.terms ≡ terms
        → KnowsPort old config e → IsTold old new terms config told (offered_under terms config link ch x e)
    of_terms terms config e are k =
        subst (λ (t : Terms). IsTold old new t config told (offered_under t config link ch x e)) are (of_own config e k)
