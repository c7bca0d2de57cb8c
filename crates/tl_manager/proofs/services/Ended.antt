-- The services after messages were handed out.
use Rattle.tl_manager.proofs.Imports.{IsWidth, Beat, Link, Channel, Message, A, B, C, D, E, MessageD, begun, beat_of}
use Rattle.tl_manager.proofs.Imports.{beats_of, unfinished, beats-positive, Config, Trace, on_link, ends, Handed}
use Rattle.tl_manager.proofs.Imports.{with_handed, Each, IsTyped, IsKept, Service, services, is_ended_by, reaction, End}
use Rattle.tl_manager.proofs.Imports.{Judgement, Breaks, Waits, Passes, is_from_client, judged, offered_as, offered}
use Rattle.tl_manager.proofs.Imports.{IsWhole}
use Rattle.std.proofs.Common.{◌≡◌, ℕ, zero, suc, ◌<◌, true, false, not, [], ◌∷◌, ◌++◌, refl, sym, ◌∙◌, ap, arith}
use Rattle.std.{specs.Prelude.map, proofs.lemmas.Bool.eq-eqb}
use Rattle.tl_rules.proofs.Sent.{ends-at, not_last, is_last}
use Rattle.tl_manager.specs.laws.After.{without_answered, without_all, services_left}
use Rattle.tl_manager.{proofs.calls.Reactions.reaction_handable, proofs.judging.Judged.passed}
use Rattle.tl_manager.{proofs.messages.Lawful.IsHandable, proofs.pending.Probes.filter-all}
use Rattle.tl_manager.{proofs.pending.Probes.services-sent_b}
use Rattle.tl_manager.proofs.pending.Handed.{after_sent, beats_on_link, whole-after_sent, whole-taken}

-- ---- beats of channel D

-- the beats of a message on its own link, before and after them
own_beats : {w : ℕ} (link : Link) (m : Message w) (n : ℕ) (t : Trace w)
    → on_link link.0 (map (λ b. (link, b)) (begun m n) ++ t) ≡ begun m n ++ on_link link.0 t
own_beats link m n t = beats_on_link link.0 link (begun m n) t ∙ rw (eq-eqb link.0 link.0 refl) refl

-- a beat that isn't its message's last ends no service
pub services-part : {w : ℕ} (x : Link × Beat w) (t : Trace w) → ends x.1 (on_link x.0.0 t) ≡ false
    → services (x ∷ t) ≡ services t
unfolding services
services-part x t e = rw e refl

services-last_d : {w : ℕ} (link : Link) (m : MessageD w) (i : ℕ) (t : Trace w)
    → ends (beat_of (D m) i) (on_link link.0 t) ≡ true
    → services ((link, beat_of (D m) i) ∷ t) ≡ without_answered (link, D m) (services t)
unfolding services
services-last_d link m i t e = rw e refl

before_last : {w : ℕ} (link : Link) (m : MessageD w) (n : ℕ) (t : Trace w)
    → unfinished Channel.D (on_link link.0 t) ≡ [] → n < beats_of (D m)
    → services (map (λ b. (link, b)) (begun (D m) n) ++ t) ≡ services t
before_last link m zero t none lt = refl
before_last {w} link m (suc n) t none lt =
    services-part (link, beat_of (D m) n) (map (λ b. (link, b)) (begun (D m) n) ++ t)
    (ap (λ h. ends (beat_of (D m) n) h) (own_beats link (D m) n t) ∙ ends-at (D m) (on_link link.0 t) n none
    (omega (arith, lt)) ∙ not_last n (beats_of (D m)) (omega (arith, lt)))
    ∙ before_last link m n t none (omega (arith, lt))

at_last : {w : ℕ} (link : Link) (m : MessageD w) (n : ℕ) (t : Trace w) → unfinished Channel.D (on_link link.0 t) ≡ []
    → 0 < n → n ≡ beats_of (D m)
    → services (map (λ b. (link, b)) (begun (D m) n) ++ t) ≡ without_answered (link, D m) (services t)
at_last link m zero t none pos e = absurd (omega (arith, pos))
at_last {w} link m (suc n) t none pos e =
    services-last_d link m n (map (λ b. (link, b)) (begun (D m) n) ++ t)
    (ap (λ h. ends (beat_of (D m) n) h) (own_beats link (D m) n t) ∙ ends-at (D m) (on_link link.0 t) n none
    (omega (arith, e)) ∙ is_last n (beats_of (D m)) (omega (arith, e)))
    ∙ ap (without_answered (link, D m)) (before_last link m n t none (omega (arith, e)))

-- ---- messages that are handed out

-- the services after one
pub services-sent : {w : ℕ} (link : Link) (m : Message w) (t : Trace w) → IsWidth w
    → is_from_client (beat_of m 0) ≡ false → unfinished Channel.D (on_link link.0 t) ≡ []
    → services (after_sent link m t) ≡ without_answered (link, m) (services t)
services-sent link (A m) t width ours none = absurd cc
services-sent {w} link (B m) t width ours none =
    services-sent_b link m t ∙ sym (filter-all (λ (s : Service w). not (is_ended_by (link, beat_of (B m) 0) s))
    (services t) (λ s. refl))
services-sent link (C m) t width ours none = absurd cc
services-sent link (D m) t width ours none = at_last link m (beats_of (D m)) t none (beats-positive (D m) width) refl
services-sent link (E m) t width ours none = absurd cc

-- and after several
pub services-handed : {w : ℕ} (config : Config) (handed : Handed w) (t : Trace w) → IsWidth w
    → Each (IsHandable config) handed → ((client : ℕ) → IsWhole (on_link client t))
    → services (with_handed handed t) ≡ without_all handed (services t)
unfolding with_handed
services-handed config [] t width each whole = refl
services-handed config (x ∷ handed) t width each whole =
    services-handed config handed (after_sent x.0 x.1 t) width each.1 (λ client. whole-after_sent client x.0 x.1 t width
    each.0.ours (whole client))
    ∙ ap (without_all handed) (services-sent x.0 x.1 t width each.0.ours (whole x.0.0).1)

-- ---- any beat that is offered

services_as : {w : ℕ} (j : Judgement) (config : Config) (link : Link) (ch : Channel) (x : Beat w) (e : End w)
    → IsWidth w → IsTyped x → judged config link ch x e ≡ j → IsKept config e
    → services (offered_as j config link x e).1.trace ≡ services_left (offered_as j config link x e).0 (link, x)
    e.trace
services_as Passes config link ch x e width typed is before =
    let ok = passed config link ch x e typed is in
    services-handed config (reaction config link x e).handed ((link, x) ∷ e.trace) width
    (reaction_handable config link x e width ok.sound before.sound)
    (λ client. whole-taken client link x e.trace ok.theirs (before.whole client))
services_as v config link ch x e width typed is before = refl

pub services-offered : {w : ℕ} (config : Config) (link : Link) (ch : Channel) (x : Beat w) (e : End w) → IsWidth w
    → IsTyped x → IsKept config e
    → services (offered config link ch x e).1.trace ≡ services_left (offered config link ch x e).0 (link, x) e.trace
unfolding offered
services-offered config link ch x e width typed before = services_as (judged config link ch x e) config link ch x e
    width typed refl before
