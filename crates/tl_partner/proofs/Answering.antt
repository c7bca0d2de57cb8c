-- What is pending by the beats that links carried, and by the manager's histories, after any beat of a client.
use Rattle.std.proofs.Common.{◌≡◌, ℕ, ◌==◌, Bool, true, false, List, [], ◌∷◌}
use Rattle.std.proofs.Common.{refl, ap, sym, subst, ◌∙◌}
use Rattle.std.proofs.lemmas.Bool.{eqb-true}
use Rattle.std.specs.Prelude.{if◌then◌else◌}
use Rattle.tl_beat.specs.declared.beat.Beat.{Beat}
use Rattle.tl_beat.specs.declared.beat.BeatC.{BeatC}
use Rattle.tl_beat.specs.declared.beat.Link.{Link}
use Rattle.tl_beat.specs.statement.Width.{IsWidth}
use Rattle.tl_burst.specs.declared.message.Message.{Message}
use Rattle.tl_burst.specs.statement.Burst.{beat_of}
use Rattle.tl_burst.specs.statement.Messages.{History}
use Rattle.tl_params.specs.declared.config.Config.{Config}
use Rattle.tl_rules.specs.statement.Admission.{sent}
use Rattle.tl_rules.specs.statement.Conformance.{Trace, on_link}
use Rattle.tl_rules.specs.statement.Effect.{answer_of}
unfoldable use Rattle.tl_rules.specs.statement.Effect.{effect}
use Rattle.tl_rules.specs.statement.History.{is_acquire, is_release}
use Rattle.tl_manager.proofs.messages.Lawful.{IsHandable}
use Rattle.tl_manager.proofs.pending.Handed.{after_sent, other_link, own_link, whole-after_sent}
use Rattle.tl_manager.proofs.pending.Performed.{answer_is, grant_is}
use Rattle.tl_manager.proofs.pending.Releases.{IsNoAck, answered-b, answered-d}
use Rattle.tl_manager.specs.code.Kept.{Each}
use Rattle.tl_manager.specs.code.Ready.{IsWhole}
use Rattle.tl_manager.specs.code.Releases.{IsAnswered}
use Rattle.tl_manager.specs.statement.End.{End}
use Rattle.tl_manager.specs.statement.Handing.{Handed, Reaction, access_answer, grant, probes}
unfoldable use Rattle.tl_manager.specs.statement.Handing.{with_handed}
use Rattle.tl_manager.specs.statement.Offer.{is_from_client}
use Rattle.tl_manager.specs.statement.Reaction.{reaction}
use Rattle.tl_partner.specs.declared.terms.Terms.{Terms}
use Rattle.tl_partner.specs.laws.Carried.{AreAllAlike, AreAllPendingAlike, AreAlike, ArePendingAlike}
use Rattle.tl_partner.specs.statement.Naming.{all_named, named, probe_source, with_source}
use Rattle.tl_partner.proofs.Carrying.{one-sent}
use Rattle.tl_partner.proofs.Handings.{Acks, Gives, Nothing, Performs, Probing}
use Rattle.tl_partner.proofs.Pendings.{pending-b, pending-d}

-- ---- messages that are handed out, none of which answers a Release

pub no_acks : {w : ℕ} (config : Config) (link : Link) (x : Beat w) (e : End w)
    → ((y : BeatC w) → x ≡ Beat.C y → is_release y.opcode ≡ false) → Gives config link x e
    → Each (λ h. IsNoAck h.1) (reaction config link x e).handed
no_acks {w} config link x e other (Nothing h) = rw h tt
no_acks {w} config link x e other (Performs n s memory ready h) = rw h (go (is_acquire s.request.opcode))
  where
    u : Trace w
    u = (link, x) ∷ e.trace

    reaction_by : Bool → Reaction w
    reaction_by b = if b
        then record { handed = (s.link, grant config s u memory) ∷ []; memory = memory }
        else record {
          handed = (
            s.link,
            access_answer s.request
                (answer_of (Message.A s.request) (effect (Message.A s.request) memory).1),
          ) ∷ [];
          memory = (effect (Message.A s.request) memory).0;
        }

    go : (b : Bool) → Each (λ h. IsNoAck h.1) (reaction_by b).handed
    go true = let m = grant_is config s u memory in (subst IsNoAck (sym m.1) m.3, tt)
    go false =
        let m = answer_is s.request (answer_of (Message.A s.request) (effect (Message.A s.request) memory).1) in
        (subst IsNoAck (sym m.1) m.3, tt)
no_acks {w} config link x e other (Probing n c clients h) = rw h (all clients)
  where
    all : (clients : List ℕ) → Each (λ (h : Link × Message w). IsNoAck h.1) (probes n c clients)
    all [] = tt
    all (client ∷ clients) = (tt, all clients)
no_acks {w} config link x e other (Acks y same release h) = absurd (let no-such = other y same in cc)

-- ---- what the links carried beside the manager's histories

pub record AreBeside {w : ℕ} (terms : Terms) (cleanings : List (List (Beat w))) (t e : Trace w) : Type 0 where
  pub alike : AreAllAlike terms cleanings t e
  pub pendings : AreAllPendingAlike terms t e
  pub answered : (client : ℕ) → IsAnswered (on_link client t)
  pub whole : (client : ℕ) → IsWhole (on_link client e)

sent-pending : {w : ℕ} {cleaning : List (Beat w)} (terms : Terms) (link : Link) (client : ℕ) (m : Message w)
    (t e : History w) → IsWidth w → is_from_client (beat_of m 0) ≡ false → (link.0 == client) ≡ true → IsWhole e
    → AreAlike terms cleaning t e → ArePendingAlike terms client t e
    → ArePendingAlike terms client (sent (named terms link m) t) (sent m e)
sent-pending {w} terms link client (Message.B m) t e width ours at whole a pend = go terms.ids refl
  where
    go : (b : Bool) → terms.ids ≡ b → ArePendingAlike terms client (sent (if b then
        Message.B (with_source (probe_source terms link.0) m) else Message.B m) t) (sent (Message.B m) e)
    go true is = pending-b terms client (with_source (probe_source terms link.0) m) m t e width whole.0 refl refl refl
        (λ ids. ap (probe_source terms) (eqb-true link.0 client at)) pend
    go false is = pending-b terms client m m t e width whole.0 refl refl refl
        (λ ids. absurd (let no-such = rw is at ids in cc)) pend
sent-pending terms link client (Message.D m) t e width ours at whole a pend =
    pending-d terms client m t e width (a.answers ∙ whole.1) whole.1 a.named pend
sent-pending terms link client v t e width ours at whole a pend = absurd cc

sent-answered : {w : ℕ} {cleaning : List (Beat w)} (terms : Terms) (link : Link) (client : ℕ) (m : Message w)
    (t e : History w) → IsWidth w → is_from_client (beat_of m 0) ≡ false → IsNoAck m → IsWhole e
    → AreAlike terms cleaning t e → ArePendingAlike terms client t e → IsAnswered t
    → IsAnswered (sent (named terms link m) t)
sent-answered {w} terms link client (Message.B m) t e width ours none whole a pend done = go terms.ids
  where
    go : (b : Bool) → IsAnswered (sent (if b then Message.B (with_source (probe_source terms link.0) m) else
        Message.B m) t)
    go true = answered-b (with_source (probe_source terms link.0) m) t width pend.quiet done
    go false = answered-b m t width pend.quiet done
sent-answered terms link client (Message.D m) t e width ours none whole a pend done =
    answered-d m t width (a.answers ∙ whole.1) none done
sent-answered terms link client v t e width ours none whole a pend done = absurd cc

pub one-pending : {w : ℕ} (cleanings : List (List (Beat w))) (terms : Terms) (link : Link) (m : Message w) (t e : Trace w)
    → IsWidth w → is_from_client (beat_of m 0) ≡ false → ((client : ℕ) → IsWhole (on_link client e))
    → AreAllAlike terms cleanings t e → AreAllPendingAlike terms t e
    → AreAllPendingAlike terms (after_sent link (named terms link m) t) (after_sent link m e)
one-pending {w} cleanings terms link m t e width ours whole alike pendings = λ client. go client (link.0 == client) refl
  where
    go : (client : ℕ) (b : Bool) → (link.0 == client) ≡ b
        → ArePendingAlike terms client (on_link client (after_sent link (named terms link m) t))
        (on_link client (after_sent link m e))
    go client true at = rw (own_link client link (named terms link m) t at, own_link client link m e at)
        (sent-pending terms link client m (on_link client t) (on_link client e) width ours at (whole client)
        (alike client) (pendings client))
    go client false at = rw (other_link client link (named terms link m) t at, other_link client link m e at)
        (pendings client)

one-beside : {w : ℕ} (cleanings : List (List (Beat w))) (terms : Terms) (link : Link) (m : Message w) (t e : Trace w)
    → IsWidth w → is_from_client (beat_of m 0) ≡ false → IsNoAck m → AreBeside terms cleanings t e
    → AreBeside terms cleanings (after_sent link (named terms link m) t) (after_sent link m e)
one-beside {w} cleanings terms link m t e width ours none is = record {
  alike = one-sent cleanings terms link m t e ours is.alike;
  pendings = one-pending cleanings terms link m t e width ours is.whole is.alike is.pendings;
  answered = λ client. go client (link.0 == client) refl;
  whole = λ client. whole-after_sent client link m e width ours (is.whole client);
}
  where
    go : (client : ℕ) (b : Bool) → (link.0 == client) ≡ b
        → IsAnswered (on_link client (after_sent link (named terms link m) t))
    go client true at = rw (own_link client link (named terms link m) t at)
        (sent-answered terms link client m (on_link client t) (on_link client e) width ours none (is.whole client)
        (is.alike client) (is.pendings client) (is.answered client))
    go client false at = rw (other_link client link (named terms link m) t at) (is.answered client)

pub handed-beside : {w : ℕ} (cleanings : List (List (Beat w))) (terms : Terms) (config : Config) (handed : Handed w)
    (t e : Trace w) → IsWidth w → Each (IsHandable config) handed → Each (λ h. IsNoAck h.1) handed
    → AreBeside terms cleanings t e
    → AreBeside terms cleanings (with_handed (all_named terms handed) t) (with_handed handed e)
unfolding with_handed
handed-beside cleanings terms config [] t e width each none is = is
handed-beside cleanings terms config (x ∷ handed) t e width each none is =
    handed-beside cleanings terms config handed (after_sent x.0 (named terms x.0 x.1) t) (after_sent x.0 x.1 e) width
    each.1 none.1 (one-beside cleanings terms x.0 x.1 t e width each.0.ours none.0 is)
