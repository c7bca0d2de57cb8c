-- A beat of a client that the manager takes, and what is handed out for it.
use Rattle.std.proofs.Common.{◌≡◌, ℕ, ◌+◌, ◌==◌, Bool, true, false, ◌&&◌, List, [], ◌∷◌, length, map}
use Rattle.std.proofs.Common.{refl, ap, sym, subst, ◌∙◌}
use Rattle.std.proofs.lemmas.Bool.{eq-eqb, eqb-true}
use Rattle.std.proofs.lemmas.List.{length-map}
use Rattle.std.specs.Prelude.{if◌then◌else◌}
use Rattle.tl_beat.specs.declared.beat.Beat.{Beat}
use Rattle.tl_beat.specs.declared.beat.BeatC.{BeatC}
use Rattle.tl_beat.specs.declared.beat.Link.{Link}
use Rattle.tl_beat.specs.declared.channel.Channel.{Channel}
use Rattle.tl_beat.specs.declared.opcode.OpC.{OpC}
use Rattle.tl_beat.specs.statement.Width.{IsWidth}
use Rattle.tl_burst.specs.statement.Messages.{History, burst_length}
unfoldable use Rattle.tl_burst.specs.statement.Messages.{unfinished}
use Rattle.tl_params.specs.declared.config.Config.{Config}
use Rattle.tl_rules.specs.statement.Admission.{sent}
use Rattle.tl_rules.specs.statement.Conformance.{Trace, on_link}
use Rattle.tl_rules.specs.statement.History.{ends, is_probe_ack, is_release}
use Rattle.tl_manager.proofs.calls.Events.{reaction-part, reaction-release}
use Rattle.tl_manager.proofs.calls.Keeping.{is_taken}
use Rattle.tl_manager.proofs.calls.Reactions.{reaction_handable}
use Rattle.tl_manager.proofs.pending.Handed.{after_sent, other_link, own_link, whole-taken}
use Rattle.tl_manager.proofs.pending.LinkHistories.{other_beat, own_beat}
use Rattle.tl_manager.proofs.pending.Releases.{IsNoAck}
use Rattle.tl_manager.proofs.pending.Releases.{released}
use Rattle.tl_manager.specs.code.Kept.{Each, IsKept}
use Rattle.tl_manager.specs.code.Ready.{IsPassed}
use Rattle.tl_manager.specs.code.Releases.{IsAnswered}
use Rattle.tl_manager.specs.statement.End.{End}
use Rattle.tl_manager.specs.statement.Handing.{Reaction, release_ack}
unfoldable use Rattle.tl_manager.specs.statement.Handing.{with_handed}
use Rattle.tl_manager.specs.statement.Reaction.{reaction}
use Rattle.tl_partner.specs.declared.terms.Terms.{Terms}
use Rattle.tl_partner.specs.laws.Carried.{AreAllAlike, AreAllPendingAlike, ArePendingAlike}
use Rattle.tl_partner.specs.statement.Naming.{all_named, from_zero, plain}
use Rattle.tl_partner.proofs.Afterward.{ack_of}
use Rattle.tl_partner.proofs.Cleaned.{plain_release}
use Rattle.tl_partner.proofs.Handings.{gives}
use Rattle.tl_partner.proofs.Answering.{AreBeside, handed-beside, no_acks, one-pending}
use Rattle.tl_partner.proofs.Nexts.{IsNext, begun-c, grows, next-answered, next-pending}

-- ---- a beat of a client that the manager takes, and what is handed out for it

-- the beat on all links
next-all : {w : ℕ} (terms : Terms) (link : Link) (x : Beat w) (t e : Trace w)
    → IsNext terms link x (on_link link.0 t) (on_link link.0 e) → AreAllPendingAlike terms t e
    → AreAllPendingAlike terms ((link, x) ∷ t) ((link, plain terms x) ∷ e)
next-all {w} terms link x t e is pendings = λ client. go client (link.0 == client) refl
  where
    go : (client : ℕ) (b : Bool) → (link.0 == client) ≡ b
        → ArePendingAlike terms client (on_link client ((link, x) ∷ t)) (on_link client ((link, plain terms x) ∷ e))
    go client true at = subst (λ (n : ℕ). ArePendingAlike terms n (on_link n ((link, x) ∷ t))
        (on_link n ((link, plain terms x) ∷ e))) (eqb-true link.0 client at)
        (rw (
          own_beat link.0 link x t (eq-eqb link.0 link.0 refl),
          own_beat link.0 link (plain terms x) e (eq-eqb link.0 link.0 refl),
        ) (next-pending terms link x (on_link link.0 t) (on_link link.0 e) is))
    go client false at = rw (other_beat client link x t at, other_beat client link (plain terms x) e at)
        (pendings client)

pub answered-all : {w : ℕ} (link : Link) (x : Beat w) (t : Trace w) → IsAnswered (x ∷ on_link link.0 t)
    → ((client : ℕ) → IsAnswered (on_link client t)) → (client : ℕ) → IsAnswered (on_link client ((link, x) ∷ t))
answered-all {w} link x t own others client = go (link.0 == client) refl
  where
    go : (b : Bool) → (link.0 == client) ≡ b → IsAnswered (on_link client ((link, x) ∷ t))
    go true at = subst (λ (n : ℕ). IsAnswered (on_link n ((link, x) ∷ t))) (eqb-true link.0 client at)
        (rw (own_beat link.0 link x t (eq-eqb link.0 link.0 refl)) own)
    go false at = rw (other_beat client link x t at) (others client)

-- what is known of a beat that passes, and of the traces before and after it
pub record IsStep {w : ℕ} (cleanings : List (List (Beat w))) (terms : Terms) (config : Config) (link : Link) (x : Beat w)
    (t : Trace w) (e : End w) : Type 0 where
  pub width : IsWidth w
  pub kept : IsKept config e
  pub passes : IsPassed config link (plain terms x) e.trace
  pub next : IsNext terms link x (on_link link.0 t) (on_link link.0 e.trace)
  pub pendings : AreAllPendingAlike terms t e.trace
  pub answered : (client : ℕ) → IsAnswered (on_link client t)
  pub alike : AreAllAlike terms cleanings ((link, x) ∷ t) ((link, plain terms x) ∷ e.trace)

-- afterwards
abbrev pub IsAfter : {w : ℕ} → Terms → Config → Link → Beat w → Trace w → End w → Type 0
IsAfter terms config link x t e =
    AreAllPendingAlike terms
    (with_handed (all_named terms (reaction config link (plain terms x) e).handed) ((link, x) ∷ t))
    (with_handed (reaction config link (plain terms x) e).handed ((link, plain terms x) ∷ e.trace))
    × ((client : ℕ) → IsAnswered (on_link client
    (with_handed (all_named terms (reaction config link (plain terms x) e).handed) ((link, x) ∷ t))))

taken-beside : {w : ℕ} (cleanings : List (List (Beat w))) (terms : Terms) (config : Config) (link : Link) (x : Beat w)
    (t : Trace w) (e : End w) → IsStep cleanings terms config link x t e
    → ((y : BeatC w) → x ≡ Beat.C y → (ends x (on_link link.0 t) && is_release y.opcode) ≡ false)
    → AreBeside terms cleanings ((link, x) ∷ t) ((link, plain terms x) ∷ e.trace)
taken-beside cleanings terms config link x t e is other = record {
  alike = is.alike;
  pendings = next-all terms link x t e.trace is.next is.pendings;
  answered = answered-all link x t
      (next-answered terms link x (on_link link.0 t) (on_link link.0 e.trace) is.next other) is.answered;
  whole = λ client. whole-taken client link (plain terms x) e.trace is.passes.theirs (is.kept.whole client);
}

-- where no Release is answered
unanswered-after : {w : ℕ} (cleanings : List (List (Beat w))) (terms : Terms) (config : Config) (link : Link)
    (x : Beat w) (t : Trace w) (e : End w) → IsStep cleanings terms config link x t e
    → ((y : BeatC w) → x ≡ Beat.C y → (ends x (on_link link.0 t) && is_release y.opcode) ≡ false)
    → Each (λ h. IsNoAck h.1) (reaction config link (plain terms x) e).handed → IsAfter terms config link x t e
unanswered-after cleanings terms config link x t e is other none =
    let handable = reaction_handable config link (plain terms x) e is.width is.passes.sound is.kept.sound in
    let after = handed-beside cleanings terms config (reaction config link (plain terms x) e).handed ((link, x) ∷ t)
    ((link, plain terms x) ∷ e.trace) is.width handable none (taken-beside cleanings terms config link x t e is other) in
    (after.pendings, after.answered)

-- a Release that is complete is answered
release-after : {w : ℕ} (cleanings : List (List (Beat w))) (terms : Terms) (config : Config) (link : Link)
    (x : BeatC w) (t : Trace w) (e : End w) → IsStep cleanings terms config link (Beat.C x) t e
    → ends (Beat.C x) (on_link link.0 t) ≡ true → is_release x.opcode ≡ true
    → plain terms (Beat.C x) ≡ Beat.C x
    → (reaction config link (plain terms (Beat.C x)) e).handed ≡ (link, release_ack x.source) ∷ []
    → IsAfter terms config link (Beat.C x) t e
unfolding with_handed
release-after {w} cleanings terms config link x t e is last release same h =
    rw h (
      one-pending cleanings terms link (release_ack x.source) ((link, Beat.C x) ∷ t)
          ((link, plain terms (Beat.C x)) ∷ e.trace) is.width refl
          (λ client. whole-taken client link (plain terms (Beat.C x)) e.trace is.passes.theirs (is.kept.whole client))
          is.alike (next-all terms link (Beat.C x) t e.trace is.next is.pendings),
      λ client. go client (link.0 == client) refl,
    )
  where
    own : History w
    own = on_link link.0 t

    silent : unfinished Channel.D (Beat.C x ∷ own) ≡ []
    silent =
        let at = own_beat link.0 link (Beat.C x) t (eq-eqb link.0 link.0 refl) in
        let at_e = own_beat link.0 link (plain terms (Beat.C x)) e.trace (eq-eqb link.0 link.0 refl) in
        sym (ap (unfinished Channel.D) at) ∙ (is.alike link.0).answers
        ∙ (whole-taken link.0 link (plain terms (Beat.C x)) e.trace is.passes.theirs (is.kept.whole link.0)).1

    here : IsAnswered (sent (release_ack x.source) (Beat.C x ∷ own))
    here = released x (ack_of x.source) own is.width (begun-c x own is.next.answered (is.next.goes_on x refl)) release
        (grows x own true last) silent refl refl

    go : (client : ℕ) (b : Bool) → (link.0 == client) ≡ b
        → IsAnswered (on_link client (after_sent link (release_ack x.source) ((link, Beat.C x) ∷ t)))
    go client true at = subst (λ (n : ℕ). IsAnswered (on_link n (after_sent link (release_ack x.source)
        ((link, Beat.C x) ∷ t)))) (eqb-true link.0 client at)
        (rw (
          own_link link.0 link (release_ack x.source) ((link, Beat.C x) ∷ t) (eq-eqb link.0 link.0 refl),
          own_beat link.0 link (Beat.C x) t (eq-eqb link.0 link.0 refl),
        ) here)
    go client false at =
        rw (
          other_link client link (release_ack x.source) ((link, Beat.C x) ∷ t) at,
          other_beat client link (Beat.C x) t at,
        ) (is.answered client)

ends-plain : {w : ℕ} (terms : Terms) (x : BeatC w) (t e : History w)
    → map (plain terms) (unfinished Channel.C t) ≡ unfinished Channel.C e
    → ends (plain terms (Beat.C x)) e ≡ ends (Beat.C x) t
ends-plain {w} terms x t e reports = go (terms.ids && is_probe_ack x.opcode)
  where
    long : length (unfinished Channel.C e) ≡ length (unfinished Channel.C t)
    long = ap length (sym reports) ∙ length-map (unfinished Channel.C t) (plain terms)

    go : (b : Bool) → ends (if b then Beat.C (from_zero x) else Beat.C x) e ≡ ends (Beat.C x) t
    go true = ap (λ n. n + 1 == burst_length (Beat.C x)) long
    go false = ap (λ n. n + 1 == burst_length (Beat.C x)) long

abbrev releasing : {w : ℕ} → Beat w → Bool
releasing (Beat.C x) = is_release x.opcode
releasing v = false

releasing-plain : {w : ℕ} (terms : Terms) (x : BeatC w) → releasing (plain terms (Beat.C x)) ≡ is_release x.opcode
releasing-plain {w} terms x = go (terms.ids && is_probe_ack x.opcode)
  where
    go : (b : Bool) → releasing (if b then Beat.C (from_zero x) else Beat.C x) ≡ is_release x.opcode
    go true = refl
    go false = refl

c-after : {w : ℕ} (cleanings : List (List (Beat w))) (terms : Terms) (config : Config) (link : Link) (x : BeatC w)
    (t : Trace w) (e : End w) → IsStep cleanings terms config link (Beat.C x) t e
    → IsAfter terms config link (Beat.C x) t e
c-after {w} cleanings terms config link x t e is =
    go (ends (Beat.C x) own) (is_release x.opcode) refl refl
  where
    own : History w
    own = on_link link.0 t

    y : Beat w
    y = plain terms (Beat.C x)

    ends_y : ends y (on_link link.0 e.trace) ≡ ends (Beat.C x) own
    ends_y = ends-plain terms x own (on_link link.0 e.trace) (is.next.reports x refl)

    opcode_of : Beat w → OpC
    opcode_of (Beat.C z) = z.opcode
    opcode_of v = OpC.Release

    undone : (b c : Bool) → (b && c) ≡ false → ends (Beat.C x) own ≡ b → is_release x.opcode ≡ c
        → (z : BeatC w) → Beat.C x ≡ Beat.C z → (ends (Beat.C x) own && is_release z.opcode) ≡ false
    undone b c f last release z same =
        let opcode : x.opcode ≡ z.opcode = ap opcode_of same in
        rw (last, ← opcode, release) f

    go : (last release : Bool) → ends (Beat.C x) own ≡ last → is_release x.opcode ≡ release
        → IsAfter terms config link (Beat.C x) t e
    go false release f g =
        unanswered-after cleanings terms config link (Beat.C x) t e is (undone false release refl f g)
        (rw (ap (λ (r : Reaction w). r.handed) (reaction-part config link y e (ends_y ∙ f))) tt)
    go true true f g =
        let same = plain_release terms x g in
        release-after cleanings terms config link x t e is f g same
        (ap (λ (z : Beat w). (reaction config link z e).handed) same
        ∙ ap (λ (r : Reaction w). r.handed) (reaction-release config link x e
        (ap (λ (z : Beat w). ends z (on_link link.0 e.trace)) (sym same) ∙ ends_y ∙ f) g))
    go true false f g =
        unanswered-after cleanings terms config link (Beat.C x) t e is (undone true false refl f g)
        (no_acks config link y e (λ z same. sym (ap releasing same) ∙ releasing-plain terms x ∙ g)
        (gives config link y e (is_taken config link y e is.width is.passes is.kept)))

pub step-after : {w : ℕ} (cleanings : List (List (Beat w))) (terms : Terms) (config : Config) (link : Link) (x : Beat w)
    (t : Trace w) (e : End w) → IsStep cleanings terms config link x t e → IsAfter terms config link x t e
step-after {w} cleanings terms config link (Beat.A x) t e is =
    unanswered-after cleanings terms config link (Beat.A x) t e is (λ z same. absurd cc)
    (no_acks config link (Beat.A x) e (λ z same. absurd cc)
    (gives config link (Beat.A x) e (is_taken config link (Beat.A x) e is.width is.passes is.kept)))
step-after cleanings terms config link (Beat.B x) t e is = absurd (let no = is.next.theirs in cc)
step-after cleanings terms config link (Beat.C x) t e is = c-after cleanings terms config link x t e is
step-after cleanings terms config link (Beat.D x) t e is = absurd (let no = is.next.theirs in cc)
step-after {w} cleanings terms config link (Beat.E x) t e is =
    unanswered-after cleanings terms config link (Beat.E x) t e is (λ z same. absurd cc)
    (no_acks config link (Beat.E x) e (λ z same. absurd cc)
    (gives config link (Beat.E x) e (is_taken config link (Beat.E x) e is.width is.passes is.kept)))
