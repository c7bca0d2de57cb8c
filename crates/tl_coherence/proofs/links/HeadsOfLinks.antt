-- The first beat of each channel of a client's link: it is one of the channel, no rule refuses it, and on channel B it
-- is a Probe.
use Rattle.std.proofs.Common.{◌≡◌, ℕ, Bool, true, false, List, ◌∷◌, Option, Some, Result, refl, sym, ◌∙◌, ap, subst}
use Rattle.std.proofs.Common.{arith, map}
use Rattle.tl_coherence.proofs
use proofs.Imports.{Beat, BeatB, Channel, IsWidth, Message, beat_of, channel_of, unfinished, Config, Cap, Rule}
use proofs.Imports.{is_probe, kept_up, Verdict, is_refused, EndConfig, Offered, taken, offered, Answer, Grant, Kind}
use proofs.Imports.{ReleaseAck, is_unreleased, is_on, packet, AbstractState, cap_sent, message_of, message_of_kind}
use proofs.Imports.{probe_beat, prune_told, report_told, block_message, SimulationRelation, is_caching, Log}
use proofs.Imports.{system_after, System, terms_at}
use Rattle.tl_coherence.proofs.queues.FirstToken as packet
use Rattle.tl_manager.specs.statement.End as manager_end
use Rattle.tl_manager.specs.statement.Offer as manager
use proofs.queues.{Carried.IsNext, FirstToken.first-token}
use proofs.client.ProbeDelivered.{IsProbed, delivered-b}
use proofs.client.ClientDelivered.{shadow_of, delivered-d}
use proofs.manager.{Reporting.report-about, Reporting.release-about, RequestsTaken.next_tracker}
use proofs.manager.ManagerTakes.{by-first_c, by-first_e}
use proofs.memory.BesideTaken.{IsTakenUp, IsTakenIn}
use proofs.links.Granting.{IsFirst}
use proofs.protocol.HeadOfD.{answer-due, grant-due, grant-rendered}
use proofs.deliveries.FirstRequest.{arrival-first, request-taken, request-stalled}
use proofs.deliveries.ManagerDelivered.{channel_c-delivered, channel_e-delivered}

-- ---- the channel of the first beat

on_a : {w : ℕ} {config : Config} {log : Log w} (h : AbstractState w) {sys : System w} (c : ℕ) (x : Beat w)
    (queue : List (Beat w)) → IsWidth w → SimulationRelation config log h.mail h.request h.state sys
    → sys.channels c Channel.A ≡ x ∷ queue → channel_of x ≡ Channel.A
on_a h c x queue width is beats = let arrives =
    arrival-first h c x queue width is beats in ap (λ y. channel_of y) arrives.next.beat_is

on_c : {w : ℕ} {config : Config} {log : Log w} (h : AbstractState w) {sys : System w} (c : ℕ) (x : Beat w)
    (queue : List (Beat w)) → IsWidth w → SimulationRelation config log h.mail h.request h.state sys
    → sys.channels c Channel.C ≡ x ∷ queue → channel_of x ≡ Channel.C
unfolding block_message
on_c {w} {config} h {sys} c x queue width is beats = cc (by-first_c (λ i. channel_of x ≡ Channel.C) c h.mail h.state sys
    x queue (first-token (is_caching config) Channel.C c h.mail h.state sys x queue width is.invariant is.carried beats)
    (λ n rest tokens next. let m = report-about (report_told ((h.state.block n).pair c).probing) n (h.state.block
    n).truth width (is.sized n).truth in ap (λ y. channel_of y) (next.beat_is ∙ ap (λ (i : Message w).
    beat_of i next.k) m.1)) (λ n rest tokens next. let m = release-about (prune_told ((h.state.block n).pair c).letting)
    ((h.state.block n).release_source c) n _ width (is.sized n).truth in ap (λ (y : Beat w).
    channel_of y) (next.beat_is ∙ ap (λ i. beat_of i next.k) m.1)))

on_e : {w : ℕ} {config : Config} {log : Log w} (h : AbstractState w) {sys : System w} (c : ℕ) (x : Beat w)
    (queue : List (Beat w)) → IsWidth w → SimulationRelation config log h.mail h.request h.state sys
    → sys.channels c Channel.E ≡ x ∷ queue → channel_of x ≡ Channel.E
unfolding block_message
on_e {config} h {sys} c x queue width is beats =
    by-first_e (λ i. channel_of x ≡ Channel.E) (first-token (is_caching config) Channel.E c h.mail h.state sys x queue
    width is.invariant is.carried beats) (λ n rest tokens next. ap (λ y. channel_of y) next.beat_is)

on_d : {w : ℕ} {config : Config} {log : Log w} (h : AbstractState w) {sys : System w} (c : ℕ) (x : Beat w)
    (queue : List (Beat w)) → IsWidth w → SimulationRelation config log h.mail h.request h.state sys
    → sys.channels c Channel.D ≡ x ∷ queue → channel_of x ≡ Channel.D
unfolding block_message
on_d {w} {config} h {sys} c x queue width is beats = go _ _ first.tokens first.own first.next
  where
    first : packet.IsFirst Channel.D c h.mail h.state sys x queue
    first = first-token (is_caching config) Channel.D c h.mail _ sys x queue width is.invariant is.carried beats

    Next : Kind → ℕ → Type 0
    Next k i = IsNext x (unfinished Channel.D (sys.clients c).past) (message_of_kind k h.mail h.state c i)
        (map (message_of h.mail h.state c) first.rest) queue

    go : (k : Kind) (i : ℕ) → (h.state.link c).d ≡ packet k i ∷ first.rest → is_on Channel.D k ≡ true → Next k i
        → channel_of x ≡ Channel.D
    go Answer i tokens own next =
        let due = answer-due (is_caching config) c i _ h.mail _ is.invariant (is.answered c i) tokens in
        ap (λ y. channel_of y) (next.beat_is ∙ ap (λ m. beat_of m next.k) due.answer_is)
    go Grant n tokens own next = ap (λ y. channel_of y) (next.beat_is ∙ ap (λ m. beat_of m next.k)
        (grant-rendered c n h.state (grant-due (is_caching config) c n first.rest h.state is.invariant tokens)))
    go ReleaseAck n tokens own next = ap (λ y. channel_of y) next.beat_is
    go k i tokens own next = absurd cc

-- a beat of another channel is none of B
not_probe : {w : ℕ} (x : Beat w) (y : BeatB w) (ch : Channel) → channel_of x ≡ ch → (ch ≡ Channel.B → ⊥) → x ≡ Beat.B y
    → is_probe y.opcode ≡ true
not_probe x y ch on other e = absurd (other (sym on ∙ ap (λ z. channel_of z) e))

same_b : {w : ℕ} (x y : BeatB w) → Beat.B x ≡ Beat.B y → x ≡ y
same_b x y e = cc

-- ---- no rule refuses it

unrefused_up : {w : ℕ} (a : Result (Verdict × Option (Message w)) Rule) → is_refused a ≡ false → IsTakenUp a
unrefused_up a e = grind arith

taken_in : {w : ℕ} (a b : manager.Reception w × manager_end.End w) → a ≡ b → IsTakenIn b → IsTakenIn a
taken_in a b e is = subst IsTakenIn (sym e) is

taken_up : {w : ℕ} (a b : Offered w) → a ≡ b → IsTakenUp b.answer → IsTakenUp a.answer
taken_up a b e is = subst (λ o. IsTakenUp o.answer) (sym e) is

-- ---- each channel

pub first-of : {w : ℕ} (config : Config) (log : Log w) (h : AbstractState w) (c : ℕ) (terms : EndConfig) (ch : Channel)
    (x : Beat w) (queue : List (Beat w)) → IsWidth w → SimulationRelation config log h.mail h.request h.state
    (system_after config log) → terms_at config c ≡ Some terms → (system_after config log).channels c ch ≡ x ∷ queue
    → IsFirst config terms c ch x (system_after config log)
first-of {w} config log h c terms Channel.A x queue width is at beats =
    let sys : System w = system_after config log in
    let on = on_a h c x queue width is beats in
    record {
      on = on;
      taken = (λ e. absurd cc, λ e. either (manager.must_wait config (record { 0 = c }) x sys.manager.trace) refl);
      probes = λ y e. not_probe x y _ on (λ f. absurd cc) e;
    }
  where
    either : (b : Bool) → manager.must_wait config (record { 0 = c }) x (system_after config log).manager.trace ≡ b
        → IsTakenIn (manager.offered config (record { 0 = c }) Channel.A x (system_after config log).manager)
    either true e = taken_in _ _ (request-stalled is beats (arrival-first h c x queue width is beats) e) tt
    either false e = taken_in _ _ (request-taken width is beats (arrival-first h c x queue width is beats) e) tt
first-of {w} config log h c terms Channel.B x queue width is at beats =
    let k : Cap = cap_sent ((h.state.block probed.0).pair c).probing in
    let is_one : (y : BeatB w) → Beat.B (probe_beat probed.0 k) ≡ Beat.B y → is_probe y.opcode ≡ true =
    λ y e. ap (λ z. is_probe z.opcode) (sym (same_b (probe_beat probed.0 k) y e)) in
    record {
      on = ap (λ y. channel_of y) probed.1.beat_is;
      taken = (λ e. either (is_unreleased ((h.state.block probed.0).pair c).letting) refl, λ e. absurd cc);
      probes = λ y e. is_one y (sym probed.1.beat_is ∙ e);
    }
  where
    sys : System w
    sys = system_after config log

    probed : (n : ℕ) × IsProbed config terms (next_tracker sys) c n (shadow_of h.mail h.request h.state) x
        (sys.clients c)
    probed = delivered-b terms (next_tracker sys) c x queue width is at beats

    either : (b : Bool) → is_unreleased ((h.state.block probed.0).pair c).letting ≡ b
        → IsTakenUp (offered terms Channel.B x (sys.clients c)).answer
    either true e = taken_up _ _ (probed.1.takes e)
        (unrefused_up (taken x (sys.clients c)).answer (kept_up x (sys.clients c)))
    either false e = taken_up _ _ (probed.1.waits_for e) tt
first-of {w} config log h c terms Channel.C x queue width is at beats =
    let on = on_c h c x queue width is beats in
    let d = channel_c-delivered (next_tracker (system_after config log)) h c x queue width is beats in
    record {
      on = on;
      taken = (λ e. absurd cc, λ e. taken_in _ _ d.up.answer tt);
      probes = λ y e. not_probe x y _ on (λ f. absurd cc) e;
    }
first-of {w} config log h c terms Channel.D x queue width is at beats =
    let sys : System w = system_after config log in
    let on = on_d h c x queue width is beats in
    let d = delivered-d terms (next_tracker sys) c x queue width is at beats in
    record {
      on = on;
      taken = (
        λ e. taken_up _ _ d.takes (unrefused_up (taken x (sys.clients c)).answer (kept_up x (sys.clients c))),
        λ e. absurd cc,
      );
      probes = λ y e. not_probe x y _ on (λ f. absurd cc) e;
    }
first-of {w} config log h c terms Channel.E x queue width is at beats =
    let on = on_e h c x queue width is beats in
    let d = channel_e-delivered (next_tracker (system_after config log)) h c x queue width is beats in
    record {
      on = on;
      taken = (λ e. absurd cc, λ e. taken_in _ _ d.up.answer tt);
      probes = λ y e. not_probe x y _ on (λ f. absurd cc) e;
    }
