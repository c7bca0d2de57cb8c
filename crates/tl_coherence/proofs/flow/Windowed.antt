-- Each access is answered after a moment, since it was asked whole, at which nobody held what excludes it.
use Rattle.std.proofs.Common.{◌≡◌, ℕ, Bool, true, false, List, [], ◌∷◌, ◌++◌, Option, Some, None, refl, sym, ◌∙◌, ap}
use Rattle.std.proofs.Common.{subst, arith, inl, inr, is_some}
use Rattle.std.proofs.lemmas.Bool.{or_left}
use Rattle.tl_coherence.proofs
use proofs.Imports.{or_right, Beat, BeatA, BeatD, Link, Channel, OpA, IsWidth, Message, MessageA, a_beat_of, channel_of}
use proofs.Imports.{unfinished, Config, RequestSource, Perm, open_request, Trace, comes_in_request, on_link, block_at}
use proofs.Imports.{held, pending, request_of, is_free, leaves, needs, Op, EndConfig, grant_opcode, is_access_answer}
use proofs.Imports.{Event, Ask, Deliver, Outcome, Acquire, Block, Replied, SourceFree, SourceState, view, AbstractState}
use proofs.Imports.{abstract_step, abstract_step_by, block_message, MonitorRelations, SimulationRelation, asked_for}
use proofs.Imports.{block_used, first_of, is_moving, taken_at, flow, IsGiven, Log, system_after, perm_le, Step, stepped}
use proofs.Imports.{System, terms_at}
use Rattle.tl_coherence.{specs.statement.Flow.trace_of, specs.statement.Headline.AreTyped, specs.statement.Log.IsLog}
use Rattle.tl_coherence.specs.statement.AnsweredInTime.{IsAnsweredInTime, AnsweredInTime}
use Rattle.tl_rules.specs.statement.Windows.{has_window}
use Rattle.tl_client.specs.statement.Ask as ask
use proofs.deliveries.DeliverDUnmoved.{followed-still}
use proofs.deliveries.Matching.{ready-delivered, shadow, matched, stepped-nobody}
use proofs.flow.{Flows.flowed, FlowTaken.each-taken, FlowTraces.trace-flows, NextOnD.next-on_d}
use proofs.flow.{FlowResponses.not-coming_a, FlowResponses.waits_on_a, GivenAlone.free-where, GivenAlone.held_by_most}
use proofs.flow.Renewed.{AreRenewed, AreKept, IsSettledFor, kept-asked, renewed-kind_taken}
use proofs.links.FromInvariant.{matched-given}
use proofs.queues.{Facts.held_at_most, Phases.nothing_below, Steps.stepped-asked}
use proofs.simulation.Moved.{followed-cases, on-first}
use proofs.memory.BesideTaken.{same_message}

-- ---- what is held and excludes nothing

leaves_below : (o : OpA) (p q : Perm) → perm_le p q ≡ true → leaves (needs o) q ≡ true → leaves (needs o) p ≡ true
leaves_below o p q e f = grind (arith, nothing_below)

pub same_first : {w : ℕ} (x y : BeatA w) → Some x ≡ Some y → y ≡ x
same_first x y e = cc

-- ---- accesses that are answered, after this log

abbrev AreWindowed : {w : ℕ} → AbstractState w → Trace w → Type 0
AreWindowed {w} h t = (n c source : ℕ) (m : MessageA w) → h.state.uses c source ≡ Replied
    → h.mail.request c source ≡ Message.A m → has_window n c source (needs m.opcode) (block_at m.address) t ≡ true

pub asked_replied : {w : ℕ} (u : SourceState) (m acquire : Message w) → u ≡ Replied → asked_for u m acquire ≡ first_of m
asked_replied u m acquire e = rw e refl

-- one that is answered is pending
module _ {w : ℕ} (config : Config) (log : Log w) (h : AbstractState w) (sys : System w)
    (is : SimulationRelation config log h.mail h.request h.state sys)
    (values : MonitorRelations log h.mail h.state sys) (c source : ℕ) (m : MessageA w)
    (used : h.state.uses c source ≡ Replied) (request : h.mail.request c source ≡ Message.A m) where
  pending_flow : pending (RequestSource source) (flow c log) ≡ true
  pending_flow = cc ((values c).requests source, used)

  pub asked_flow : request_of source (flow c log) ≡ Some (a_beat_of m 0)
  asked_flow = let fact = asked_replied _ (h.mail.request c source) (block_message Acquire c
      (block_used (h.state.uses c source)) (h.state.block (block_used (h.state.uses c source)))) used in
      cc ((values c).asked_is source pending_flow, request)

  -- its request is pending and complete
  pub opened-now : is_some (open_request source (on_link c (trace_of log))) ≡ true
  opened-now =
      let whole : comes_in_request source (unfinished Channel.A (flow c log)) ≡ false = cc (
        (values c).rest_is Channel.A,
        not-coming_a c source is (ap (λ u. waits_on_a c u h.state) used),
      ) in
      ap (λ t. is_some (open_request source t)) (trace-flows c log) ∙ rw (pending_flow, whole, asked_flow) refl

  pub free-now : IsSettledFor m h.state → (n : ℕ)
      → is_free n None (needs m.opcode) (block_at m.address) (trace_of log) ≡ true
  free-now settled n =
      let k : ℕ = block_at m.address in
      let b : Block (List ℕ) = h.state.block k in
      cc (free-where n None (needs m.opcode) k (trace_of log) (λ other. ap (λ t. leaves (needs m.opcode)
      (held k t)) (trace-flows other log) ∙ ap (leaves (needs m.opcode)) ((values other).held_is k)
      ∙ leaves_below m.opcode _ _ (held_by_most other b (view b.service other)
      (held_at_most (b.pair other) (view b.service other) ((is.invariant.blocks k).phases other))) (settled other)))

-- ---- after one more event

-- with one more beat
windowed-more : {w : ℕ} {config : Config} {log' : Log w} (h h' : AbstractState w) {sys' : System w} (y : Link × Beat w)
    (t : Trace w) → SimulationRelation config log' h'.mail h'.request h'.state sys'
    → MonitorRelations log' h'.mail h'.state sys' → trace_of log' ≡ y ∷ t
    → AreRenewed h h' → AreWindowed h t → AreWindowed h' (y ∷ t)
unfolding has_window
windowed-more {config} {log'} h h' {sys'} y t is values more renewed before n c source m used request =
    let opened : is_some (open_request source (on_link c (y ∷ t))) ≡ true =
    rw more at (opened-now config log' h' sys' is values c source m used request) in
    rw opened (elim (renewed c source used) [
      | inl old ↦ or_right (is_free n None (needs m.opcode) (block_at m.address) (y ∷ t)) (has_window n c source
          (needs m.opcode) (block_at m.address) t) (before n c source m old.0 (sym old.1.0 ∙ request))
      | inr new ↦ or_left (is_free n None (needs m.opcode) (block_at m.address) (y ∷ t)) (has_window n c source
          (needs m.opcode) (block_at m.address) t) (subst (λ s. is_free n None (needs m.opcode)
          (block_at m.address) s ≡ true) more (free-now config log' h' sys' is values c source m used request
          (subst (λ i. IsSettledFor i h'.state) (same_message new.0 m (sym new.1 ∙ request)) new.2) n))
    ])

windowed-kept : {w : ℕ} (h h' : AbstractState w) (t : Trace w) → AreKept h h' → AreWindowed h t → AreWindowed h' t
windowed-kept h h' t kept before n c source m used request = let old = kept c source used in
    before n c source m old.0 (sym old.1.0 ∙ request)

-- who is asked has nothing answered
kept-ask : {w : ℕ} (config : Config) (c : ℕ) (o : Op w) (sys : System w) (h : AbstractState w)
    → AreKept h (abstract_step config (Ask c o) sys h)
kept-ask {w} config c o sys h = go (terms_at config c) refl
  where
    After : Step w → Type 0
    After x = AreKept h (abstract_step_by config (Ask c o) x.outcome sys h)

    go : (i : Option EndConfig) → terms_at config c ≡ i → After (stepped config (Ask c o) sys)
    go None none = subst After (sym (stepped-nobody config (Ask c o) sys none)) (λ d j e. (e, (refl, refl)))
    go (Some terms) known = subst After (sym (stepped-asked config c o sys terms known))
        (kept-asked c o (ask.asked terms o (sys.clients c)).reply h)

pub renewed-followed : {w : ℕ} (config : Config) (log : Log w) (event : Event w) (h : AbstractState w) → IsWidth w
    → SimulationRelation config log h.mail h.request h.state (system_after config log)
    → AreRenewed h (abstract_step config event (system_after config log) h)
renewed-followed {w} config log event h width is =
    let sys : System w = system_after config log in
    followed-cases event (λ i. AreRenewed h i) width is (λ d j e. inl (e, (refl, refl)))
    (λ terms c o at d j e. inl (kept-asked c o (ask.asked terms o (sys.clients c)).reply h d j e))
    (λ link ch x queue d. renewed-kind_taken _ link.0 _ _ _ h is (on-first d) (ready-delivered ch width is d))

windowed-event : {w : ℕ} {config : Config} {log : Log w} (h : AbstractState w) (event : Event w) (o : Outcome w)
    → IsWidth w → SimulationRelation config log h.mail h.request h.state (system_after config log)
    → o ≡ (stepped config event (system_after config log)).outcome
    → SimulationRelation config ((event, o) ∷ log) (abstract_step config event (system_after config log) h).mail
    (abstract_step config event (system_after config log) h).request
    (abstract_step config event (system_after config log) h).state
    (stepped config event (system_after config log)).after
    → MonitorRelations ((event, o) ∷ log) (abstract_step config event (system_after config log) h).mail
    (abstract_step config event (system_after config log) h).state
    (stepped config event (system_after config log)).after → AreWindowed h (trace_of log)
    → AreWindowed (abstract_step config event (system_after config log) h) (taken_at event o ++ trace_of log)
unfolding trace_of
windowed-event {config} {log} h (Ask c i) o width is o_is is' values before = windowed-kept h (abstract_step config
    (Ask c i) (system_after config log) h) _ (kept-ask config c i (system_after config log) h) before
windowed-event {config} {log} h (Deliver link ch) (Outcome.Moved x) width is o_is is' values before = windowed-more h _
    (link, x) _ is' values refl (renewed-followed config log (Deliver link ch) h width is) before
windowed-event {config} {log} h (Deliver link ch) (Outcome.Done x source f) width is o_is is' values before =
    windowed-more h _ (link, x) _ is' values refl (renewed-followed config log (Deliver link ch) h width is) before
windowed-event {config} {log} h (Deliver link ch) (Outcome.Replied r) width is o_is is' values before =
    rw (followed-still config link ch (system_after config log) h (sym (ap is_moving o_is))) before
windowed-event {config} {log} h (Deliver link ch) Outcome.Empty width is o_is is' values before =
    rw (followed-still config link ch (system_after config log) h (sym (ap is_moving o_is))) before
windowed-event {config} {log} h (Deliver link ch) Outcome.Stalled width is o_is is' values before =
    rw (followed-still config link ch (system_after config log) h (sym (ap is_moving o_is))) before
windowed-event {config} {log} h (Deliver link ch) Outcome.NoSuchClient width is o_is is' values before =
    rw (followed-still config link ch (system_after config log) h (sym (ap is_moving o_is))) before

pub closed_first : SourceFree ≡ Replied → ⊥
closed_first e = cc

windowed : {w : ℕ} (config : Config) (log : Log w) → IsWidth w → AreTyped log → IsLog config log
    → AreWindowed (shadow config log) (trace_of log)
unfolding shadow system_after AreTyped IsLog trace_of
windowed config [] width typed is = λ n c source m used request. absurd (closed_first used)
windowed config (x ∷ log) width typed is = windowed-event _ x.0 x.1 width
    (matched config log width typed.1 is.1) is.0 (matched config (x ∷ log) width typed is)
    (flowed config (x ∷ log) width typed is) (windowed config log width typed.1 is.1)

-- ---- an answer that begins

pub grants_no_access : (d : Bool) → is_access_answer (grant_opcode d) ≡ false
grants_no_access d = grind arith

answered-next : {w : ℕ} {config : Config} {log : Log w} → IsGiven config log → (c : ℕ) (y : BeatD w)
    (queue : List (Beat w)) → (system_after config log).channels c Channel.D ≡ Beat.D y ∷ queue
    → (n : ℕ) (x : BeatA w) → is_access_answer y.opcode ≡ true → request_of y.source (on_link c (trace_of log)) ≡ Some x
    → has_window n c y.source (needs x.opcode) (block_at x.address) (trace_of log) ≡ true
answered-next {w} {config} {log} given c y queue beats n x answers asks =
    let no_answer : is_access_answer y.opcode ≡ false → Windowed x = λ e. absurd cc in
    cc (next-on_d config log h c y queue given.width (matched-given _ log given) values beats (Windowed x)
    (λ i due e. answer i _ (ap (λ z. z.source) e ∙ due.from) due.used due.request_is)
    (λ i grant. no_answer (ap (λ z. is_access_answer z.opcode) grant.beat_is
    ∙ grants_no_access grant.due.data_too)) (λ i k e. no_answer (ap (λ z. is_access_answer z.opcode) e)))
  where
    h : AbstractState w
    h = shadow config log

    values : MonitorRelations log h.mail h.state (system_after config log)
    values = flowed config log given.width given.typed given.is_log

    Windowed : BeatA w → Type 0
    Windowed z = has_window n c y.source (needs z.opcode) (block_at z.address) (trace_of log) ≡ true

    answer : (i : ℕ) (m : MessageA w) → y.source ≡ i → h.state.uses c i ≡ Replied
        → h.mail.request c i ≡ Message.A m → Windowed x
    answer i m from used request =
        let used_y : h.state.uses c y.source ≡ Replied = ap (h.state.uses c) from ∙ used in
        let request_y : h.mail.request c y.source ≡ Message.A m = ap (h.mail.request c) from ∙ request in
        subst Windowed (same_first x (a_beat_of m 0) (sym asks ∙ ap (request_of y.source) (trace-flows c log)
        ∙ asked_flow config log h (system_after config log) (matched-given _ log given) values c y.source m used_y
        request_y)) (windowed config log given.width given.typed given.is_log n c y.source m used_y request_y)

in_time-moved : {w : ℕ} (config : Config) (log : Log w) → IsGiven config log → (c : ℕ) (x : Beat w)
    (queue : List (Beat w)) → (system_after config log).channels c (channel_of x) ≡ x ∷ queue
    → IsAnsweredInTime c x (trace_of log)
in_time-moved config log given c (Beat.D y) queue beats = λ n x begun answers asks.
    answered-next given c y queue beats n x answers asks
in_time-moved config log given c x queue beats = tt

pub in_time : {w : ℕ} → AnsweredInTime w
in_time config log given =
    each-taken config (λ earlier link x. IsAnsweredInTime link x (trace_of earlier)) (in_time-moved config) log given
