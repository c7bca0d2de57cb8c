-- What all links carry together: at a Grant the others hold no more than it leaves them.
use Rattle.std.proofs.Common.{◌≡◌, ℕ, zero, suc, Bool, true, false, ◌||◌, if◌then◌else◌, List, ◌∷◌, Option, Some, refl}
use Rattle.std.proofs.Common.{sym, ◌∙◌, ap, subst, arith}
use Rattle.tl_coherence.proofs
use proofs.Imports.{cases_eq, Beat, BeatD, Channel, channel_of, Config, Cap, Perm, cap_right, Trace, same_perm, on_link}
use proofs.Imports.{capped, grants, held, leaves, cap-gives, Granting, View, is_unprobed, is_unreleased, Block}
use proofs.Imports.{GrantSent, Service, view, is_granting, AbstractState, SimulationRelation, trace_of, flow, IsGiven}
use proofs.Imports.{Log, system_after, perm_le}
use Rattle.tl_coherence.specs.statement.OneWriter.{IsGivenAlone, IsOneWriter, IsApart}
use Rattle.tl_rules.specs.statement.Windows.{is_spared, is_free}
use proofs.deliveries.Matching.{shadow}
use proofs.flow.{FlowBeats.same_perms, FlowStep.held_by, FlowTaken.each-taken, FlowTraces.trace-flows, Flows.flowed}
use proofs.flow.{NextOnD.grant-next}
use proofs.links.FromInvariant.{matched-given}
use proofs.protocol.HeadOfD.{own_view}
use proofs.queues.{Facts.granting_alone, Facts.held_at_most, Phases.and_right, Phases.none_below, Phases.trunk_below}

-- ---- all links

-- a block is free where each link that isn't spared leaves it
pub free-where : {w : ℕ} (n : ℕ) (spared : Option ℕ) (given : Perm) (block : ℕ) (t : Trace w)
    → ((other : ℕ) → (is_spared other spared || leaves given (held block (on_link other t))) ≡ true)
    → is_free n spared given block t ≡ true
unfolding is_free
free-where zero spared given block t each = refl
free-where (suc n) spared given block t each = rw (free-where n spared given block t each, each n) refl

-- ---- what the protocol says of others

-- who isn't granted the block in service sees another's
other_view : (c other : ℕ) (d : Bool) (k : Cap) (service : Service) → service ≡ GrantSent c d k → (other ≡ c → ⊥)
    → is_granting (view service other) ≡ false
other_view c other d k service e ne = grind arith

-- what is held by what was delivered is at most what is recorded
pub held_by_most : {X : Type 0} (c : ℕ) (b : Block X) (v : View) → perm_le (b.pair c).held (b.pair c).recorded ≡ true
    → perm_le (if is_granting v then (b.pair c).held else (b.pair c).recorded) (b.pair c).recorded ≡ true
held_by_most c b v e =
    let same : (p : Perm) → perm_le p p ≡ true = elim [ Perm.None ↦ refl | p ↦ refl ] in
    let go : (x : Bool) (p : Perm) → perm_le (b.pair c).held p ≡ true → perm_le (if x then (b.pair c).held else p) p
    ≡ true = elim [ true ↦ λ p f. f | false ↦ λ p f. same p ] in
    go (is_granting v) (b.pair c).recorded e

-- ---- a beat of a Grant that is next on channel D

given-next : {w : ℕ} {config : Config} {log : Log w} → IsGiven config log → (c : ℕ) (y : BeatD w)
    (queue : List (Beat w)) → (system_after config log).channels c Channel.D ≡ Beat.D y ∷ queue → (n other : ℕ)
    → grants n y (flow c log) ≡ true → (other ≡ c → ⊥) → leaves (capped y.param) (held n (flow other log)) ≡ true
given-next {w} {config} {log} given c y queue beats n other granted ne =
    let values = flowed config log given.width given.typed given.is_log in
    let grant = grant-next config log h c y queue given.width is values beats n granted in
    let due = grant.due in
    let seen : view b.service c ≡ Granting due.data_too due.k = own_view c due.data_too due.k _ due.service in
    let gives : capped y.param ≡ cap_right due.k = cc (grant.beat_is, cap-gives due.k) in
    let even : (b.pair c).recorded ≡ cap_right due.k = sym (same_perms (b.pair c).recorded (cap_right due.k) (and_right
    (is_unreleased (b.pair c).letting) _ (and_right (is_unprobed (b.pair c).probing) _ (granting_alone due.data_too
    due.k (b.pair c) (view b.service c) ((is.invariant.blocks n).phases c) seen)))) in
    subst (λ p. leaves p (held n (flow other log)) ≡ true) (sym gives) (subst (λ p. leaves (cap_right due.k) p ≡ true)
    (sym ((values other).held_is n ∙ (rw (other_view c other due.data_too due.k b.service due.service ne) refl)))
    (left (cap_right due.k) (b.pair other).recorded even refl))
  where
    h : AbstractState w
    h = shadow config log

    is : SimulationRelation config log h.mail h.request h.state (system_after config log)
    is = matched-given _ log given

    b : Block (List ℕ)
    b = h.state.block n

    left : (p q : Perm) → (b.pair c).recorded ≡ p → (b.pair other).recorded ≡ q → leaves p q ≡ true
    left Perm.Trunk q e f = cc (f, (is.invariant.blocks n).one_owner c other (ap (λ r. same_perm r Perm.Trunk) e) ne)
    left Perm.Branch Perm.Trunk e f = absurd (let alone = (is.invariant.blocks n).one_owner other c
        (ap (λ r. same_perm r Perm.Trunk) f) (λ j. ne (sym j)) in
        let no : false ≡ true = rw e at alone in cc)
    left p q e f = refl

-- each other link leaves what is granted
beside : (link other : ℕ) (given held : Perm) → ((other ≡ link → ⊥) → leaves given held ≡ true)
    → (is_spared other (Some link) || leaves given held) ≡ true
beside link other given held left = grind (arith, cases_eq)

given-moved : {w : ℕ} (config : Config) (log : Log w) → IsGiven config log → (c : ℕ) (x : Beat w)
    (queue : List (Beat w)) → (system_after config log).channels c (channel_of x) ≡ x ∷ queue
    → IsGivenAlone c x (trace_of log)
given-moved config log given c (Beat.D y) queue beats = λ n block begun granted. free-where n (Some c)
    (capped y.param) block (trace_of log) (λ other. beside c other (capped y.param) (held block
    (on_link other (trace_of log))) (λ ne. rw (trace-flows other log) (given-next given c y queue beats block other
    (subst (λ t. grants block y t ≡ true) (trace-flows c log) granted) ne)))
given-moved config log given c (Beat.A y) queue beats = tt
given-moved config log given c (Beat.B y) queue beats = tt
given-moved config log given c (Beat.C y) queue beats = tt
given-moved config log given c (Beat.E y) queue beats = tt

-- ---- at each moment

one-writer : {w : ℕ} {config : Config} {log : Log w} → IsGiven config log → IsOneWriter (trace_of log)
one-writer {w} {config} {log} given one other n ne trunk =
    let b : Block (List ℕ) = (shadow config log).state.block n in
    let at = matched-given _ log given in
    let values : (c : ℕ) → held n (flow c log) ≡ held_by c b =
    λ c. (flowed config log given.width given.typed given.is_log c).held_is n in
    let most : (c : ℕ) → perm_le (held_by c b) (b.pair c).recorded ≡ true = λ c. held_by_most c b (view b.service c)
    (held_at_most (b.pair c) (view b.service c) ((at.invariant.blocks n).phases c)) in
    let fact = none_below _ _ (most other)
    ((at.invariant.blocks n).one_owner one other (trunk_below (held_by one b) (b.pair one).recorded (most one)
    (cc (values one, trace-flows one log))) ne) in cc (trace-flows other log, values other)

pub apart : {w : ℕ} (config : Config) (log : Log w) → IsGiven config log → IsApart log
apart config log given = record {
  given_alone = each-taken config (λ earlier link x. IsGivenAlone link x (trace_of earlier)) (given-moved config) log
      given;
  one_writer = one-writer given;
}
