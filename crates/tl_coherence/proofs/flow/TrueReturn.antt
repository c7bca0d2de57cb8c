-- Each beat of data that are given back has bytes of the one memory.
use Rattle.std.proofs.Common.{◌≡◌, ℕ, Bool, true, List, ◌∷◌, sym, ◌∙◌, ap, length}
use Rattle.tl_coherence.proofs
use proofs.Imports.{Beat, BeatC, Channel, c_carries_data, length-begun, Message, MessageC, beat_of, begun, c_beat_of}
use proofs.Imports.{lanes_at, channel_of, unfinished, Config, on_link, IsBlock, block_at, AbstractState}
use proofs.Imports.{SimulationRelation, is_caching, flow, trace_of, IsGiven, Log, system_after, one_memory_after}
use Rattle.tl_coherence.specs.statement.TrueReturns.{IsTrueReturn, TrueReturns}
use proofs.deliveries.Matching.{shadow}
use proofs.flow.{ChannelCE.report_rendered, ChannelCE.release_rendered, FlowTaken.each-taken, FlowTraces.trace-flows}
use proofs.flow.{Flows.flowed}
use proofs.links.FromInvariant.{matched-given}
use proofs.manager.{ManagerTakes.by-first_c, Reporting.IsAbout}
use proofs.queues.FirstToken.{first-token}

true-next : {w : ℕ} {config : Config} {log : Log w} → IsGiven config log → (c : ℕ) (y : BeatC w) (queue : List (Beat w))
    → (system_after config log).channels c Channel.C ≡ Beat.C y ∷ queue → c_carries_data y.opcode ≡ true
    → (bytes : List ℕ) × IsBlock (one_memory_after config log).memory (block_at y.address) bytes
    × (y.lanes ≡ lanes_at true w bytes (length (unfinished Channel.C (flow c log))))
true-next {w} {config} {log} given c y queue beats with_data =
    let place : (m : Message w) (k : ℕ) → unfinished Channel.C (on_link c (system_after config log).manager.trace)
    ≡ begun m k → k ≡ length (unfinished Channel.C (flow c log)) = λ m k e. sym (ap length
    (((flowed config log given.width given.typed given.is_log) c).rest_is Channel.C ∙ e) ∙ length-begun m k) in
    by-first_c (λ i. True) c h.mail h.state _ _ queue (first-token (is_caching config) Channel.C c h.mail h.state
    (system_after config log) (Beat.C y) queue given.width is.invariant is.carried beats) (λ n rest tokens next.
    let m = report_rendered c n _ given.width (is.sized n).truth in
    about n true _ _ m.0 m.2 next.k (next.beat_is ∙ ap (λ z. beat_of z next.k) m.1)
    (place (Message.C m.0) next.k (next.rest_is ∙ ap (λ z. begun z next.k) m.1))) (λ n rest tokens next.
    let m = release_rendered c n _ given.width (is.sized n).truth in
    about n _ _ _ m.0 m.2 next.k (next.beat_is ∙ ap (λ z. beat_of z next.k) m.1)
    (place (Message.C m.0) next.k (next.rest_is ∙ ap (λ z. begun z next.k) m.1)))
  where
    h : AbstractState w
    h = shadow config log

    is : SimulationRelation config log h.mail h.request h.state (system_after config log)
    is = matched-given _ log given

    True : Type 0
    True = (bytes : List ℕ) × IsBlock (one_memory_after config log).memory (block_at y.address) bytes
        × (y.lanes ≡ lanes_at true w bytes (length (unfinished Channel.C (flow c log))))

    about : (n : ℕ) (b : Bool) (param : ℕ) (carries : Bool) (m : MessageC w)
        → IsAbout b n param carries (h.state.block n).truth m → (k : ℕ) → Beat.C y ≡ beat_of (Message.C m) k
        → k ≡ length (unfinished Channel.C (flow c log)) → True
    about n b param carries m says k beat_is at =
        let same : y ≡ c_beat_of m k = cc in
        let of_block : block_at y.address ≡ n = ap (λ z. block_at z.address) same ∙ says.block in
        let data_too : c_carries_data m.opcode ≡ true = cc (same, with_data) in
        let lanes : y.lanes ≡ lanes_at true w (h.state.block n).truth (length (unfinished Channel.C (flow c log))) =
        cc (same, data_too, says.payload_is (sym says.carries_is ∙ data_too), at) in
        ((h.state.block n).truth, rw of_block (is.beside.memory n), lanes)

true-moved : {w : ℕ} (config : Config) (log : Log w) → IsGiven config log → (c : ℕ) (x : Beat w) (queue : List (Beat w))
    → (system_after config log).channels c (channel_of x) ≡ x ∷ queue
    → IsTrueReturn (one_memory_after config log).memory c x (trace_of log)
true-moved config log given c (Beat.C y) queue beats =
    λ with_data. rw (trace-flows c log) (true-next given c y queue beats with_data)
true-moved config log given c (Beat.A y) queue beats = tt
true-moved config log given c (Beat.B y) queue beats = tt
true-moved config log given c (Beat.D y) queue beats = tt
true-moved config log given c (Beat.E y) queue beats = tt

pub true_returns : {w : ℕ} → TrueReturns w
true_returns config log given = each-taken config (λ earlier link x. IsTrueReturn
    (one_memory_after config earlier).memory link x (trace_of earlier)) (true-moved config) log given
