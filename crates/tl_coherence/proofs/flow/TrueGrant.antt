-- Each beat of a GrantData has bytes of the one memory.
use Rattle.std.proofs.Common.{◌≡◌, ℕ, Bool, true, List, ◌∷◌, sym, ◌∙◌, ap, subst, length, arith}
use Rattle.tl_coherence.proofs
use proofs.Imports.{Beat, BeatD, Channel, OpD, lanes_at, channel_of, unfinished, Config, IsBlock, grants, grant_opcode}
use proofs.Imports.{flow, trace_of, IsGiven, Log, system_after, one_memory_after}
use Rattle.tl_coherence.specs.statement.TrueGrants.{IsTrueGrant, TrueGrants}
use proofs.deliveries.Matching.{shadow}
use proofs.flow.{FlowTaken.each-taken, FlowTraces.trace-flows, Flows.flowed, NextOnD.grant-next}
use proofs.links.FromInvariant.{matched-given}

with_data_only : (x : Bool) → grant_opcode x ≡ OpD.GrantData → x ≡ true
with_data_only x e = grind arith

pub true-next : {w : ℕ} (config : Config) (log : Log w) → IsGiven config log → (c : ℕ) (y : BeatD w)
    (queue : List (Beat w)) → (system_after config log).channels c Channel.D ≡ Beat.D y ∷ queue
    → (n : ℕ) → grants n y (flow c log) ≡ true → y.opcode ≡ OpD.GrantData
    → (bytes : List ℕ) × (length bytes ≡ 64) × IsBlock (one_memory_after config log).memory n bytes
    × (y.lanes ≡ lanes_at true w bytes (length (unfinished Channel.D (flow c log))))
true-next {w} config log given c y queue beats n granted with_data =
    let k = length (unfinished Channel.D (flow c log)) in
    let h = shadow config log in
    let is = matched-given _ log given in
    let grant = grant-next config log h c y queue given.width is
    (flowed config log given.width given.typed given.is_log) beats n granted in
    let due = grant.due in
    let lanes : y.lanes ≡ lanes_at true w (h.state.block n).truth k =
    cc (grant.beat_is, with_data_only due.data_too (sym (ap (λ z. z.opcode) grant.beat_is) ∙ with_data)) in
    ((h.state.block n).truth, (is.sized n).truth, is.beside.memory n, lanes)

true-moved : {w : ℕ} (config : Config) (log : Log w) → IsGiven config log → (c : ℕ) (x : Beat w) (queue : List (Beat w))
    → (system_after config log).channels c (channel_of x) ≡ x ∷ queue
    → IsTrueGrant (one_memory_after config log).memory c x (trace_of log)
true-moved config log given c (Beat.D y) queue beats =
    λ n granted with_data. rw (trace-flows c log) (let found = true-next _ log given c y queue beats n (subst
    (λ t. grants n y t ≡ true) (trace-flows c log) granted) with_data in (found.0, found.2, found.3))
true-moved config log given c (Beat.A y) queue beats = tt
true-moved config log given c (Beat.B y) queue beats = tt
true-moved config log given c (Beat.C y) queue beats = tt
true-moved config log given c (Beat.E y) queue beats = tt

pub true_grants : {w : ℕ} → TrueGrants w
true_grants config log given = each-taken config (λ earlier link x. IsTrueGrant
    (one_memory_after config earlier).memory link x (trace_of earlier)) (true-moved config) log given
