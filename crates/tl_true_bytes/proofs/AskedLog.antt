-- An access that is in service or answered is pending by what all links have carried.
use Rattle.tl_true_bytes.proofs.Imports.{Beat, BeatA, Link, a_beat_of, channel_of, unfinished, Config, on_link, pending, Ask}
use Rattle.tl_true_bytes.proofs.Imports.{Deliver, AbstractState, MonitorRelations, SimulationRelation, EachTaken}
use Rattle.tl_true_bytes.proofs.Imports.{trace_of, IsGiven, Log, system_after, shadow, trace-flows, flowed}
use Rattle.tl_true_bytes.proofs.Imports.{matched-given, Channel, Outcome}
use Rattle.std.proofs.Common.{◌≡◌, ℕ, true, false, List, [], ◌∷◌, sym, ◌∙◌, ap}
use Rattle.tl_burst.{specs.declared.message.Message.Message, specs.statement.Burst.beat_of}
use Rattle.tl_coherence.specs.{refinement.PacketMessages.message_of_kind, refinement.SimulationRelation.is_caching}
use Rattle.tl_coherence.proofs.{flow.FlowTaken.each-taken, queues.FirstToken.IsFirst, queues.FirstToken.first-token}
use Rattle.tl_concord.{proofs.Beats.same_a, proofs.Late.world-late, proofs.Responses.last_begun}
use Rattle.tl_bytes.proofs.OnTime.{AreOnTime}
use Rattle.tl_true_bytes.proofs.Asked.{IsSomePending, pending-more}
use Rattle.tl_true_bytes.proofs.Opened.{GoesOn, IsOpen}

-- ---- beats of a request go on with its source

source_of_beat : {w : ℕ} (m : Message w) (x v : BeatA w) (k j : ℕ) → Beat.A x ≡ beat_of m k → Beat.A v ≡ beat_of m j
    → x.source ≡ v.source
source_of_beat {w} (Message.A m) x v k j e f =
    ap (λ (z : BeatA w). z.source) (same_a x (a_beat_of m k) e)
    ∙ sym (ap (λ (z : BeatA w). z.source) (same_a v (a_beat_of m j) f))
source_of_beat (Message.B m) x v k j e f = absurd cc
source_of_beat (Message.C m) x v k j e f = absurd cc
source_of_beat (Message.D m) x v k j e f = absurd cc
source_of_beat (Message.E m) x v k j e f = absurd cc

goes-on : {w : ℕ} (config : Config) (log : Log w) → IsGiven config log → (c : ℕ) (x : Beat w) (queue : List (Beat w))
    → (system_after config log).channels c (channel_of x) ≡ x ∷ queue → GoesOn x (on_link c (trace_of log))
goes-on config log given c (Beat.B x) queue beats = λ z v older e. absurd cc
goes-on config log given c (Beat.C x) queue beats = λ z v older e. absurd cc
goes-on config log given c (Beat.D x) queue beats = λ z v older e. absurd cc
goes-on config log given c (Beat.E x) queue beats = λ z v older e. absurd cc
goes-on {w} config log given c (Beat.A x) queue beats = λ z v older e begun_so.
    let last = last_begun m first.next.k (Beat.A v) older
    (sym begun_so ∙ ap (unfinished Channel.A) (trace-flows c log) ∙ (values c).rest_is Channel.A ∙ first.next.rest_is)
    in
    source_of_beat m z v first.next.k last.0 (sym e ∙ first.next.beat_is) last.1
  where
    h : AbstractState w
    h = shadow config log

    is : SimulationRelation config log h.mail h.request h.state (system_after config log)
    is = matched-given config log given

    values : MonitorRelations log h.mail h.state (system_after config log)
    values = flowed config log given.width given.typed given.is_log

    first : IsFirst Channel.A c h.mail h.state (system_after config log) (Beat.A x) queue
    first = first-token (is_caching config) Channel.A c h.mail h.state (system_after config log) (Beat.A x) queue
        given.width is.invariant is.carried beats

    m : Message w
    m = message_of_kind first.kind h.mail h.state c first.number

-- ---- over the whole log

open-pending : {w : ℕ} (c s : ℕ) (log : Log w) → AreOnTime (trace_of log)
    → EachTaken (λ earlier link x. GoesOn x (on_link link (trace_of earlier))) log
    → IsOpen s (on_link c (trace_of log)) → IsSomePending c s (trace_of log)
unfolding EachTaken trace_of on_link pending
open-pending c s [] late each is = absurd (let no : false ≡ true = is.pending_is in cc)
open-pending c s ((Ask k i, o) ∷ log) late each is = open-pending c s log late each.1 is
open-pending c s ((Deliver link ch, Outcome.Moved x) ∷ log) late each is =
    pending-more c s link (trace_of log) late.1 x late.0 each.0 (open-pending c s log late.1 each.1) is
open-pending c s ((Deliver link ch, Outcome.Done x source f) ∷ log) late each is =
    pending-more c s link (trace_of log) late.1 x late.0 each.0 (open-pending c s log late.1 each.1) is
open-pending c s ((Deliver link ch, Outcome.Replied r) ∷ log) late each is = open-pending c s log late each.1 is
open-pending c s ((Deliver link ch, Outcome.Empty) ∷ log) late each is = open-pending c s log late each.1 is
open-pending c s ((Deliver link ch, Outcome.Stalled) ∷ log) late each is = open-pending c s log late each.1 is
open-pending c s ((Deliver link ch, Outcome.NoSuchClient) ∷ log) late each is = open-pending c s log late each.1 is

-- an access whose request is pending and complete is pending
pub pending-open : {w : ℕ} (config : Config) (log : Log w) → IsGiven config log → (c s : ℕ)
    → IsOpen s (on_link c (trace_of log)) → IsSomePending c s (trace_of log)
pending-open config log given c s is =
    open-pending c s log (world-late log given)
    (each-taken config (λ earlier link x. GoesOn x (on_link link (trace_of earlier))) (goes-on config) log given) is

-- a beat that moves goes on with the request that has begun
pub moved-on : {w : ℕ} (config : Config) (log : Log w) (link : Link) (ch : Channel) (y : Beat w)
    → IsGiven config ((Deliver link ch, Outcome.Moved y) ∷ log) → GoesOn y (on_link link.0 (trace_of log))
unfolding EachTaken
moved-on config log link ch y given =
    (each-taken config (λ earlier link x. GoesOn x (on_link link (trace_of earlier))) (goes-on config)
    ((Deliver link ch, Outcome.Moved y) ∷ log) given).0
