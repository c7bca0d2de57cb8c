-- Each beat of an AccessAckData has bytes that the one memory had in a window of its access.
use Rattle.std.proofs.Common.{◌≡◌, ℕ, Bool, true, false, List, [], ◌∷◌, ◌⊎◌, Some, None, sym, ◌∙◌, ap, subst, inl}
use Rattle.std.proofs.Common.{arith, inr, length, is_some}
use Rattle.tl_coherence.proofs
use proofs.Imports.{Beat, BeatA, BeatD, Channel, OpD, Message, MessageA, MessageD, a_beat_of, d_beat_of, channel_of}
use proofs.Imports.{unfinished, Config, open_request, on_link, Memory, answer_of, effect, block_at, request_of, is_free}
use proofs.Imports.{needs, access_answer, grant_opcode, level_of, Replied, AbstractState, answers, MonitorRelations}
use proofs.Imports.{flow, trace_of, IsGiven, Log, system_after, one_memory_after, System}
use Rattle.tl_coherence.specs.statement.TrueReads.{IsTrueRead, TrueReads, WasFound, lanes_found}
use proofs.bound.Settling.{given-before}
use proofs.deliveries.Matching.{shadow}
use proofs.flow.{FlowTaken.each-taken, FlowTraces.trace-flows, Flows.flowed, NextOnD.next-on_d, Renewed.IsSettledFor}
use proofs.flow.Windowed.{asked_flow, closed_first, free-now, opened-now, renewed-followed, same_first}
use proofs.links.FromInvariant.{matched-given}
use proofs.memory.{OneMemory.reply-performed, BesideTaken.same_message}

-- ---- what is answered

-- after this event nobody holds what excludes the access, and it is answered what the one memory had before
record IsAnswered {w : ℕ} (config : Config) (m : MessageA w) (reply : Message w) (now before : Log w) : Type 0 where
  free : (n : ℕ) → is_free n None (needs m.opcode) (block_at m.address) (trace_of now) ≡ true
  reply_is : reply ≡ access_answer m
      (answer_of (Message.A m) (effect (Message.A m) (one_memory_after config before).memory).1)

-- since the access with this source is complete there has been such an event
unfoldable WasAnswered : {w : ℕ} → Config → ℕ → ℕ → MessageA w → Message w → Log w → Type 0
WasAnswered config c source m reply [] = ⊥
WasAnswered config c source m reply (e ∷ log) = (is_some (open_request source (on_link c (trace_of (e ∷ log)))) ≡ true)
    × (IsAnswered config m reply (e ∷ log) log ⊎ WasAnswered config c source m reply log)

-- each access that is answered was so
answered : {w : ℕ} {config : Config} (log : Log w) → IsGiven config log → (c source : ℕ) (m : MessageA w)
    → (shadow config log).state.uses c source ≡ Replied → (shadow config log).mail.request c source ≡ Message.A m
    → WasAnswered config c source m ((shadow config log).mail.answer c source) log
unfolding shadow system_after WasAnswered
answered [] given c source m used request = absurd (closed_first used)
answered {w} {config} (x ∷ log) given c source m used request =
    let before : IsGiven config log = given-before _ x log given in
    let h : AbstractState w = shadow config log in
    let h' : AbstractState w = shadow config (x ∷ log) in
    let sys' : System w = system_after config (x ∷ log) in
    let is = matched-given _ log before in
    let is' = matched-given _ _ given in
    let values = flowed config (x ∷ log) given.width given.typed given.is_log in
    let now : (i : MessageA w) → h'.mail.request c source ≡ Message.A i → IsSettledFor i h'.state
    → h'.mail.answer c source ≡ answers i (h.state.block (block_at i.address)).truth → i ≡ m
    → IsAnswered config m (h'.mail.answer c source) (x ∷ log) log = λ i asked settled replied same. record {
      free = λ n. free-now config (x ∷ log) h' sys' is' values c source m used request (rw same at settled) n;
      reply_is = subst (λ j. h'.mail.answer c source ≡ answers j
          (h.state.block (block_at j.address)).truth) same replied ∙ ap (λ r. access_answer m
          (answer_of (Message.A m) r)) (sym (reply-performed (level_of config c) m (one_memory_after config log).memory
          (h.state.block (block_at m.address)).truth given.width ((rw (used, request) at (is'.sourced c source)).1)
          (is.beside.memory (block_at m.address)) (is.sized (block_at m.address)).truth));
    } in (
      opened-now config (x ∷ log) h' sys' is' values c source m used request,
      elim (renewed-followed config log x.0 h given.width is c source used) [
        | inl old ↦ inr (subst (λ r. WasAnswered config c source m r log) (sym old.1.1)
            (answered log before c source m old.0 (sym old.1.0 ∙ request)))
        | inr new ↦ inl (now new.0 new.1 new.2 new.3 (same_message new.0 m (sym new.1 ∙ request)))
      ],
    )

-- ---- its beats

-- an answer with data has the bytes that were found
lanes_answered : {w : ℕ} (m : MessageA w) (f : Memory) (z : MessageD w) (k : ℕ)
    → Message.D z ≡ access_answer m (answer_of (Message.A m) (effect (Message.A m) f).1) → z.opcode ≡ OpD.AccessAckData
    → (d_beat_of z k).lanes ≡ lanes_found (a_beat_of m 0) f k
unfolding effect
lanes_answered {w} m f z k is with_data = grind arith

found-beat : {w : ℕ} (config : Config) (c source : ℕ) (m : MessageA w) (z : MessageD w) (k : ℕ) (log : Log w)
    → z.opcode ≡ OpD.AccessAckData → WasAnswered config c source m (Message.D z) log
    → WasFound config c source (a_beat_of m 0) (d_beat_of z k).lanes k log
unfolding WasAnswered WasFound
found-beat config c source m z k [] with_data was = absurd was
found-beat config c source m z k (e ∷ log) with_data was = (
  was.0,
  elim was.1 [
    | inl is ↦ inl (record {
      free = is.free;
      lanes_are = lanes_answered m _ z k is.reply_is with_data;
    })
    | inr more ↦ inr (found-beat config c source m z k log with_data more)
  ],
)

-- ---- a beat that is next

true-next : {w : ℕ} {config : Config} {log : Log w} → IsGiven config log → (c : ℕ) (y : BeatD w) (queue : List (Beat w))
    → (system_after config log).channels c Channel.D ≡ Beat.D y ∷ queue
    → (x : BeatA w) → y.opcode ≡ OpD.AccessAckData → request_of y.source (flow c log) ≡ Some x
    → WasFound config c y.source x y.lanes (length (unfinished Channel.D (flow c log))) log
true-next {w} {config} {log} given c y queue beats x with_data asks =
    let no_grant : (b : Bool) → grant_opcode b ≡ OpD.AccessAckData → ⊥ = elim [ true ↦ λ e. cc | false ↦ λ e. cc ] in
    next-on_d config log h c y queue given.width (matched-given _ log given) values beats Found (λ i due e. answer i _ _
    e (ap (λ z. z.source) e ∙ due.from) due.used due.request_is due.answer_is) (λ i grant. no_answer (ap (λ z. z.opcode)
    grant.beat_is) (no_grant grant.due.data_too)) (λ i j e. no_answer (ap (λ z. z.opcode) e) (λ f. cc))
  where
    h : AbstractState w
    h = shadow config log

    values : MonitorRelations log h.mail h.state (system_after config log)
    values = flowed config log given.width given.typed given.is_log

    k : ℕ
    k = length (unfinished Channel.D (flow c log))

    Found : Type 0
    Found = WasFound config c y.source x y.lanes k log

    no_answer : {o : OpD} → y.opcode ≡ o → (o ≡ OpD.AccessAckData → ⊥) → Found
    no_answer e refuse = absurd (refuse (sym e ∙ with_data))

    answer : (i : ℕ) (m : MessageA w) (z : MessageD w) → y ≡ d_beat_of z k → y.source ≡ i
        → h.state.uses c i ≡ Replied → h.mail.request c i ≡ Message.A m → h.mail.answer c i ≡ Message.D z → Found
    answer i m z e from used request reply =
        let used_y : h.state.uses c y.source ≡ Replied = ap (h.state.uses c) from ∙ used in
        let request_y : h.mail.request c y.source ≡ Message.A m = ap (h.mail.request c) from ∙ request in
        subst (λ u. WasFound config c y.source u y.lanes k log) (same_first x (a_beat_of m 0)
        (sym asks ∙ asked_flow config log h (system_after config log) (matched-given _ log given) values c y.source m
        used_y request_y)) (rw (ap (λ u. u.lanes) e) (found-beat config c y.source m z k log (sym (ap (λ u. u.opcode) e)
        ∙ with_data) (rw (ap (h.mail.answer c) from ∙ reply) at (answered log given c y.source m used_y request_y))))

true-moved : {w : ℕ} (config : Config) (log : Log w) → IsGiven config log → (c : ℕ) (x : Beat w) (queue : List (Beat w))
    → (system_after config log).channels c (channel_of x) ≡ x ∷ queue → IsTrueRead config c x log
true-moved config log given c (Beat.D y) queue beats = λ x with_data asks. rw (trace-flows c log)
    (true-next given c y queue beats x with_data (ap (request_of y.source) (sym (trace-flows c log)) ∙ asks))
true-moved config log given c (Beat.A y) queue beats = tt
true-moved config log given c (Beat.B y) queue beats = tt
true-moved config log given c (Beat.C y) queue beats = tt
true-moved config log given c (Beat.E y) queue beats = tt

pub true_reads : {w : ℕ} → TrueReads w
true_reads config log given =
    each-taken config (λ earlier link x. IsTrueRead config link x earlier) (true-moved config) log given
