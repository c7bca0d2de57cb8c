-- What the one-memory machine allows at a delivery: how an access ends as its answer comes.
use Rattle.std.proofs.Common.{◌≡◌, ℕ, ◌*◌, ◌-◌, ◌^◌, ◌≤◌, List, ◌∷◌, ◌++◌, Option, Some, None, refl, sym, ◌∙◌, ap}
use Rattle.std.proofs.Common.{subst, arith, ◌%◌, length, append_assoc, take, eqb-true, drop_at, take_at, drop, pow_pos}
use Rattle.std.proofs.Common.{replicate}
use Rattle.tl_coherence.proofs
use proofs.Imports.{length-replicate, Beat, BeatA, Link, Channel, OpD, IsWidth, Message, MessageA, MessageD}
use proofs.Imports.{IsBlankAfter, a_beat_of, beats_of, burst_of, d_beat_of, data_beats, History, unfinished, Config}
use proofs.Imports.{Level, control_aligned, control_of_legal, payload-d, payload_of, answer_of, as_payload, request_of}
use proofs.Imports.{Access, Finish, finish_of, open_beat, sourced, illegal_message_at, access_answer, no_payload}
use proofs.Imports.{level_of, Acquire, Answer, Replied, SourceState, packet, AbstractState, Answers, IsOpened, IsReach}
use proofs.Imports.{message_of_kind, block_message, IsRequest, SimulationRelation, block_used, first_of, is_caching}
use proofs.Imports.{Log, system_after, Ends, Machine, Requests, finish_with, pool_of, one_memory_after, System}
use Rattle.tl_manager.proofs.messages.Filled.{data_room, payload-long, payload-zero, room_in_beats}
use Rattle.tl_rules.specs.statement.Effect as memory
use proofs.client.ProbeDelivered.{answer_message}
use proofs.protocol.HeadOfD.{IsAnswerDue, answer-due}
use proofs.links.{Ending.IsEnding, Granting.same-response}
use proofs.flow.Windowed.{asked_replied}

-- ---- the bytes of an answer

-- bytes between zeros, again
bytes_again : (first : ℕ) (bytes : List ℕ) → take (length bytes) (drop first (as_payload first bytes)) ≡ bytes
bytes_again first bytes =
    let none : ℕ = 0 in
    let more : ℕ = 64 - first - length bytes in
    ap (λ xs. take (length bytes) (drop first xs)) (append_assoc (replicate first none) bytes (replicate more none))
    ∙ ap (take (length bytes)) (drop_at (replicate first none) (bytes ++ replicate more none) first
    (length-replicate first none)) ∙ take_at bytes (replicate more none) (length bytes) refl

-- the address of a lawful access is aligned
aligned : {w : ℕ} (o : Option Level) (m : MessageA w) → IsWidth w → illegal_message_at o (Message.A m) ≡ None
    → m.address % 2 ^ m.size ≡ 0
aligned None m width lawful = absurd cc
aligned {w} (Some l) m width lawful = eqb-true (m.address % 2 ^ m.size) 0
    (control_aligned w l m.opcode m.param m.size m.address (control_of_legal l m width lawful))

-- the bytes that come are those of the reply
bytes_come : {w : ℕ} (o : Option Level) (m : MessageA w) (bytes : List ℕ) (beats : List (Beat w)) → IsWidth w
    → illegal_message_at o (Message.A m) ≡ None → length bytes ≡ 2 ^ m.size
    → beats ≡ burst_of (Message.D (answer_message OpD.AccessAckData (as_payload (m.address % w) bytes) m))
    → take (2 ^ m.size) (drop (m.address % w) (payload_of beats)) ≡ bytes
bytes_come {w} o m bytes beats width lawful long burst =
    let d : MessageD w = answer_message OpD.AccessAckData (as_payload (m.address % w) bytes) m in
    let carried = room_in_beats w m.size m.address width m.small (aligned o m width lawful) in
    let room : w * data_beats w m.size ≤ 64 = data_room w m.size width m.small in
    let blank : IsBlankAfter (beats_of (Message.D d)) (Message.D d) = (
      payload-zero (m.address % w) (2 ^ m.size) (w * data_beats w m.size) bytes long carried room,
      pow_pos (data_beats w m.size),
    ) in
    let whole = payload-d d beats width (payload-long (m.address % w) (2 ^ m.size) bytes long
    (omega (arith, carried, room))) (burst, blank) in
    cc (whole, long, bytes_again (m.address % w) bytes)

-- ---- how the client ends an access that is answered

ends_answered : {w : ℕ} (o : Option Level) (m : MessageA w) (d : MessageD w) (r : memory.AccessResult)
    (beats : List (Beat w)) → IsWidth w → illegal_message_at o (Message.A m) ≡ None
    → Message.D d ≡ access_answer m (answer_of (Message.A m) r) → IsReach m r → beats ≡ burst_of (Message.D d)
    → finish_of w d.opcode d.param d.size m.address (payload_of beats) ≡ finish_with (Message.A m) r
ends_answered {w} o m d memory.Done beats width lawful answer reach burst =
    cc (same-response d (answer_message OpD.AccessAck no_payload m) answer)
ends_answered {w} o m d memory.Hinted beats width lawful answer reach burst =
    cc (same-response d (answer_message OpD.HintAck no_payload m) answer)
ends_answered {w} o m d (memory.Bytes bytes) beats width lawful answer reach burst =
    let same = same-response d _ answer in
    cc (same, bytes_come o m bytes beats width lawful reach (burst ∙ ap (λ i. burst_of (Message.D i)) same))

-- the source makes no difference
finish_sourced : {w : ℕ} (source : ℕ) (m : MessageA w) (r : memory.AccessResult)
    → finish_with (Message.A (sourced source m)) r ≡ finish_with (Message.A m) r
finish_sourced source m r = grind arith

-- ---- as the machine allows

-- what is open ends with its reply
open_ends : {w : ℕ} (c source : ℕ) (m : Machine w) (a : MessageA w) (r : memory.AccessResult) (x : Beat w)
    → m.opened c Requests source ≡ Some (record { asked = Access (Message.A a); answer = Some r })
    → Ends (m.opened c (pool_of (finish_with (Message.A a) r)) source) x (finish_with (Message.A a) r)
open_ends c source m a r x e = grind arith

-- a request that is open is the pending one
request_open : {w : ℕ} (source : ℕ) (x : BeatA w) (t : History w) → open_beat source t ≡ Some x
    → request_of source t ≡ Some x
request_open {w} source x t e = grind arith

-- what is open of an access that was answered
record IsOver {w : ℕ} (config : Config) (log : Log w) (c source : ℕ) (h : AbstractState w) : Type 0 where
  pub asked : MessageA w
  pub reply : memory.AccessResult
  pub request : h.mail.request c source ≡ Message.A (sourced source asked)
  pub lawful : illegal_message_at (level_of config c) (Message.A (sourced source asked)) ≡ None
  pub opened : (one_memory_after config log).opened c Requests source ≡ Some
      (record { asked = Access (Message.A asked); answer = Some reply })
  pub answer : h.mail.answer c source ≡ access_answer (sourced source asked)
      (answer_of (Message.A (sourced source asked)) reply)
  pub reach : IsReach (sourced source asked) reply
  pub pending_is : request_of source ((system_after config log).clients c).past ≡ Some
      (a_beat_of (sourced source asked) 0)

over : {w : ℕ} {config : Config} {log : Log w} (c source : ℕ) (h : AbstractState w)
    → SimulationRelation config log h.mail h.request h.state (system_after config log)
    → h.state.uses c source ≡ Replied → IsOver config log c source h
over {config} {log} c source h is used =
    let opened_as : (u : SourceState) → u ≡ Replied → IsOpened c source h.mail h.state u
    ((one_memory_after config log).opened c Requests source) → IsOpened c source h.mail h.state Replied
    ((one_memory_after config log).opened c Requests source) = λ u e i. rw e at i in
    let open_ = opened_as (h.state.uses c source) used (is.beside.requests c source) in
    let answers : Answers (Message.A (sourced source open_.1.0)) open_.0 (h.mail.answer c source) =
    subst (λ i. Answers i open_.0 (h.mail.answer c source)) open_.1.1 open_.2 in
    record {
      asked = open_.1.0;
      reply = open_.0;
      request = open_.1.1;
      lawful = (subst (IsRequest config c source) open_.1.1 (rw used at (is.sourced c source))).1;
      opened = open_.1.2;
      answer = answers.0;
      reach = answers.1;
      pending_is = request_open source _ _ ((is.known c).opens source ∙ asked_replied _
          (h.mail.request c source) (block_message Acquire c (block_used (h.state.uses c source))
          (h.state.block (block_used (h.state.uses c source)))) used ∙ ap first_of open_.1.1);
    }

-- the beats of the response, whole
whole_response : {w : ℕ} {config : Config} {log : Log w} {link : Link} {ch : Channel} {h : AbstractState w} {x : Beat w}
    {source : ℕ} {f : Finish} (end : IsEnding config log link ch h x source f)
    → Beat.D (d_beat_of end.response end.first.next.k) ∷ unfinished Channel.D
    ((system_after config log).clients link.0).past ≡ burst_of (Message.D end.response)
whole_response {w} end = grind arith

-- an answer ends its access as the machine allows
pub ends-answer : {w : ℕ} {config : Config} {log : Log w} {link : Link} {ch : Channel} {h : AbstractState w}
    {x : Beat w} {source : ℕ} {f : Finish} → IsWidth w → SimulationRelation config log h.mail h.request h.state
    (system_after config log) → (end : IsEnding config log link ch h x source f) → end.first.kind ≡ Answer
    → Ends ((one_memory_after config log).opened link.0 (pool_of f) source) x f
ends-answer {w} {config} {log} {link} {ch} {h} {x} {source} {f} width is end e =
    let sys : System w = system_after config log in
    let m : Machine w = one_memory_after config log in
    let it : IsOver config log link.0 n h = over link.0 n h is due.used in
    let payload : List ℕ = payload_of (Beat.D (d_beat_of end.response end.first.next.k) ∷ unfinished Channel.D
    (sys.clients link.0).past) in
    let fin : f ≡ finish_with (Message.A it.asked) it.reply = cc (
      end.finish_is,
      ap (λ i. request_of i (sys.clients link.0).past) (sym end.source_is ∙ from) ∙ it.pending_is,
      ends_answered _ _ _ it.reply _ width it.lawful (response_is ∙ it.answer) it.reach (whole_response end),
      finish_sourced n it.asked it.reply,
    ) in
    subst (λ i. Ends (m.opened link.0 (pool_of i) source) x i) (sym fin)
    (subst (λ i. Ends (m.opened link.0 (pool_of (finish_with (Message.A it.asked) it.reply)) i) x
    (finish_with (Message.A it.asked) it.reply)) (sym from) (open_ends link.0 n m it.asked it.reply x it.opened))
  where
    n : ℕ
    n = end.first.number

    due : IsAnswerDue link.0 n h.mail h.state
    due = answer-due (is_caching config) link.0 n _ h.mail _ is.invariant (is.answered link.0 n)
        (end.first.tokens ∙ ap (λ i. packet i n ∷ end.first.rest) e)

    response_is : Message.D end.response ≡ h.mail.answer link.0 n
    response_is = sym end.response_is ∙ ap (λ i. message_of_kind i h.mail h.state link.0 n) e

    from : source ≡ n
    from = cc (end.source_is, same-response _ _ (response_is ∙ due.answer_is), due.from)
