-- What the protocol does at an event of the world: an asked operation that starts, a store, and the last beat of a
-- message that is taken are events of the protocol; all else leaves it as it is.
use Rattle.std.specs.Prelude.{ℕ, zero, suc, Bool, true, false, not, List, [], ◌∷◌, ◌==◌, ◌&&◌, ◌||◌, ◌-◌, ◌*◌}
use Rattle.std.specs.Prelude.{if◌then◌else◌, Option, Some, None, length, slice_index}
use Rattle.tl_beat.specs.declared.beat.Beat.{Beat}
use Rattle.tl_beat.specs.declared.channel.Channel.{Channel}
use Rattle.tl_beat.specs.declared.opcode.OpA.{OpA}
use Rattle.tl_beat.specs.declared.opcode.OpA.TheVariants as a
use Rattle.tl_burst.specs.declared.message.Message.{Message}
use Rattle.tl_burst.specs.declared.message.Message.TheVariants as message
use Rattle.tl_burst.specs.declared.message.MessageA.{MessageA}
use Rattle.tl_burst.specs.statement.Messages.{unfinished}
use Rattle.tl_burst.specs.statement.Part.{completes}
use Rattle.tl_params.specs.declared.config.Config.{Config}
use Rattle.tl_params.specs.declared.param.Cap.{Cap}
use Rattle.tl_params.specs.declared.param.Grow.{Grow}
use Rattle.tl_params.specs.declared.param.Grow.TheVariants as grow
use Rattle.tl_params.specs.declared.param.Report.{Report}
use Rattle.tl_params.specs.declared.perm.Perm.TheVariants as perm
use Rattle.tl_params.specs.declared.profile.Profile.{Profile}
use Rattle.tl_params.specs.statement.Param.{grow_code}
use Rattle.tl_rules.specs.statement.Effect.{Memory, bytes_from, effect, answer_of}
use Rattle.tl_rules.specs.statement.History.{block_at}
use Rattle.tl_rules.specs.statement.Conformance.{same_perm}
use Rattle.tl_client.specs.declared.operation.Op.{Op}
use Rattle.tl_client.specs.declared.operation.Op.TheVariants as op
use Rattle.tl_client.specs.declared.reply.Reply.{Reply}
use Rattle.tl_client.specs.declared.reply.Reply.TheVariants as reply
use Rattle.tl_client.specs.statement.Ask.{copy_stored, whole_grow}
use Rattle.tl_client.specs.statement.Endpoint.{zeros}
use Rattle.tl_client.specs.statement.Send.{access, acquisition}
use Rattle.tl_manager.specs.statement.Handing.{access_answer, cap_granted}
use Rattle.tl_manager.specs.statement.Holders.{cap_probed}
use Rattle.tl_manager.specs.statement.Service.{services, least_untaken, trackers_of}
use Rattle.tl_coherence.specs.declared.event.Event.{Event}
use Rattle.tl_coherence.specs.declared.event.Event.TheVariants.{Ask, Deliver}
use Rattle.tl_coherence.specs.declared.event.Outcome.{Outcome}
use Rattle.tl_coherence.specs.declared.event.Outcome.TheVariants as outcome
use Rattle.tl_coherence.specs.statement.Draining.{is_moving}
use Rattle.tl_coherence.specs.protocol.Invariant.{resting, cap_asked}
use Rattle.tl_coherence.specs.statement.Delivery.{receiver}
use Rattle.tl_coherence.specs.protocol.Phase.{ClientBlock, AcquirePhase, NoAcquire, AcquireOpen, is_unprobed, is_whole}
use Rattle.tl_coherence.specs.protocol.PhaseSteps.{is_granted_data, after_report}
use Rattle.tl_coherence.specs.protocol.Protocol.{Service, Free, Waits, GrantSent, Block, State, Link, SourceFree}
use Rattle.tl_coherence.specs.protocol.Protocol.{packets_on, is_probed, written, access_asked, acquire_asked}
use Rattle.tl_coherence.specs.protocol.Protocol.{release_asked, block_stored, access_answered, access_served}
use Rattle.tl_coherence.specs.protocol.Protocol.{acquire_granted, acquire_served, probe_taken, report_taken}
use Rattle.tl_coherence.specs.protocol.Protocol.{report_answers, report_grants, release_taken, answer_taken}
use Rattle.tl_coherence.specs.protocol.Protocol.{grant_taken, release_ack_taken, grant_ack_taken}
use Rattle.tl_coherence.specs.refinement.PacketMessages.{AccessMessages, cap_sent, report_told, prune_told}
use Rattle.tl_coherence.specs.statement.Step.{stepped}
use Rattle.tl_coherence.specs.statement.System.{System}
use Rattle.tl_coherence.specs.protocol.Packet.{Kind, Request, Acquire, Probe, ProbeAck, Release, Answer, Grant}
use Rattle.tl_coherence.specs.protocol.Packet.{ReleaseAck, GrantAck, Packet, set, set_at}

-- the protocol beside a world, the accesses and their answers, and the request that has each block in service
pub record AbstractState (w : ℕ) : Type 0 where
  pub state : State (List ℕ)
  pub mail : AccessMessages w
  pub request : ℕ → MessageA w

-- ---- as a world begins

abbrev pub first_block : Block (List ℕ)
first_block = record {
  service = Free;
  tracker = 0;
  pair = λ c. resting;
  source = λ c. 0;
  release_source = λ c. 0;
  copy = λ c. zeros;
  waiting = λ c. zeros;
  memory = zeros;
  truth = zeros;
}

abbrev pub first_link : Link
first_link = record { a = []; b = []; c = []; d = []; e = [] }

abbrev pub first_state : State (List ℕ)
first_state = record {
  block = λ n. first_block;
  link = λ c. first_link;
  uses = λ c source. SourceFree;
  lets =
      λ c source. None;
  tracked = λ i. None;
}

abbrev pub no_request : {w : ℕ} → MessageA w
no_request = acquisition a.AcquireBlock grow.NtoB 0 0

abbrev pub first_abstract_state : {w : ℕ} → AbstractState w
first_abstract_state = record {
  state = first_state;
  mail = record { request = λ c source. message.A no_request; answer = λ c source. message.A no_request };
  request = λ n. no_request;
}

-- ---- a client is asked

abbrev pub with_state : {w : ℕ} → State (List ℕ) → AbstractState w → AbstractState w
with_state s h = record h { state = s }

abbrev pub with_request : {w : ℕ} → ℕ → ℕ → Message w → AbstractState w → AbstractState w
with_request c source m h =
    record h { mail = record { request = set_at c source m h.mail.request; answer = h.mail.answer } }

abbrev pub with_answer : {w : ℕ} → ℕ → ℕ → Message w → AbstractState w → AbstractState w
with_answer c source m h =
    record h { mail = record { request = h.mail.request; answer = set_at c source m h.mail.answer } }

-- with this request in service of block n
abbrev pub with_served : {w : ℕ} → ℕ → MessageA w → AbstractState w → AbstractState w
with_served n m h = record h { request = set n m h.request }

abbrev pub asked : {w : ℕ} → ℕ → Op w → Reply → AbstractState w → AbstractState w
asked c (op.Store address size value) reply.Stored h =
    with_state (block_stored c (block_at address)
    (copy_stored address size value ((h.state.block (block_at address)).copy c)) h.state) h
asked c (op.Acquire n g) (reply.Started source) h =
    with_state (acquire_asked c n source false g ((h.state.block n).waiting c) h.state) h
asked c (op.AcquireWhole n bytes) (reply.Started source) h =
    with_state (acquire_asked c n source true (whole_grow ((h.state.block n).pair c).held) bytes h.state) h
asked c (op.Release n r) (reply.Started source) h = with_state (release_asked c n source r h.state) h
asked c (op.Access (message.A m)) (reply.Started source) h =
    with_request c source (access source m) (with_state (access_asked c source h.state) h)
asked c o r h = h

-- ---- the manager takes a request

-- some number below n passes the test
unfoldable pub some_below : ℕ → (ℕ → Bool) → Bool
some_below zero test = false
some_below (suc n) test = test n || some_below n test

-- a memory that has these bytes in block n
abbrev pub bytes_at : ℕ → List ℕ → Memory
bytes_at n bytes address = slice_index bytes (address - 64 * n)

-- what an access does to the bytes of its block
abbrev pub performs : {w : ℕ} → MessageA w → List ℕ → List ℕ
performs m bytes = bytes_from (effect (message.A m) (bytes_at (block_at m.address) bytes)).0 (64 * block_at m.address)
    64

-- its answer, where the block has these bytes
abbrev pub answers : {w : ℕ} → MessageA w → List ℕ → Message w
answers m bytes = access_answer m
    (answer_of (message.A m) (effect (message.A m) (bytes_at (block_at m.address) bytes)).1)

abbrev pub access_taken : {w : ℕ} → ℕ → ℕ → MessageA w → ℕ → Bool → Option Cap → List Packet → AbstractState w
    → AbstractState w
access_taken c source m tracker true (Some k) rest h =
    with_served (block_at m.address) m (with_state (access_served c (block_at m.address) source tracker k rest h.state)
    h)
access_taken c source m tracker _ _ rest h =
    with_answer c source (answers m (h.state.block (block_at m.address)).memory)
    (with_state (access_answered c (block_at m.address) source (performs m) rest h.state) h)

-- somebody is probed with this cap
abbrev pub probes_some : ℕ → ℕ → Bool → Option Cap → (ℕ → ClientBlock) → Bool
probes_some clients r own None pair = false
probes_some clients r own (Some k) pair = some_below clients (λ d. is_probed r own k (pair d).recorded d)

abbrev pub request_taken : {w : ℕ} → ℕ → ℕ → ℕ → Message w → ℕ → List Packet → AbstractState w → AbstractState w
request_taken clients c source (message.A m) tracker rest h =
    access_taken c source m tracker (probes_some clients c false (cap_probed m.opcode m.param)
    (h.state.block (block_at m.address)).pair) (cap_probed m.opcode m.param) rest h
request_taken clients c source _ tracker rest h = h

abbrev pub acquire_opcode : Bool → OpA
acquire_opcode true = a.AcquirePerm
acquire_opcode false = a.AcquireBlock

-- nobody is recorded with a copy
abbrev pub is_unheld : ℕ → (ℕ → ClientBlock) → Bool
is_unheld clients pair = not (some_below clients (λ d. not (same_perm (pair d).recorded perm.None)))

-- the cap that an Acquire is granted
abbrev pub gift : Profile → Bool → Grow → Bool → Cap
gift profile whole g unheld = cap_granted profile (acquire_opcode whole) (grow_code g) unheld

abbrev pub acquire_taken : {w : ℕ} → ℕ → Profile → ℕ → ℕ → AcquirePhase → ℕ → List Packet → AbstractState w
    → AbstractState w
acquire_taken clients profile c n NoAcquire tracker rest h = h
acquire_taken {w} clients profile c n (AcquireOpen whole g) tracker rest h =
    let b : Block (List ℕ) = h.state.block n in
    with_served n (acquisition (acquire_opcode whole) g (b.source c) n) (with_state (
    if some_below clients (λ d. is_probed c true (cap_asked (AcquireOpen whole g)) (b.pair d).recorded d)
    then acquire_served c n (b.source c) tracker (cap_asked (AcquireOpen whole g)) rest h.state
    else acquire_granted c n tracker (is_granted_data whole g (b.pair c).recorded)
    (gift profile whole g (is_unheld clients b.pair)) rest h.state
    ) h)

-- ---- it takes a ProbeAck

abbrev pub granted_after : {w : ℕ} → ℕ → Profile → ℕ → ℕ → ℕ → Report → AcquirePhase → List Packet → AbstractState w
    → AbstractState w
granted_after clients profile c q n r NoAcquire rest h = h
granted_after clients profile c q n r (AcquireOpen whole g) rest h =
    let b : Block (List ℕ) = h.state.block n in
    with_state (report_grants c q n r (is_granted_data whole g (b.pair q).recorded)
    (gift profile whole g (is_unheld clients (set c (after_report r (b.pair c)) b.pair))) rest h.state) h

abbrev pub last_taken : {w : ℕ} → ℕ → Profile → ℕ → ℕ → Report → Service → List Packet → AbstractState w
    → AbstractState w
last_taken clients profile c n r (Waits q true source k) rest h =
    granted_after clients profile c q n r ((h.state.block n).pair q).acquiring rest h
last_taken clients profile c n r (Waits q false source k) rest h =
    with_answer q source (answers (h.request n) (written r (h.state.block n).truth (h.state.block n).memory))
    (with_state (report_answers c q n source r (performs (h.request n)) rest h.state) h)
last_taken clients profile c n r _ rest h = h

abbrev pub ack_taken : {w : ℕ} → ℕ → Profile → ℕ → ℕ → Report → List Packet → AbstractState w → AbstractState w
ack_taken clients profile c n r rest h =
    if some_below clients (λ d. not (d == c) && not (is_unprobed ((h.state.block n).pair d).probing))
    then with_state (report_taken c n r rest h.state) h
    else last_taken clients profile c n r (h.state.block n).service rest h

-- ---- a client takes a Grant

abbrev pub taken_by_client : {w : ℕ} → ℕ → ℕ → Service → List Packet → AbstractState w → AbstractState w
taken_by_client c n (GrantSent q d k) rest h =
    with_state (grant_taken c n (is_whole ((h.state.block n).pair c).acquiring) d k rest h.state) h
taken_by_client c n _ rest h = h

-- ---- all messages that are taken

abbrev pub kind_taken : {w : ℕ} → Config → ℕ → ℕ → Kind → ℕ → List Packet → AbstractState w → AbstractState w
kind_taken config tracker c Request source rest h = request_taken (length config.clients.items) c source
    (h.mail.request c source) tracker rest h
kind_taken config tracker c Acquire n rest h = acquire_taken (length config.clients.items) config.profile c n
    ((h.state.block n).pair c).acquiring tracker rest h
kind_taken config tracker c Probe n rest h =
    with_state (probe_taken c n (cap_sent ((h.state.block n).pair c).probing) rest h.state) h
kind_taken config tracker c ProbeAck n rest h = ack_taken (length config.clients.items) config.profile c n
    (report_told ((h.state.block n).pair c).probing) rest h
kind_taken config tracker c Release n rest h =
    with_state (release_taken c n (prune_told ((h.state.block n).pair c).letting) rest h.state) h
kind_taken config tracker c Answer source rest h = with_state (answer_taken c source rest h.state) h
kind_taken config tracker c Grant n rest h = taken_by_client c n (h.state.block n).service rest h
kind_taken config tracker c ReleaseAck n rest h = with_state (release_ack_taken c n rest h.state) h
kind_taken config tracker c GrantAck n rest h = with_state (grant_ack_taken c n rest h.state) h

abbrev pub packet_taken : {w : ℕ} → Config → ℕ → ℕ → List Packet → AbstractState w → AbstractState w
packet_taken config tracker c [] h = h
packet_taken config tracker c (x ∷ rest) h = kind_taken config tracker c x.kind x.number rest h

-- ---- an event

abbrev pub is_last : {w : ℕ} → List (Beat w) → List (Beat w) → Bool
is_last [] rest = false
is_last (x ∷ beats) rest = completes x rest

abbrev pub abstract_delivery : {w : ℕ} → Config → ℕ → Channel → Outcome w → System w → AbstractState w → AbstractState w
abstract_delivery config c ch o sys h =
    if is_moving o && is_last (sys.channels c ch) (unfinished ch (receiver ch c sys))
    then packet_taken config (least_untaken (trackers_of (services sys.manager.trace))) c
    (packets_on ch (h.state.link c)) h
    else h

abbrev pub abstract_step_by : {w : ℕ} → Config → Event w → Outcome w → System w → AbstractState w → AbstractState w
abstract_step_by config (Ask c o) (outcome.Replied r) sys h = asked c o r h
abstract_step_by config (Deliver link ch) o sys h = abstract_delivery config link.0 ch o sys h
abstract_step_by config _ o sys h = h

-- the protocol after an event of the world, before which it was so
abbrev pub abstract_step : {w : ℕ} → Config → Event w → System w → AbstractState w → AbstractState w
abstract_step config event sys h = abstract_step_by config event (stepped config event sys).outcome sys h
