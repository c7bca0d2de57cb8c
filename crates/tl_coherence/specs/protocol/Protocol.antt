-- The protocol of blocks: what each block and each link has, and what events do to them. X is what the 64
-- bytes of a block are.
use Rattle.std.specs.Prelude.{ℕ, Bool, true, false, not, List, [], ◌∷◌, ◌++◌, ◌==◌, ◌&&◌, if◌then◌else◌, Option, Some}
use Rattle.std.specs.Prelude.{None}
use Rattle.tl_beat.specs.declared.channel.Channel.{Channel}
use Rattle.tl_beat.specs.declared.channel.Channel.TheVariants as channel
use Rattle.tl_params.specs.declared.param.Cap.{Cap}
use Rattle.tl_params.specs.declared.param.Grow.{Grow}
use Rattle.tl_params.specs.declared.param.Prune.{Prune}
use Rattle.tl_params.specs.declared.param.Report.{Report}
use Rattle.tl_params.specs.declared.perm.Perm.{Perm}
use Rattle.tl_params.specs.declared.perm.Perm.TheVariants as perm
use Rattle.tl_params.specs.statement.Param.{prune_left, report_left}
use Rattle.tl_rules.specs.statement.Conformance.{same_perm}
use Rattle.tl_coherence.specs.protocol.Phase.{ClientBlock, View, Idle, Own, Other, Granting, Acknowledging}
use Rattle.tl_coherence.specs.protocol.Phase.{GrantedOther}
use Rattle.tl_coherence.specs.protocol.PhaseSteps.{is_above, after_acquire, after_release, after_served}
use Rattle.tl_coherence.specs.protocol.PhaseSteps.{after_grant_sent, after_probe, after_report, after_release_taken}
use Rattle.tl_coherence.specs.protocol.PhaseSteps.{after_release_ack, after_grant}
use Rattle.tl_coherence.specs.protocol.Packet.{Kind, Request, Acquire, Probe, ProbeAck, Release, Answer, Grant}
use Rattle.tl_coherence.specs.protocol.Packet.{ReleaseAck, GrantAck, Packet, set, set_at}

-- how a block is in service: not at all; for a client's Acquire (`own`) or access with this source,
-- waiting for ProbeAcks with this cap; a Grant on channel D, with data or without; its GrantAck on E
pub data Service : Type 0 where
  Free : Service
  Waits : (client : ℕ) → (own : Bool) → (source : ℕ) → Cap → Service
  GrantSent : (client : ℕ) → (data_too : Bool) → Cap → Service
  GrantTaken : (client : ℕ) → Service

abbrev pub view : Service → ℕ → View
view Free c = Idle
view (Waits r own s k) c = if own && (c == r) then Own else Other k
view (GrantSent r d k) c = if c == r then Granting d k else GrantedOther
view (GrantTaken r) c = if c == r then Acknowledging else GrantedOther

-- one block: its service with its tracker, each client's part, the sources of each client's Acquire and Release,
-- the copies, the bytes that wait for a Grant, the manager's memory, and the one memory that all stands for
pub record Block (X : Type 0) : Type 0 where
  pub service : Service
  pub tracker : ℕ
  pub pair : ℕ → ClientBlock
  pub source : ℕ → ℕ
  pub release_source : ℕ → ℕ
  pub copy : ℕ → X
  pub waiting : ℕ → X
  pub memory : X
  pub truth : X

-- the five channels of a link, the next token to be taken first
pub record Link : Type 0 where
  pub a : List Packet
  pub b : List Packet
  pub c : List Packet
  pub d : List Packet
  pub e : List Packet

-- an A source of a client: free, an access on A, in service, or answered on D, or an Acquire of a block
pub data SourceState : Type 0 where
  SourceFree : SourceState
  Asked : SourceState
  InService : (block : ℕ) → SourceState
  Replied : SourceState
  Acquires : (block : ℕ) → SourceState

-- all blocks, the links of all clients, for each client and A source what it is used for, for each client and C
-- source the block of the Release with it, and for each tracker the block that is in service with it
pub record State (X : Type 0) : Type 0 where
  pub block : ℕ → Block X
  pub link : ℕ → Link
  pub uses : ℕ → ℕ → SourceState
  pub lets : ℕ → ℕ → Option ℕ
  pub tracked : ℕ → Option ℕ

abbrev pub packet : Kind → ℕ → Packet
packet k n = record { kind = k; number = n }

-- the channel of a kind
abbrev pub on : Kind → Link → List Packet
on Request l = l.a
on Acquire l = l.a
on Probe l = l.b
on ProbeAck l = l.c
on Release l = l.c
on Answer l = l.d
on Grant l = l.d
on ReleaseAck l = l.d
on GrantAck l = l.e

abbrev pub packets_on : Channel → Link → List Packet
packets_on channel.A l = l.a
packets_on channel.B l = l.b
packets_on channel.C l = l.c
packets_on channel.D l = l.d
packets_on channel.E l = l.e

-- the kind is one of the channel
abbrev pub is_on : Channel → Kind → Bool
is_on channel.A Request = true
is_on channel.A Acquire = true
is_on channel.B Probe = true
is_on channel.C ProbeAck = true
is_on channel.C Release = true
is_on channel.D Answer = true
is_on channel.D Grant = true
is_on channel.D ReleaseAck = true
is_on channel.E GrantAck = true
is_on _ _ = false

-- ---- a client is asked, and starts an operation with this source

-- with a token behind those of a channel
abbrev pub with_a : Packet → Link → Link
with_a x l = record l { a = l.a ++ x ∷ [] }

abbrev pub with_c : Packet → Link → Link
with_c x l = record l { c = l.c ++ x ∷ [] }

abbrev pub with_d : Packet → Link → Link
with_d x l = record l { d = l.d ++ x ∷ [] }

abbrev pub access_asked : {X : Type 0} → ℕ → ℕ → State X → State X
access_asked c source s =
    record s { link = set c (with_a (packet Request source) (s.link c)) s.link; uses = set_at c source Asked s.uses }

-- the bytes wait for the Grant where the whole block is to be stored
abbrev pub acquiring_block : {X : Type 0} → ℕ → ℕ → Bool → Grow → X → Block X → Block X
acquiring_block c source whole g bytes b =
    record b {
      pair = set c (after_acquire whole g (b.pair c)) b.pair;
      source = set c source b.source;
      waiting =
          set c bytes b.waiting;
    }

abbrev pub acquire_asked : {X : Type 0} → ℕ → ℕ → ℕ → Bool → Grow → X → State X → State X
acquire_asked c n source whole g bytes s = record s {
  block = set n (acquiring_block c source whole g bytes (s.block n)) s.block;
  link = set c (with_a (packet Acquire n) (s.link c)) s.link;
  uses = set_at c source (Acquires n) s.uses;
}

abbrev pub releasing_block : {X : Type 0} → ℕ → ℕ → Prune → Block X → Block X
releasing_block c source r b = record b {
  pair = set c (after_release r (b.pair c)) b.pair;
  release_source =
      set c source b.release_source;
}

abbrev pub release_asked : {X : Type 0} → ℕ → ℕ → ℕ → Prune → State X → State X
release_asked c n source r s = record s {
  block = set n (releasing_block c source r (s.block n)) s.block;
  link = set c (with_c (packet Release n) (s.link c)) s.link;
  lets = set_at c source (Some n) s.lets;
}

-- a client that may write stores: the block has these bytes
abbrev pub stored_block : {X : Type 0} → ℕ → X → Block X → Block X
stored_block c bytes b = record b { copy = set c bytes b.copy; truth = bytes }

abbrev pub block_stored : {X : Type 0} → ℕ → ℕ → X → State X → State X
block_stored c n bytes s = record s { block = set n (stored_block c bytes (s.block n)) s.block }

-- ---- a request is taken, and answered at once

-- `f` is what the access does to the bytes of its block
abbrev pub performed_block : {X : Type 0} → (X → X) → Block X → Block X
performed_block f b = record b { memory = f b.memory; truth = f b.truth }

abbrev pub answered_link : Packet → List Packet → Link → Link
answered_link x rest l = record l { a = rest; d = l.d ++ x ∷ [] }

abbrev pub access_answered : {X : Type 0} → ℕ → ℕ → ℕ → (X → X) → List Packet → State X → State X
access_answered c n source f rest s = record s {
  block = set n (performed_block f (s.block n)) s.block;
  link = set c (answered_link (packet Answer source) rest (s.link c)) s.link;
  uses = set_at c source Replied s.uses;
}

abbrev pub granted_at_once : {X : Type 0} → ℕ → ℕ → Bool → Cap → Block X → Block X
granted_at_once r tracker d k b = record b {
  service = GrantSent r d k;
  tracker = tracker;
  pair =
      set r (after_grant_sent k (b.pair r)) b.pair;
}

abbrev pub acquire_granted : {X : Type 0} → ℕ → ℕ → ℕ → Bool → Cap → List Packet → State X → State X
acquire_granted r n tracker d k rest s = record s {
  block = set n (granted_at_once r tracker d k (s.block n)) s.block;
  link = set r (answered_link (packet Grant n) rest (s.link r)) s.link;
  tracked = set tracker (Some n) s.tracked;
}

-- ---- a request is taken, and clients are probed: all who are recorded with too much, but for the sender of an Acquire

abbrev pub served_pair : ℕ → Bool → Cap → (ℕ → ClientBlock) → ℕ → ClientBlock
served_pair r own k pair d = if own && (d == r) then pair d else after_served k (pair d)

abbrev pub served_block : {X : Type 0} → ℕ → Bool → ℕ → ℕ → Cap → Block X → Block X
served_block r own source tracker k b = record b {
  service = Waits r own source k;
  tracker = tracker;
  pair =
      served_pair r own k b.pair;
}

abbrev pub with_probe : ℕ → Bool → Link → Link
with_probe n true l = record l { b = l.b ++ packet Probe n ∷ [] }
with_probe n false l = l

abbrev pub is_probed : ℕ → Bool → Cap → Perm → ℕ → Bool
is_probed r own k recorded d = not (own && (d == r)) && is_above k recorded

abbrev pub served_link : {X : Type 0} → ℕ → Bool → ℕ → Cap → List Packet → Block X → (ℕ → Link) → ℕ → Link
served_link r own n k rest b link d =
    with_probe n (is_probed r own k (b.pair d).recorded d) (if d == r then record (link d) { a = rest } else link d)

abbrev pub acquire_served : {X : Type 0} → ℕ → ℕ → ℕ → ℕ → Cap → List Packet → State X → State X
acquire_served r n source tracker k rest s = record s {
  block = set n (served_block r true source tracker k (s.block n)) s.block;
  link = served_link r true n k rest (s.block n) s.link;
  tracked = set tracker (Some n) s.tracked;
}

abbrev pub access_served : {X : Type 0} → ℕ → ℕ → ℕ → ℕ → Cap → List Packet → State X → State X
access_served r n source tracker k rest s = record s {
  block = set n (served_block r false source tracker k (s.block n)) s.block;
  link = served_link r false n k rest (s.block n) s.link;
  uses = set_at r source (InService n) s.uses;
  tracked = set tracker (Some n) s.tracked;
}

-- ---- a Probe is taken, and answered in the same call

abbrev pub probed_block : {X : Type 0} → ℕ → Cap → Block X → Block X
probed_block c k b = record b { pair = set c (after_probe k (b.pair c)) b.pair }

abbrev pub probed_link : ℕ → List Packet → Link → Link
probed_link n rest l = record l { b = rest; c = l.c ++ packet ProbeAck n ∷ [] }

abbrev pub probe_taken : {X : Type 0} → ℕ → ℕ → Cap → List Packet → State X → State X
probe_taken c n k rest s =
    record s {
      block = set n (probed_block c k (s.block n)) s.block;
      link =
          set c (probed_link n rest (s.link c)) s.link;
    }

-- ---- a ProbeAck is taken

-- the memory with the data of a message that gives Trunk up, which has them
abbrev pub written_from : {X : Type 0} → Perm → X → X → X
written_from left payload memory = if same_perm left perm.Trunk then payload else memory

abbrev pub written : {X : Type 0} → Report → X → X → X
written r payload memory = written_from (report_left r) payload memory

-- others are missing
abbrev pub reported_block : {X : Type 0} → ℕ → Report → Block X → Block X
reported_block c r b = record b { pair = set c (after_report r (b.pair c)) b.pair; memory = written r b.truth b.memory }

abbrev pub report_taken : {X : Type 0} → ℕ → ℕ → Report → List Packet → State X → State X
report_taken c n r rest s =
    record s {
      block = set n (reported_block c r (s.block n)) s.block;
      link =
          set c (record (s.link c) { c = rest }) s.link;
    }

-- it is the last one, and the access that waited for it is answered
abbrev pub ended_block : {X : Type 0} → ℕ → Report → (X → X) → Block X → Block X
ended_block c r f b = record b {
  service = Free;
  pair = set c (after_report r (b.pair c)) b.pair;
  memory = f (written r b.truth b.memory);
  truth = f b.truth;
}

-- without the first token of channel C
abbrev pub popped_link : ℕ → List Packet → (ℕ → Link) → ℕ → Link
popped_link c rest link = set c (record (link c) { c = rest }) link

abbrev pub ended_link : ℕ → ℕ → Packet → List Packet → (ℕ → Link) → ℕ → Link
ended_link c q x rest link d = if d == q then with_d x (popped_link c rest link d) else popped_link c rest link d

abbrev pub report_answers : {X : Type 0} → ℕ → ℕ → ℕ → ℕ → Report → (X → X) → List Packet → State X → State X
report_answers c q n source r f rest s = record s {
  block = set n (ended_block c r f (s.block n)) s.block;
  link = ended_link c q (packet Answer source) rest s.link;
  uses = set_at q source Replied s.uses;
  tracked = set (s.block n).tracker None s.tracked;
}

-- it is the last one, and the Acquire that waited for it is granted
abbrev pub granted_pair : ℕ → ℕ → Report → Cap → (ℕ → ClientBlock) → ℕ → ClientBlock
granted_pair c q r k pair = set q (after_grant_sent k (pair q)) (set c (after_report r (pair c)) pair)

abbrev pub granted_block : {X : Type 0} → ℕ → ℕ → Report → Bool → Cap → Block X → Block X
granted_block c q r d k b =
    record b { service = GrantSent q d k; pair = granted_pair c q r k b.pair; memory = written r b.truth b.memory }

abbrev pub granted_link : ℕ → ℕ → ℕ → List Packet → (ℕ → Link) → ℕ → Link
granted_link c q n rest link =
    set q (record (link q) { d = (link q).d ++ packet Grant n ∷ [] }) (set c (record (link c) { c = rest }) link)

abbrev pub report_grants : {X : Type 0} → ℕ → ℕ → ℕ → Report → Bool → Cap → List Packet → State X → State X
report_grants c q n r d k rest s =
    record s { block = set n (granted_block c q r d k (s.block n)) s.block; link = granted_link c q n rest s.link }

-- ---- a Release is taken, and acknowledged in the same call

abbrev pub let_block : {X : Type 0} → ℕ → Prune → Block X → Block X
let_block c r b = record b {
  pair = set c (after_release_taken r (b.pair c)) b.pair;
  memory =
      written_from (prune_left r) b.truth b.memory;
}

abbrev pub let_link : ℕ → List Packet → Link → Link
let_link n rest l = record l { c = rest; d = l.d ++ packet ReleaseAck n ∷ [] }

abbrev pub release_taken : {X : Type 0} → ℕ → ℕ → Prune → List Packet → State X → State X
release_taken c n r rest s =
    record s { block = set n (let_block c r (s.block n)) s.block; link = set c (let_link n rest (s.link c)) s.link }

-- ---- a response is taken

abbrev pub answer_taken : {X : Type 0} → ℕ → ℕ → List Packet → State X → State X
answer_taken c source rest s =
    record s { link = set c (record (s.link c) { d = rest }) s.link; uses = set_at c source SourceFree s.uses }

-- the copy and the one memory after a Grant: of a store of the whole block, the bytes that waited for it
abbrev pub granted_copy : {X : Type 0} → Bool → Bool → X → X → X → X
granted_copy true data_too waiting truth copy = waiting
granted_copy false true waiting truth copy = truth
granted_copy false false waiting truth copy = copy

abbrev pub granted_truth : {X : Type 0} → Bool → X → X → X
granted_truth true waiting truth = waiting
granted_truth false waiting truth = truth

abbrev pub taken_block : {X : Type 0} → ℕ → Bool → Bool → Cap → Block X → Block X
taken_block c whole d k b = record b {
  service = GrantTaken c;
  pair = set c (after_grant k (b.pair c)) b.pair;
  copy = set c (granted_copy whole d (b.waiting c) b.truth (b.copy c)) b.copy;
  truth = granted_truth whole (b.waiting c) b.truth;
}

abbrev pub taken_link : ℕ → List Packet → Link → Link
taken_link n rest l = record l { d = rest; e = l.e ++ packet GrantAck n ∷ [] }

abbrev pub grant_taken : {X : Type 0} → ℕ → ℕ → Bool → Bool → Cap → List Packet → State X → State X
grant_taken c n whole d k rest s = record s {
  block = set n (taken_block c whole d k (s.block n)) s.block;
  link = set c (taken_link n rest (s.link c)) s.link;
  uses = set_at c ((s.block n).source c) SourceFree s.uses;
}

abbrev pub let_go_block : {X : Type 0} → ℕ → Block X → Block X
let_go_block c b = record b { pair = set c (after_release_ack (b.pair c)) b.pair }

abbrev pub release_ack_taken : {X : Type 0} → ℕ → ℕ → List Packet → State X → State X
release_ack_taken c n rest s = record s {
  block = set n (let_go_block c (s.block n)) s.block;
  link = set c (record (s.link c) { d = rest }) s.link;
  lets = set_at c ((s.block n).release_source c) None s.lets;
}

-- ---- a GrantAck is taken

abbrev pub freed_block : {X : Type 0} → Block X → Block X
freed_block b = record b { service = Free }

abbrev pub grant_ack_taken : {X : Type 0} → ℕ → ℕ → List Packet → State X → State X
grant_ack_taken c n rest s = record s {
  block = set n (freed_block (s.block n)) s.block;
  link = set c (record (s.link c) { e = rest }) s.link;
  tracked = set (s.block n).tracker None s.tracked;
}
